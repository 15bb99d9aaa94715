use Rattle.std.proofs.Common.{◌≡◌, ◌∙◌, ap, arith, negsuc}
use Rattle.meaning.specs.Terms.{from_zero}
use Rattle.signed.proofs.Reading.{read32}
use Rattle.lookups.specs.Steps.{hash_of}
use Rattle.lookups.proofs.table.hash.Goals as goal

pub returns : goal.returns
unfolding hash_of
returns c =
    let key : c.abs_diff-key.result ≡ from_zero (negsuc 2147483647) c.args.x =
    c.abs_diff-key.ensures ∙ ap (from_zero (negsuc 2147483647)) (read32 _ c.ranges.x) in
    (omega (arith, key), omega arith)
