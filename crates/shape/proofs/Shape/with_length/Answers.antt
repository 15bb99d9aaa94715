use Rattle.std.proofs.Common.{◌≤◌, ◌<◌, ◌∙◌, sym, rules}
use Rattle.std.proofs.Math.ListN.{set}
use Rattle.std.proofs.Math.Seq.{take-set-lt}
use Rattle.shape.specs.Shape.{max_rank, counted, with_length}
use Rattle.shape.proofs.Made.{made-is, with-length-is}
use Rattle.shape.proofs.Shape.with_length.Goals as goal

pub returns-then-not-has_axis : goal.returns-then-not-has_axis
unfolding with_length
returns-then-not-has_axis c = rw (← c.if-not-has_axis.ensures) c.scalar.ensures

pub returns : goal.returns
returns c =
    let s = c.args.self in
    let high : s.rank ≤ max_rank = search rules in
    let on : c.args.axis < s.rank = search rules in
    c.of_lengths.ensures
    ∙ made-is (set (counted s) c.args.axis c.args.n) s.rank _ high (take-set-lt s.rank s.lens c.args.axis c.args.n on)
    ∙ sym (with-length-is s c.args.axis c.args.n high on)
