use Rattle.std.proofs.Common.{arith, rules}
use lib.IntN.{pos}
use Rattle.meaning.specs.Terms.{is_bit}
use Rattle.meaning.proofs.Every.{all-kept, all-lost, all_end}
use Rattle.masks.proofs.all_bits.Goals as goal
use Rattle.masks.proofs.all_bits.Goals.{then-not-is_bit, else-not-is_bit}

pub loop-z-preserved : goal.loop-z-preserved
loop-z-preserved c =
    let l = c.args.l.now in
    let i = c.loop-z.z-index in
    elim c.if-not-is_bit.branch [
      | then-not-is_bit w ↦ all-lost is_bit l i c.loop-z.all c.loop-z.invariant (pos 0) (omega arith) (search rules) w.all-is
      | else-not-is_bit w ↦ all-kept is_bit l i c.loop-z.all c.loop-z.invariant (pos 0) (omega arith) (search rules) w.all-is
    ]

pub returns : goal.returns
returns c = all_end is_bit c.args.l.now c.loop-z.z-index c.loop-z.all c.loop-z.invariant (omega arith)
