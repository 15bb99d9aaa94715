use Rattle.std.proofs.Common.{arith}
use mir.Syntax.{w32}
use mir.Facts.{to_z-of_z}
use borrow.Author.Rules.{sfits_of}
use Rattle.transposes.proofs.Placing.{reach_from, placed-none, placed-more, placed-set}
use Rattle.transposes.proofs.put_line.Goals as goal

pub loop-i-init : goal.loop-i-init
loop-i-init c = record { placed = placed-none _; starts = reach_from c.requires }

pub loop-i-preserved : goal.loop-i-preserved
loop-i-preserved c = record {
  placed = placed-more c.loop-i.invariant.placed
      (placed-set _ _ _ _ _ (omega (arith, c.loop-i.invariant.starts)) (to_z-of_z {w = w32} (sfits_of c.out-1.given)));
  starts = c.loop-i.invariant.starts;
}
