use Rattle.std.proofs.Common.{◌-◌, length}
use Rattle.masks.proofs.Kept.{Kept}
use Rattle.masks.proofs.rows.compress_rows.Given as goal

abbrev pub invariant-loop-to : goal.invariant-loop-to
invariant-loop-to l = Kept l.l l.r l.inner l.initial.out l.out l.to l.i

abbrev pub decreases-loop-to : goal.decreases-loop-to
decreases-loop-to l = length l.l - l.i
