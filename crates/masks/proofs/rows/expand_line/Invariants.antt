use Rattle.std.proofs.Common.{◌-◌, length}
use Rattle.masks.proofs.Opened.{Opened}
use Rattle.masks.proofs.rows.expand_line.Given as goal

abbrev pub invariant-loop-i : goal.invariant-loop-i
invariant-loop-i l = Opened l.l l.r 1 l.initial.out l.out l.from l.i l.i

abbrev pub decreases-loop-i : goal.decreases-loop-i
decreases-loop-i l = length l.l - l.i
