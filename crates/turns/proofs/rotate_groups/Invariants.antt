use Rattle.std.proofs.Common.{◌-◌, ◌*◌}
use Rattle.copying.proofs.Blockwise.{Blockwise}
use Rattle.turns.specs.Steps.{cut_blocks}
use Rattle.turns.proofs.rotate_groups.Given as goal

abbrev pub invariant-loop-o : goal.invariant-loop-o
invariant-loop-o l =
    Blockwise l.w.outer (l.w.length * l.w.inner) (cut_blocks l.r (l.w.length * l.w.inner) l.cut) l.initial.out l.out l.at l.o

abbrev pub decreases-loop-o : goal.decreases-loop-o
decreases-loop-o l = l.w.outer - l.o
