use Rattle.std.proofs.Common.{◌≡◌, ◌≤◌, ◌-◌, ◌++◌, take, drop, length}
use denote.Param.{number}
use Rattle.copying.specs.Steps.{ordered}
use Rattle.copying.specs.contracts.copy_eights.{BACK-type}
use Rattle.copying.proofs.copy_eights.Given as goal

abbrev pub invariant-loop-done : goal.invariant-loop-done
invariant-loop-done g l =
    record { within : l.done ≤ length l.src; copied : l.out ≡ take l.done (ordered (BACK-type g.row.T (number g.row.BACK)) l.src) ++ drop l.done l.fn.out }

abbrev pub decreases-loop-done : goal.decreases-loop-done
decreases-loop-done g l = length l.src - l.done
