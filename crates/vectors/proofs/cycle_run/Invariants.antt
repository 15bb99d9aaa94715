use Rattle.std.proofs.Common.{◌-◌, length}
use Rattle.vectors.proofs.Cycling.{Runs}
use Rattle.vectors.proofs.cycle_run.Given as goal

abbrev pub invariant-loop-done : goal.invariant-loop-done
invariant-loop-done l = Runs l.src l.fn.out (length l.fn.out) l.out l.done

abbrev pub decreases-loop-done : goal.decreases-loop-done
decreases-loop-done l = length l.fn.out - l.done
