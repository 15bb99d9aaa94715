use Rattle.transposes.proofs.Choosing.{Choosing}
use Rattle.transposes.proofs.chosen.Given as goal

abbrev pub invariant-loop-i : goal.invariant-loop-i
invariant-loop-i l = Choosing l.g l.l l.to l.axes l.i
