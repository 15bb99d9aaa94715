use Rattle.meaning.specs.Primitives.{backwards}
use Rattle.transposes.proofs.Choosing.{SentSoFar}
use Rattle.transposes.proofs.backwards.Given as goal

abbrev pub invariant-loop-i : goal.invariant-loop-i
invariant-loop-i l = SentSoFar (backwards l.axes) l.to l.i
