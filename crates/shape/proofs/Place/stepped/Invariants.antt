-- The axes from i on were at their end and start again, the positions before them are the place's.
use Rattle.shape.proofs.Successor.{Carry}
use Rattle.shape.proofs.Place.stepped.Given as goal

abbrev pub invariant-loop-i : goal.invariant-loop-i
invariant-loop-i l = Carry l.self l.s l.positions l.i
