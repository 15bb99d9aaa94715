use Rattle.std.proofs.Common.{get_or}
use Rattle.meaning.specs.Terms.{ones}
use Rattle.masks.proofs.Kept.{Front}
use Rattle.masks.proofs.rows.noted.Given as goal

abbrev pub invariant-loop-i : goal.invariant-loop-i
invariant-loop-i l = Front l.l (λ j. get_or (ones l.l) j 0) 0 l.initial.at l.at l.q l.i
