use Rattle.std.proofs.Common.{cond, pos}
use Rattle.masks.specs.Steps.Actions.{one_at}
use Rattle.masks.proofs.Written.{Written}
use Rattle.masks.proofs.rows.spread.Given as goal

abbrev pub invariant-loop-i : goal.invariant-loop-i
invariant-loop-i l = Written (λ j. cond (one_at l.l j) l.x (pos 0)) 1 l.fn.out l.out l.i l.i
