use Rattle.std.proofs.Common.{◌≡◌, ℕ, ◌≤◌, ◌<◌}
use denote.Param.{number}
use Rattle.masks.specs.contracts.rows.past.{ONE-type}
use Rattle.masks.specs.Steps.Actions.{one_at}
use Rattle.masks.proofs.rows.past.Given as goal

abbrev pub invariant-loop-e : goal.invariant-loop-e
invariant-loop-e g l = (j : ℕ) → l.i ≤ j → j < l.e → one_at l.l j ≡ ONE-type (number g.row.ONE)
