use mathlib.Core.Path.{refl}
use Rattle.answer.specs.Refused.{asked}
use Rattle.masks.proofs.unless.Goals as goal

pub returns-then-holds : goal.returns-then-holds
unfolding asked
returns-then-holds c = rw c.if-holds.true refl

pub returns-else-holds : goal.returns-else-holds
unfolding asked
returns-else-holds c = rw c.if-holds.false refl
