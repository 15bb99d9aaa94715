use Rattle.std.proofs.Common.{◌≡◌, ◌∙◌, sym, true, not}
use mathlib.Core.Path.{refl}
use mathlib.Core.Bool.{cond}
use Rattle.meaning.specs.Array.{Array, array_of}
use Rattle.meaning.specs.Refusal.{number}
use Rattle.meaning.specs.Refusal.Refusal.{DOMAIN}
use Rattle.meaning.specs.Terms.{negative, is_list}
use Rattle.meaning.specs.Primitives.{reshape}
use Rattle.answer.specs.Answer.{own}
use Rattle.answer.specs.Refused.{asked}
use Rattle.vectors.proofs.Calls.{every_all, reshape-own}
use Rattle.vectors.proofs.reshaped.Goals as goal
use Rattle.vectors.proofs.reshaped.Goals.{After-none_negative}

pub returns-then-not-is_list-clause-number : goal.returns-then-not-is_list-clause-number
unfolding asked
returns-then-not-is_list-clause-number c R = sym (reshape-own (array_of c.args.l.now) R ∙ rw (sym c.if-not-is_list.ensures))

-- A list: what is left is DOMAIN.
rest : (c : After-none_negative) (R : Array) → own 21 (reshape (array_of c.args.l.now) R).refusals ≡ cond (not c.none_negative.result) (number DOMAIN) 0
rest c R =
    let l : is_list (array_of c.args.l.now) ≡ true = sym c.if-not-is_list.ensures in
    let all = every_all (λ z. not (negative z)) (array_of c.args.l.now).elements in
    reshape-own (array_of c.args.l.now) R ∙ rw (l, all, c.none_negative.ensures, c.elements-lengths.ensures) refl

pub returns-then-not-none_negative-clause-number : goal.returns-then-not-none_negative-clause-number
unfolding asked
returns-then-not-none_negative-clause-number c R = sym (rest c.before R ∙ rw c.if-not-none_negative.true)

pub returns-clause-number : goal.returns-clause-number
unfolding asked
returns-clause-number c R = sym (rest c.before R ∙ rw c.if-not-none_negative.false)
