use Rattle.std.proofs.Common.{◌≡◌, ◌∙◌, sym, ℕ, length, true, false}
use mathlib.Core.Path.{refl}
use mathlib.Core.Bool.{not, cond}
use lib.Dec.{eqb}
use lib.IntN.{◌-ℤ◌}
use borrow.Author.Tests.{eq-eqb, ne_eqb}
use Rattle.meaning.specs.Array.{array_of}
use Rattle.meaning.specs.Primitives.{rotate}
use Rattle.meaning.specs.Terms.{rank, as_vector, within, is_list}
use Rattle.answer.specs.Answer.{own}
use Rattle.answer.specs.Refused.{asked}
use Rattle.answer.proofs.Axes.{axis-none, axis-refused, axis-found}
use Rattle.answer.proofs.Exits.{asked_on}
use Rattle.turns.proofs.Calls.{rotate-own}
use Rattle.turns.proofs.rotation.Goals as goal
use Rattle.turns.proofs.rotation.Goals.{Else-not-is_list, In_ok-axis, After-elements-elements}

pub returns-then-not-is_list-clause-number : goal.returns-then-not-is_list-clause-number
unfolding asked
returns-then-not-is_list-clause-number c = sym (rotate-own _ _ c.args.l.now c.args.r.now _ refl ∙ rw (sym c.if-not-is_list.ensures))

pub returns-in_err-axis-clause-number : goal.returns-in_err-axis-clause-number
returns-in_err-axis-clause-number c =
    let w = axis-none c.ranges.k c.ranges.g c.axes.result c.axis.result c.axis.ensures.number c.in_err-axis.was in
    let l : is_list (array_of c.args.l.now) ≡ true = sym c.if-not-is_list.ensures in
    let none : within (c.args.k -ℤ c.args.g) (rank (as_vector (array_of c.args.r.now))) ≡ false = rw (sym c.axes.ensures) w in
    asked_on c.in_err-axis.was c.from_residual.result c.from_residual.ensures.1
    ∙ axis-refused c.ranges.k c.ranges.g c.axes.result c.axis.result c.axis.ensures.number c.in_err-axis.was
    ∙ sym (rotate-own _ _ c.args.l.now c.args.r.now _ refl ∙ rw (l, none) refl)

-- What is left is LENGTH.
rest : (c : After-elements-elements)
    → own 25 (rotate c.args.g c.args.k (array_of c.args.l.now) (array_of c.args.r.now)).refusals
    ≡ cond {A = ℕ} (not (eqb (length c.elements-elements.result.now) 1)) 6 0
rest c =
    let a = axis-found c.ranges.k c.ranges.g c.axes.result c.axis.result c.axis.ensures.number c.in_ok-axis.was c.axis.ensures.axis in
    let l : is_list (array_of c.args.l.now) ≡ true = sym c.if-not-is_list.ensures in
    let w : within (c.args.k -ℤ c.args.g) (rank (as_vector (array_of c.args.r.now))) ≡ true = rw (sym c.axes.ensures) a.inside in
    rotate-own _ _ c.args.l.now c.args.r.now _ refl ∙ rw (l, w, c.elements-elements.ensures) refl

pub returns-then-elements-ne1-clause-number : goal.returns-then-elements-ne1-clause-number
unfolding asked
returns-then-elements-ne1-clause-number c = sym (rest c.before ∙ rw (ne_eqb _ 1 c.if-elements-ne1.true))

pub returns-clause-number : goal.returns-clause-number
unfolding asked
returns-clause-number c = sym (rest c.before.before ∙ rw (eq-eqb _ 1 c.if-elements-ne1.false))
