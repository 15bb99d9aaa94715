use Rattle.std.proofs.Common.{◌≡◌, ◌∙◌, sym, ℕ, get_or}
use mathlib.Core.Path.{refl, ap}
use mathlib.Core.Bool.{not, cond}
use lib.IntN.{◌-ℤ◌}
use borrow.Author.Tests.{eq-eqb}
use Rattle.signed.proofs.Finding.{found_at, found_none, read_found}
use Rattle.meaning.specs.Array.{array_of}
use Rattle.meaning.specs.Item.{item_refusal}
use Rattle.meaning.specs.Terms.{rank, within}
use Rattle.answer.specs.Answer.{lent}
use Rattle.answer.specs.Refused.{asked}
use Rattle.answer.proofs.Early.{early-read, one-fine}
use Rattle.answer.proofs.Exits.{asked_on, asked_ok, asked_err, number-some}
use Rattle.answer.proofs.Lent.{formed}
use Rattle.items.proofs.Refusals.{item-early, item-own, item-rest}
use Rattle.items.proofs.found.Goals as goal
use Rattle.items.proofs.found.Goals.{After-position}

pub returns-in_err-r-clause-number : goal.returns-in_err-r-clause-number
returns-in_err-r-clause-number c =
    let e = early-read c.ranges.g c.early_one.result _ c.early_one.ensures.number in
    asked_on c.in_err-r.was c.from_residual.result c.from_residual.ensures.1
    ∙ e
    ∙ item-early c.args.r.now c.args.g c.args.i (λ z. number-some _ (sym (asked_err c.in_err-r.was) ∙ e ∙ z))

pub returns-then-rank-eq0-clause-number : goal.returns-then-rank-eq0-clause-number
unfolding asked
returns-then-rank-eq0-clause-number c =
    let fine = sym (early-read c.ranges.g c.early_one.result _ c.early_one.ensures.number) ∙ asked_ok c.in_ok-r.was in
    let none : rank (array_of c.args.r.now) ≡ 0 = sym (c.rank.ensures ∙ ap (λ o. rank (array_of o)) c.in_ok-r.ensures.operand) ∙ c.if-rank-eq0.true in
    sym (item-own c.args.r.now c.args.g c.args.i fine ∙ rw (eq-eqb (rank (array_of c.args.r.now)) 0 none) refl)

-- What is left is INDEX.
rest : (c : After-position)
    → item_refusal c.args.r.now c.args.g c.args.i ≡ cond {A = ℕ} (not (within (c.args.i -ℤ c.args.g) (get_or c.r.inside.shape.lens 0 0))) 8 0
rest c =
    let e : c.args.r.now ≡ lent c.r.inside.shape c.r.inside.elements.now = sym (c.r.view_is ∙ c.in_ok-r.ensures.operand) in
    let f = one-fine c.ranges.g c.early_one.result c.early_one.ensures.number c.in_ok-r.was e c.r.invariant in
    let g = formed c.r.invariant in
    ap (λ o. item_refusal o c.args.g c.args.i) e
    ∙ item-rest c.args.g c.args.i g f.none
    (λ z. c.if-rank-eq0.false (c.rank.ensures ∙ ap (λ o. rank (array_of o)) (sym c.r.view_is) ∙ g.rank_is ∙ z))

pub returns-in_default-clause-number : goal.returns-in_default-clause-number
unfolding asked
returns-in_default-clause-number c =
    let w = found_none c.args.i c.args.g _ (sym c.in_default.is ∙ c.position.ensures ∙ read_found _ _ c.ranges.i c.ranges.g _) in
    sym (rest c.before ∙ rw w refl)

pub returns-clause-number : goal.returns-clause-number
unfolding asked
returns-clause-number c =
    let a = found_at c.args.i c.args.g _ _ (sym c.in-Some.is ∙ c.position.ensures ∙ read_found _ _ c.ranges.i c.ranges.g _) in
    sym (rest c.before ∙ rw a.inside refl)
