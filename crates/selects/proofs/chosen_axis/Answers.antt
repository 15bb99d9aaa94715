use Rattle.std.proofs.Common.{◌≡◌, ◌∙◌, sym, true, false}
use mathlib.Core.Path.{refl}
use lib.IntN.{◌-ℤ◌}
use borrow.Author.Tests.{eq-eqb}
use Rattle.meaning.specs.Array.{array_of}
use Rattle.meaning.specs.Terms.{rank, within, is_list}
use Rattle.signed.proofs.Reading.{read32}
use Rattle.answer.specs.Refused.{asked}
use Rattle.answer.proofs.Axes.{axis-none, axis-refused, axis-found}
use Rattle.answer.proofs.Exits.{asked_on}
use Rattle.answer.proofs.Lent.{formed}
use Rattle.selects.proofs.Calls.{select-own, select-on, select-rest}
use Rattle.selects.proofs.chosen_axis.Goals as goal
use Rattle.selects.proofs.chosen_axis.Goals.{After-all_within}

pub returns-then-rank-eq0-clause-number : goal.returns-then-rank-eq0-clause-number
unfolding asked
returns-then-rank-eq0-clause-number c =
    sym (select-own c.args.g c.args.k c.args.l.now c.args.r.now ∙ rw (eq-eqb (rank (array_of c.args.r.now)) 0 (sym c.rank.ensures ∙ c.if-rank-eq0.true)) refl)

pub returns-then-not-is_list-clause-number : goal.returns-then-not-is_list-clause-number
unfolding asked
returns-then-not-is_list-clause-number c =
    sym (select-on c.args.g c.args.k c.args.l.now c.args.r.now (λ z. c.if-rank-eq0.false (c.rank.ensures ∙ z)) ∙ rw (sym c.if-not-is_list.ensures) refl)

pub returns-in_err-axis-clause-number : goal.returns-in_err-axis-clause-number
returns-in_err-axis-clause-number c =
    let w = axis-none c.ranges.k c.ranges.g c.rank-2.result c.axis.result c.axis.ensures.number c.in_err-axis.was in
    let l : is_list (array_of c.args.l.now) ≡ true = sym c.if-not-is_list.ensures in
    let none : within (c.args.k -ℤ c.args.g) (rank (array_of c.args.r.now)) ≡ false = rw (sym c.rank-2.ensures) w in
    asked_on c.in_err-axis.was c.from_residual.result c.from_residual.ensures.1
    ∙ axis-refused c.ranges.k c.ranges.g c.rank-2.result c.axis.result c.axis.ensures.number c.in_err-axis.was
    ∙ sym (select-on c.args.g c.args.k c.args.l.now c.args.r.now (λ z. c.if-rank-eq0.false (c.rank.ensures ∙ z)) ∙ rw (l, none) refl)

-- What is left is INDEX.
pub returns-then-not-all_within-clause-number : goal.returns-then-not-all_within-clause-number
unfolding asked
returns-then-not-all_within-clause-number c =
    let a = axis-found c.ranges.k c.ranges.g c.rank-2.result c.axis.result c.axis.ensures.number c.in_ok-axis.was c.axis.ensures.axis in
    let n = rw (← c.r.view_is) at c.rank-2.ensures in
    let all = rw (c.of-choice.ensures, read32 _ c.ranges.g) at c.all_within.ensures in
    rw (← c.r.view_is)
    (sym (select-rest c.args.g c.args.k c.args.l.now (formed c.r.invariant) (sym c.if-not-is_list.ensures) n a
    ∙ rw (← all, c.if-not-all_within.true) refl))

pub returns-clause-number : goal.returns-clause-number
unfolding asked
returns-clause-number c =
    let a = axis-found c.ranges.k c.ranges.g c.rank-2.result c.axis.result c.axis.ensures.number c.in_ok-axis.was c.axis.ensures.axis in
    let n = rw (← c.r.view_is) at c.rank-2.ensures in
    let all = rw (c.of-choice.ensures, read32 _ c.ranges.g) at c.all_within.ensures in
    rw (← c.r.view_is)
    (sym (select-rest c.args.g c.args.k c.args.l.now (formed c.r.invariant) (sym c.if-not-is_list.ensures) n a
    ∙ rw (← all, c.if-not-all_within.false) refl))
