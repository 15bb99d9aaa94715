use Rattle.std.proofs.Common.{arith, ◌≡◌, ◌∙◌, sym, length, get_or, pos}
use mathlib.Core.Path.{refl, ap}
use Rattle.meaning.specs.Array.{array_of}
use Rattle.meaning.specs.Primitives.{rotate}
use Rattle.answer.specs.Answer.{lent}
use Rattle.answer.proofs.Early.{early-read, early-exit}
use Rattle.answer.proofs.Exits.{exit, asked_ok}
use Rattle.answer.proofs.Lent.{formed}
use Rattle.answer.proofs.Order.{own-replied, as-result, late-replied, given-replied, Ready, Roomy, late-fine}
use mir.Syntax.{w32}
use mir.Val.{SFits}
use borrow.Author.Rules.{rules}
use Rattle.signed.proofs.Finding.{read-from-zero}
use Rattle.signed.proofs.Reading.{read32}
use Rattle.turns.proofs.Calls.{rotate-names, rotation-read, rotate-ready, rotate-axis, rotate-out}
use Rattle.turns.proofs.rotate.Goals as goal
use Rattle.turns.proofs.rotate.Goals.{After-count-total, In_ok-late}

pub returns-in_err-l : goal.returns-in_err-l
returns-in_err-l c =
    early-exit (rotate-names _ _ c.args.l.now c.args.r.now) c.ranges.g _ c.early_two.ensures.number c.in_err-l.was _ c.from_residual.ensures.1

pub returns-in_err-axis : goal.returns-in_err-axis
returns-in_err-axis c =
    let fine = sym (early-read c.ranges.g c.early_two.result _ c.early_two.ensures.number) ∙ asked_ok c.in_ok-l.was in
    own-replied (rotate-names _ _ c.args.l.now c.args.r.now) _ fine
    (exit c.in_err-axis.was c.from_residual-in_err-axis.result c.from_residual-in_err-axis.ensures.1)
    (rotation-read c.ranges.g c.ranges.k c.rotation.result c.rotation.ensures.number c.in_ok-l.ensures.operands.0 c.in_ok-l.ensures.operands.1)

-- R as it was read, and what is known where none of these was met.
same : (c : After-count-total) → c.args.r.now ≡ lent c.r.inside.shape c.r.inside.elements.now
same c = sym (c.r.view_is ∙ c.in_ok-l.ensures.operands.1)

ready : (c : After-count-total)
    → let R = lent c.r.inside.shape c.r.inside.elements.now in
    Ready 25 2 c.args.g c.args.k c.args.l.now R (rotate c.args.g c.args.k (array_of c.args.l.now) (array_of R)) c.r.inside.shape
ready c =
    let fine = sym (early-read c.ranges.g c.early_two.result _ c.early_two.ensures.number) ∙ asked_ok c.in_ok-l.was in
    let none =
    sym (rotation-read c.ranges.g c.ranges.k c.rotation.result c.rotation.ensures.number c.in_ok-l.ensures.operands.0 (sym c.r.view_is))
    ∙ asked_ok c.in_ok-axis.was in
    rotate-ready (rw (sym (same c)) fine) none (formed c.r.invariant)

pub returns-in_err-late : goal.returns-in_err-late
returns-in_err-late c =
    let t : After-count-total = c.before.before.before.before in
    rw (same t)
    (late-replied (ready t) _ c.late.ensures c.count-total.ensures
    (exit c.in_err-late.was c.from_residual-in_err-late.result c.from_residual-in_err-late.ensures.1))

-- LIMIT and SPACE were not met.
roomy : (c : In_ok-late) → Roomy c.r.inside.shape (length c.args.out.now)
roomy c = late-fine _ (sym (asked_ok c.in_ok-late.was) ∙ c.late.ensures) c.count-total.ensures refl

pub turn_into-requires : goal.turn_into-requires
turn_into-requires c =
    let o : In_ok-late = c.before.before.before in
    let t : After-count-total = o.before.before.before in
    record {
      form = c.r.invariant.form;
      count-is = c.count-total.ensures;
      space = omega (arith, (roomy o).space, c.count-total.ensures);
      has = rotate-axis c.args.g c.args.k c.args.l.now (ready t).none (formed c.r.invariant)
          (c.in_ok-axis.ensures.found.0 ∙ read-from-zero _ _ c.ranges.k c.ranges.g);
    }

pub returns : goal.returns
returns c =
    let o : In_ok-late = c.before.before.before.before.before.before.before in
    let t : After-count-total = o.before.before.before in
    let found = c.in_ok-axis.ensures.found in
    let fits : SFits w32 c.in_ok-axis.amount = search rules in
    rw (same t)
    (given-replied (ready t) _ (sym (asked_ok c.in_ok-late.was) ∙ c.late.ensures) c.count-total.ensures refl
    (as-result (ready t) (roomy o).good c.as_result.ensures)
    (c.turn_into.ensures
    ∙ rotate-out _ _ _ _ (found.0 ∙ read-from-zero _ _ c.ranges.k c.ranges.g) _ (array_of c.args.l.now) _
    (read32 c.in_ok-axis.amount fits ∙ found.1 ∙ ap (λ o. get_or (array_of o).elements 0 (pos 0)) c.in_ok-l.ensures.operands.0)))
