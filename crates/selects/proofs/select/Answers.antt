use Rattle.std.proofs.Common.{arith, ◌∙◌, sym}
use mathlib.Core.Path.{refl}
use Rattle.shape.proofs.Made.{stands-count}
use Rattle.signed.proofs.Reading.{read32}
use Rattle.answer.proofs.Early.{early-read, early-exit}
use Rattle.answer.proofs.Exits.{exit, asked_ok}
use Rattle.answer.proofs.Order.{own-replied, late-replied, given-replied, Roomy, late-fine}
use Rattle.selects.proofs.Calls.{select-names}
use Rattle.selects.proofs.Selecting.{chosen-asked, chosen-found, selected-is, select-ready, chooses, select-out}
use Rattle.selects.proofs.select.Goals as goal

pub returns-in_err-l : goal.returns-in_err-l
returns-in_err-l c =
    early-exit (select-names _ _ c.args.l.now c.args.r.now) c.ranges.g _ c.early_two.ensures.number c.in_err-l.was _ c.from_residual.ensures.1

pub returns-in_err-axis : goal.returns-in_err-axis
returns-in_err-axis c =
    let o = c.in_ok-l.ensures.operands in
    let asked = rw (o.0, o.1) at (chosen-asked c.ranges.g c.ranges.k c.chosen_axis.result _ _ c.chosen_axis.ensures.number) in
    own-replied (select-names _ _ c.args.l.now c.args.r.now) _
    (sym (early-read c.ranges.g c.early_two.result _ c.early_two.ensures.number) ∙ asked_ok c.in_ok-l.was)
    (exit c.in_err-axis.was c.from_residual-in_err-axis.result c.from_residual-in_err-axis.ensures.1) asked

pub selected-shape-requires : goal.selected-shape-requires
selected-shape-requires c =
    let k =
    chosen-found c.ranges.g c.ranges.k c.chosen_axis.result _ _ c.chosen_axis.ensures.number c.early_two.result c.early_two.ensures.number
    c.in_ok-l.was c.in_ok-l.ensures.operands c.in_ok-axis.was c.in_ok-axis.ensures.axis in
    omega (arith, k.has, k.right.rank_is)

pub returns-in_err-late : goal.returns-in_err-late
returns-in_err-late c =
    let o = c.in_ok-l.ensures.operands in
    let k =
    chosen-found c.ranges.g c.ranges.k c.chosen_axis.result _ _ c.chosen_axis.ensures.number c.early_two.result c.early_two.ensures.number
    c.in_ok-l.was o c.in_ok-axis.was c.in_ok-axis.ensures.axis in
    rw (sym o.0, sym o.1)
    (late-replied (select-ready k c.selected-shape.ensures) _ c.late.ensures c.count-count.ensures
    (exit c.in_err-late.was c.from_residual-in_err-late.result c.from_residual-in_err-late.ensures.1))

pub select_into-requires : goal.select_into-requires
select_into-requires c =
    let k =
    chosen-found c.ranges.g c.ranges.k c.chosen_axis.result _ _ c.chosen_axis.ensures.number c.early_two.result c.early_two.ensures.number
    c.in_ok-l.was c.in_ok-l.ensures.operands c.in_ok-axis.was c.in_ok-axis.ensures.axis in
    let roomy : Roomy c.selected-shape.result _ = late-fine _ (sym (asked_ok c.in_ok-late.was) ∙ c.late.ensures) c.count-count.ensures refl in
    let total = c.count-count.ensures ∙ stands-count (select-ready k c.selected-shape.ensures).stands roomy.good in
    chooses k (rw (read32 _ c.ranges.g) at c.of-choice.ensures) total (omega (arith, roomy.small, c.count-count.ensures))
    (omega (arith, roomy.space, c.count-count.ensures))

pub returns : goal.returns
returns c =
    let o = c.in_ok-l.ensures.operands in
    let k =
    chosen-found c.ranges.g c.ranges.k c.chosen_axis.result _ _ c.chosen_axis.ensures.number c.early_two.result c.early_two.ensures.number
    c.in_ok-l.was o c.in_ok-axis.was c.in_ok-axis.ensures.axis in
    let late = sym (asked_ok c.in_ok-late.was) ∙ c.late.ensures in
    let roomy : Roomy c.selected-shape.result _ = late-fine _ late c.count-count.ensures refl in
    let ready = select-ready k c.selected-shape.ensures in
    let total = c.count-count.ensures ∙ stands-count ready.stands roomy.good in
    rw (sym o.0, sym o.1)
    (given-replied ready _ late c.count-count.ensures refl (selected-is k c.selected-shape.ensures)
    (c.select_into.ensures ∙ select-out k (rw (read32 _ c.ranges.g) at c.of-choice.ensures) total c.args.out.now))
