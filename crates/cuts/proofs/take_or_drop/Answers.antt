use Rattle.std.proofs.Common.{rules, arith, ◌≡◌, ◌∙◌, sym, length, length-take-le}
use mathlib.Core.Path.{ap, ap₂}
use Rattle.shape.specs.Shape.{max_rank}
use Rattle.meaning.specs.Array.{array_of}
use Rattle.answer.specs.Answer.{own}
use Rattle.answer.proofs.Early.{early-read, early-exit}
use Rattle.answer.proofs.Exits.{exit, asked_ok}
use Rattle.answer.proofs.Order.{own-replied, late-replied, late-fine}
use Rattle.cuts.specs.Steps.{cut_number, cut_meaning}
use Rattle.cuts.proofs.Calls.{cut-names, known, limit, ready, parts_are, replied}
use Rattle.cuts.proofs.take_or_drop.Goals as goal

pub returns-in_err-l : goal.returns-in_err-l
returns-in_err-l c K =
    early-exit (cut-names c.args.kind _ K c.args.l.now c.args.r.now) c.ranges.g _ c.early_two.ensures.number c.in_err-l.was _ c.from_residual.ensures.1

pub returns-in_err-numbers : goal.returns-in_err-numbers
returns-in_err-numbers c K =
    let fine = sym (early-read c.ranges.g c.early_two.result _ c.early_two.ensures.number) ∙ asked_ok c.in_ok-l.was in
    let is = c.cut_numbers.ensures.number
    ∙ ap₂ (λ x y. own (cut_number c.args.kind) (cut_meaning c.args.kind (array_of x) (array_of y)).refusals)
    c.in_ok-l.ensures.operands.0 c.in_ok-l.ensures.operands.1 in
    own-replied (cut-names c.args.kind _ K c.args.l.now c.args.r.now) _ fine
    (exit c.in_err-numbers.was c.from_residual-in_err-numbers.result c.from_residual-in_err-numbers.ensures.1) is

pub returns-in_err-shape : goal.returns-in_err-shape
returns-in_err-shape c K =
    let k = known c.args.kind c.ranges.g c.early_two.ensures.number c.in_ok-l.was c.in_ok-l.ensures.operands c.r.view_is c.r.invariant
    c.cut_numbers.ensures.number c.in_ok-numbers.was c.in_ok-numbers.ensures.numbers c.read_lengths-lens.ensures in
    limit k c.cut_shape.ensures c.in_err-shape.was K _ (exit c.in_err-shape.was c.from_residual-in_err-shape.result c.from_residual-in_err-shape.ensures.1)

pub returns-in_err-late : goal.returns-in_err-late
returns-in_err-late c K =
    let k = known c.args.kind c.ranges.g c.early_two.ensures.number c.in_ok-l.was c.in_ok-l.ensures.operands c.r.view_is c.r.invariant
    c.cut_numbers.ensures.number c.in_ok-numbers.was c.in_ok-numbers.ensures.numbers c.read_lengths-lens.ensures in
    late-replied (ready k c.cut_shape.ensures c.in_ok-shape.was K) _ c.late.ensures c.count-count.ensures
    (exit c.in_err-late.was c.from_residual-in_err-late.result c.from_residual-in_err-late.ensures.1)

pub slice_bounds-fill-end-2 : goal.slice_bounds-fill-end-2
slice_bounds-fill-end-2 c =
    let roomy = late-fine _ c.late.ensures c.count-count.ensures (asked_ok c.in_ok-late.was) in omega (arith, roomy.space, c.count-count.ensures)

pub slice_bounds-fill-end-3 : goal.slice_bounds-fill-end-3
slice_bounds-fill-end-3 c =
    let roomy = late-fine _ c.late.ensures c.count-count.ensures (asked_ok c.in_ok-late.was) in
    sym (length-take-le _ c.args.out.now (omega (arith, roomy.space, c.count-count.ensures)))

pub fill-requires : goal.fill-requires
fill-requires c =
    let k = known c.args.kind c.ranges.g c.early_two.ensures.number c.in_ok-l.was c.in_ok-l.ensures.operands c.r.view_is c.r.invariant
    c.cut_numbers.ensures.number c.in_ok-numbers.was c.in_ok-numbers.ensures.numbers c.read_lengths-lens.ensures in
    let src = c.elements.ensures ∙ ap (λ o. (array_of o).elements) (sym c.r.view_is) in
    let long : length c.read_lengths-lens.result ≡ max_rank = search rules in
    parts_are k c.cut_shape.ensures c.in_ok-shape.was c.args.out.now c.late.ensures (asked_ok c.in_ok-late.was) c.count-count.ensures src long

pub returns : goal.returns
returns c K =
    let k = known c.args.kind c.ranges.g c.early_two.ensures.number c.in_ok-l.was c.in_ok-l.ensures.operands c.r.view_is c.r.invariant
    c.cut_numbers.ensures.number c.in_ok-numbers.was c.in_ok-numbers.ensures.numbers c.read_lengths-lens.ensures in
    let src = c.elements.ensures ∙ ap (λ o. (array_of o).elements) (sym c.r.view_is) in
    replied k c.cut_shape.ensures c.in_ok-shape.was c.args.out.now c.late.ensures (asked_ok c.in_ok-late.was) c.count-count.ensures src K c.fill.ensures
