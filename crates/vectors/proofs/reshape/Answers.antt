use Rattle.std.proofs.Common.{◌≡◌, ◌∙◌, sym, ap, ap₂, ℤ, List, ◌++◌, take, drop, length-take-le, length, get_or, map, pos, nat_abs, Ok, ◌≤◌}
use native.Mathlib.Omega.{arith}
use mathlib.Core.Path.{refl}
use mathlib.Core.Bool.{◌&&◌}
use lib.ListN.{get_or-eq_default}
use mir.Syntax.{w32}
use mir.Val.{SFits}
use Rattle.std.proofs.Common.{rules}
use Rattle.shape.proofs.Made.{stands-count, made-stands}
use Rattle.meaning.specs.Array.{array_of, good_form, tab}
use Rattle.meaning.specs.Primitives.{reshape}
use Rattle.meaning.specs.Reply.{reply}
use Rattle.signed.proofs.Reading.{read32}
use Rattle.answer.specs.Answer.{early, own, Replied}
use Rattle.answer.specs.Refused.{asked, answered}
use Rattle.answer.proofs.Early.{early-read}
use Rattle.answer.proofs.Exits.{exit, asked_ok}
use Rattle.answer.proofs.Order.{own-replied, Ready, late-replied, given-replied, Roomy, late-fine}
use Rattle.vectors.specs.Steps.{cycled, shape_or_limit}
use Rattle.vectors.proofs.Over.{some_shape, over-replied}
use Rattle.vectors.proofs.Cycling.{few-put}
use Rattle.answer.proofs.Early.{early-exit}
use Rattle.vectors.proofs.Calls.{reshape-names, reshape-lengths, reshape-out}
use Rattle.vectors.proofs.reshape.Goals as goal
use Rattle.vectors.proofs.reshape.Goals.{After-reshaped, After-shape_from, After-count-total, After-elements-elements}

pub returns-in_err-l : goal.returns-in_err-l
returns-in_err-l c K =
    early-exit (reshape-names _ _ c.args.l.now c.args.r.now) c.ranges.g _ c.early_two.ensures.number c.in_err-l.was _ c.from_residual.ensures.1

-- Neither FORM nor ORIGIN, and what 21 asks of L.
fine : (c : After-reshaped) → early (good_form c.args.l.now && good_form c.args.r.now) c.args.g ≡ 0
fine c = sym (early-read c.ranges.g c.early_two.result _ c.early_two.ensures.number) ∙ asked_ok c.in_ok-l.was

asks : (c : After-reshaped) → asked c.reshaped.result ≡ own 21 (reshape (array_of c.args.l.now) (array_of c.args.r.now)).refusals
asks c =
    c.reshaped.ensures.number (array_of c.args.r.now) ∙ ap (λ o. own 21 (reshape (array_of o) (array_of c.args.r.now)).refusals) c.in_ok-l.ensures.operands.0

pub returns-in_err-lengths : goal.returns-in_err-lengths
returns-in_err-lengths c K =
    let n = c.before.before.before in
    own-replied (reshape-names _ _ c.args.l.now c.args.r.now) _ (fine n)
    (exit c.in_err-lengths.was c.from_residual-in_err-lengths.result c.from_residual-in_err-lengths.ensures.1) (asks n)

-- The lengths that are asked for.
asked-for : (c : After-shape_from) → map nat_abs c.in_ok-lengths.lengths.now ≡ map nat_abs (array_of c.args.l.now).elements
asked-for c = ap (map nat_abs) (c.in_ok-lengths.ensures.lengths ∙ ap (λ o. (array_of o).elements) c.in_ok-l.ensures.operands.0)

made : (c : After-shape_from) → c.shape_from.result ≡ shape_or_limit (reshape (array_of c.args.l.now) (array_of c.args.r.now)).lengths
made c = c.shape_from.ensures ∙ ap shape_or_limit (asked-for c ∙ sym (reshape-lengths _ (array_of c.args.r.now)))

pub returns-in_err-shape : goal.returns-in_err-shape
returns-in_err-shape c K =
    let m = c.before.before.before in
    let n = m.before.before.before in
    over-replied (reshape-names _ _ c.args.l.now c.args.r.now) (fine n) (sym (asks n) ∙ asked_ok c.in_ok-lengths.was) _ (made m) c.in_err-shape.was
    (exit c.in_err-shape.was c.from_residual-in_err-shape.result c.from_residual-in_err-shape.ensures.1)

-- Nothing is refused but LIMIT and SPACE.
ready : (c : After-count-total) (K : ℤ)
    → Ready 21 2 c.args.g K c.args.l.now c.args.r.now (reshape (array_of c.args.l.now) (array_of c.args.r.now)) c.in_ok-shape.shape
ready c K =
    let m = c.before.before.before in
    let n = m.before.before.before in
    record {
      names = reshape-names _ _ _ _;
      fine = fine n;
      none = sym (asks n) ∙ asked_ok c.in_ok-lengths.was;
      stands = made-stands _ _ (some_shape _ (made m) c.in_ok-shape.was);
    }

pub returns-in_err-late : goal.returns-in_err-late
returns-in_err-late c K =
    late-replied (ready c.before.before.before.before K) _ c.late.ensures c.count-total.ensures
    (exit c.in_err-late.was c.from_residual-in_err-late.result c.from_residual-in_err-late.ensures.1)

-- There is room.
roomy : (c : After-elements-elements) → Roomy c.in_ok-shape.shape (length c.args.out.now)
roomy c = late-fine _ (sym (asked_ok c.in_ok-late.was) ∙ c.late.ensures) c.count-total.ensures refl

fits : (c : After-elements-elements) → c.count-total.result ≤ length c.args.out.now
fits c = omega (arith, (roomy c).space, c.count-total.ensures)

pub slice_bounds-out-end : goal.slice_bounds-out-end
slice_bounds-out-end c = fits c

pub slice_bounds-out-end-2 : goal.slice_bounds-out-end-2
slice_bounds-out-end-2 c = sym (length-take-le _ c.args.out.now (fits c.before))

-- What is written is R's elements again and again.
given : (c : After-elements-elements) (K : ℤ) (last : List ℤ)
    → last ≡ tab (length (take c.count-total.result c.args.out.now)) (cycled c.elements-elements.result.now)
    → Replied (answered (Ok c.in_ok-shape.shape)) (last ++ drop c.count-total.result c.args.out.now)
    (reply (pos 21) c.args.g K c.args.l.now c.args.r.now c.args.out.now)
given c K last e =
    let t = c.before.before.before.before.before in
    let is = some_shape _ (made t.before.before.before) c.in_ok-shape.was in
    let same = c.elements-elements.ensures ∙ ap (λ o. (array_of o).elements) c.in_ok-l.ensures.operands.1 in
    given-replied (ready t K) _ (sym (asked_ok c.in_ok-late.was) ∙ c.late.ensures) c.count-total.ensures refl is
    (ap (λ x. x ++ drop c.count-total.result c.args.out.now)
    (e ∙ ap₂ (λ k xs. tab k (cycled xs)) (length-take-le _ c.args.out.now (fits c)) same)
    ∙ reshape-out (array_of c.args.l.now) (array_of c.args.r.now) _ (c.count-total.ensures ∙ stands-count (ready t K).stands (roomy c).good))

pub cycle_run-requires : goal.cycle_run-requires
cycle_run-requires c = omega (arith, c.in_default.len_at_least)

pub returns-in-empty : goal.returns-in-empty
returns-in-empty c K =
    let xs : List ℤ = c.elements-elements.result.now in
    given c.before.before.before.before K _
    (few-put xs _ _ (pos 0) (omega (arith, c.in-empty.len_below))
    (sym (get_or-eq_default xs (pos 0) {n = 0} (omega (arith, c.in-empty.len_below)))) c.fill_run.ensures)

pub returns-in-len1 : goal.returns-in-len1
returns-in-len1 c K =
    let xs : List ℤ = c.elements-elements.result.now in
    let f : SFits w32 (get_or c.elements-elements.result.now 0 (pos 0)) = search rules in
    given c.before.before.before.before.before K _
    (few-put xs _ _ _ (omega (arith, c.in-len1.len_below)) (read32 _ f) c.fill_run-in-len1.ensures)

pub returns-in_default : goal.returns-in_default
returns-in_default c K = given c.before.before.before.before K _ c.cycle_run.ensures
