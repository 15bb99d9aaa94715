use Rattle.std.proofs.Common.{rules, ◌≡◌, ℤ, ap₂, ◌∙◌, sym, to_z-of_z, w32, SFits, Option, Some}
use mathlib.Core.Option.{none, some}
use Rattle.shape.specs.declared.Shape.{Shape}
use Rattle.shape.proofs.Bools.{no_way}
use Rattle.sheet_line.specs.declared.Call as Read
use Rattle.sheet_line.specs.Call.{line_call, room}
use Rattle.sheet_line.specs.Steps.{head_of, held_in}
use Rattle.sheet_line.proofs.Calls.{too_long, no_call, left_over, line-call, no-head, no-left, no-right, call-is}
use Rattle.sheet_line.proofs.read_line.Goals as goal

pub returns-then-line-gt-MAX_LINE-clause-answer : goal.returns-then-line-gt-MAX_LINE-clause-answer
returns-then-line-gt-MAX_LINE-clause-answer c = rw (too_long _ _ c.args.line.now c.if-line-gt-MAX_LINE.true)

pub returns-in_err-primitive-clause-answer : goal.returns-in_err-primitive-clause-answer
returns-in_err-primitive-clause-answer c =
    let a = room c.args.l.now in
    let b = room c.args.r.now in
    let head = rw c.new-reader.ensures at c.in_err-primitive.ensures in
    let bad = no_call a b c.args.line.now c.if-line-gt-MAX_LINE.false {after = none} (no-head a b head) in
    c.from_residual.ensures ∙ rw bad

pub returns-in_err-left-clause-answer : goal.returns-in_err-left-clause-answer
returns-in_err-left-clause-answer c =
    let a = room c.args.l.now in
    let b = room c.args.r.now in
    let head = rw c.new-reader.ensures at c.in_ok-primitive.ensures in
    let bad = no_call a b c.args.line.now c.if-line-gt-MAX_LINE.false {after = none} (no-left a b _ head c.in_err-left.ensures.taken) in
    c.from_residual-in_err-left.ensures ∙ rw bad

pub returns-in_err-right-clause-answer : goal.returns-in_err-right-clause-answer
returns-in_err-right-clause-answer c =
    let a = room c.args.l.now in
    let b = room c.args.r.now in
    let head = rw c.new-reader.ensures at c.in_ok-primitive.ensures in
    let call = no-right a b _ head _ c.in_ok-left.ensures.taken c.in_err-right.ensures.taken in
    let bad = no_call a b c.args.line.now c.if-line-gt-MAX_LINE.false {after = none} call in
    c.from_residual-in_err-right.ensures ∙ rw bad

pub returns-then-not-at_end-clause-answer : goal.returns-then-not-at_end-clause-answer
returns-then-not-at_end-clause-answer c =
    let a = room c.args.l.now in
    let b = room c.args.r.now in
    let head = rw c.new-reader.ensures at c.in_ok-primitive.ensures in
    let call = call-is a b _ head _ c.in_ok-left.ensures.taken _ c.in_ok-right.ensures.taken in
    rw (left_over a b c.args.line.now c.if-line-gt-MAX_LINE.false call (λ q. no_way (sym c.if-not-at_end.true ∙ c.at_end.ensures.1 q)))

-- The line says a call.
said : (c : goal.Else-not-at_end) → line_call (room c.args.l.now) (room c.args.r.now) c.args.line.now ≡ some (record {
  head = head_of c.in_ok-primitive.field-0;
  left = held_in c.operand.new.out c.in_ok-left.left;
  right = held_in c.operand-2.new.out c.in_ok-right.right;
})
said c =
    let a = room c.args.l.now in
    let b = room c.args.r.now in
    let head = rw c.new-reader.ensures at c.in_ok-primitive.ensures in
    let call = call-is a b _ head _ c.in_ok-left.ensures.taken _ c.in_ok-right.ensures.taken in
    line-call a b c.args.line.now c.if-line-gt-MAX_LINE.false call (c.at_end.ensures.0 c.if-not-at_end.false)

abbrev answered : ℤ → ℤ → ℤ → Shape → Shape → Option Read.Call
answered n g k s t = Some (record { primitive = n; origin = g; k = k; left = s; right = t })

pub returns-clause-answer : goal.returns-clause-answer
returns-clause-answer c =
    let h = c.in_ok-primitive.field-0 in
    let n : SFits w32 h.primitive = search rules in
    let g : SFits w32 h.origin = search rules in
    let k : SFits w32 h.k = search rules in
    rw (to_z-of_z n, to_z-of_z g, to_z-of_z k, said c)
    (ap₂ (answered h.primitive h.origin h.k) c.in_ok-left.ensures.shape c.in_ok-right.ensures.shape)

pub returns-clause-left : goal.returns-clause-left
returns-clause-left c t = rw (said c) c.in_ok-left.ensures.stored

pub returns-clause-right : goal.returns-clause-right
returns-clause-right c t = rw (said c) c.in_ok-right.ensures.stored
