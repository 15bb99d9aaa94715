use Rattle.std.proofs.Common.{true, false, sym, refl, arith}
use Rattle.shape.proofs.Bools.{no_way}
use Rattle.sheet_line.proofs.Cursor.{first-zero, first_byte, nothing-left, left-is, minus-on}
use Rattle.sheet_line.proofs.Scan.{digit-of}
use Rattle.sheet_line.proofs.numbers.Reader.number.Goals as goal

pub returns-in_err-b : goal.returns-in_err-b
returns-in_err-b c =
    let l = left-is c.self.view_is c.in_ok-self.was in
    record { is = rw (l, nothing-left false _ c.in_err-b.ensures.cases, c.from_residual-in_err-b.ensures) }

pub returns-then-b-eq48 : goal.returns-then-b-eq48
returns-then-b-eq48 c =
    let l = left-is c.self.view_is c.in_ok-self.was in
    let zero = first-zero 48 0 (digit-of 0 (omega arith)) refl in
    record { is = rw (l, c.in_ok-b.ensures.cases.0, c.if-b-eq48.true, first_byte false 48 c.in_ok-b.rest.now (λ e. omega arith), zero) c.after_zero.ensures }

pub returns-then-b-ne45 : goal.returns-then-b-ne45
returns-then-b-ne45 c =
    let l = left-is c.self.view_is c.in_ok-self.was in
    record { is = rw (l, c.in_ok-b.ensures.cases.0, first_byte false _ _ (λ e. c.if-b-ne45.true)) c.from_digit.ensures }

pub returns-in_err-b-2 : goal.returns-in_err-b-2
returns-in_err-b-2 c =
    let l = left-is c.self.view_is c.in_ok-self.was in
    let nothing = nothing-left true c.in_ok-b.rest.now c.in_err-b-2.ensures.cases in
    record { is = rw (l, c.in_ok-b.ensures.cases.0, c.if-b-ne45.false, minus-on c.in_ok-b.rest.now, nothing, c.from_residual-in_err-b-2.ensures) }

pub returns : goal.returns
returns c =
    let l = left-is c.self.view_is c.in_ok-self.was in
    let on = first_byte true c.in_ok-b-2.b.now c.in_ok-b-2.rest.now (λ e. no_way (sym e)) in
    record {
      is = rw (l, c.in_ok-b.ensures.cases.0, c.if-b-ne45.false, minus-on c.in_ok-b.rest.now, c.in_ok-b-2.ensures.cases.0, on) c.from_digit-2.ensures;
    }
