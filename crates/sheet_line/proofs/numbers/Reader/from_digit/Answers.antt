use Rattle.std.proofs.Common.{◌≡◌, ◌∙◌, List, ℤ, Option, Some, None, refl, arith}
use mathlib.Core.Option as maybe
use Rattle.sheet_line.specs.Numbers.{and_then}
use Rattle.sheet_line.specs.Call.{give}
use Rattle.sheet_line.specs.Steps.{found, with_rest}
use Rattle.sheet_line.proofs.Scan.{first-is}
use Rattle.sheet_line.proofs.Cursor.{first-zero, minus-zero, first-none}
use Rattle.sheet_line.proofs.numbers.Reader.from_digit.Goals as goal

pub returns-in_err-d : goal.returns-in_err-d
returns-in_err-d c = rw (c.from_residual.ensures, first-none c.args.b c.args.negative c.in_err-d.ensures)

-- A number that fits or none, as it is handed on.
handed : (after : maybe.Option (List ℤ)) (r : Option ℤ) → and_then (found r) (λ z. and_then after (give z)) ≡ with_rest after r
handed after None = refl
handed after (Some z) = refl

pub returns-in_err-magnitude : goal.returns-in_err-magnitude
returns-in_err-magnitude c =
    rw (first-is c.args.negative c.args.b c.in_ok-d.d c.in_ok-d.ensures (λ e. c.if-d-gt0.true), c.from_residual-in_err-magnitude.ensures)
    (c.in_err-magnitude.ensures c.args.negative)

pub returns-then-d-gt0 : goal.returns-then-d-gt0
returns-then-d-gt0 c =
    rw (first-is c.args.negative c.args.b c.in_ok-d.d c.in_ok-d.ensures (λ e. c.if-d-gt0.true))
    (c.in_ok-magnitude.ensures c.args.negative ∙ rw c.whole.ensures (handed c.after_digit.new.self c.whole.result))

pub returns-then-negative : goal.returns-then-negative
returns-then-negative c = rw (c.if-negative.true, minus-zero c.args.b c.in_ok-d.d c.in_ok-d.ensures (omega arith))

pub returns : goal.returns
returns c = rw (c.if-negative.false, first-zero c.args.b c.in_ok-d.d c.in_ok-d.ensures (omega arith)) c.after_zero.ensures
