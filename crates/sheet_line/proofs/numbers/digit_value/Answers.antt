use Rattle.std.proofs.Common.{◌≡◌, ◌-◌, arith, ⊎_elim}
use Rattle.sheet_line.proofs.Cursor.{digit-is, below-digits, above-digits}
use Rattle.sheet_line.proofs.numbers.digit_value.Goals as goal

pub returns-then-is_ascii_digit : goal.returns-then-is_ascii_digit
returns-then-is_ascii_digit c =
    let digit = c.if-is_ascii_digit.ensures.cases in
    let value : c.from.result ≡ c.args.b - 48 = omega arith in
    rw value (digit-is c.args.b digit.0 digit.1)

pub returns-else-is_ascii_digit : goal.returns-else-is_ascii_digit
returns-else-is_ascii_digit c = ⊎_elim (below-digits c.args.b) (above-digits c.args.b) c.if-is_ascii_digit.ensures.cases
