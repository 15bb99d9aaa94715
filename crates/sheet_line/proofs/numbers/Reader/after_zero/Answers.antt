use Rattle.std.proofs.Common.{◌≡◌, ◌∙◌, false, [], arith, drop_of_length-le}
use Rattle.sheet_line.specs.Numbers.{magnitude}
use Rattle.sheet_line.proofs.Magnitudes.{zero-is}
use Rattle.sheet_line.proofs.Cursor.{end-ends, blank-ends, zero-stops}
use Rattle.sheet_line.proofs.numbers.Reader.after_zero.Goals as goal

pub returns-in_default : goal.returns-in_default
returns-in_default c =
    let none_left : c.args.rest.now ≡ [] = drop_of_length-le c.args.rest.now {i = 0} (omega (arith, c.in_default.ensures.cases)) in
    rw none_left (end-ends (magnitude false 0) ∙ rw zero-is)

pub returns-then-next-ne32 : goal.returns-then-next-ne32
returns-then-next-ne32 c = rw (c.in-Some.ensures.cases.0, zero-stops c.in-Some.next.now c.in-Some.more.now c.if-next-ne32.true false)

pub returns : goal.returns
returns c = rw (c.in-Some.ensures.cases.0, c.if-next-ne32.false) (blank-ends (magnitude false 0) c.in-Some.more.now ∙ rw zero-is)
