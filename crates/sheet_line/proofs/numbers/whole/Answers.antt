use Rattle.sheet_line.proofs.Magnitudes.{below-zero, from-zero}
use Rattle.sheet_line.proofs.numbers.whole.Goals as goal

pub returns-then-negative : goal.returns-then-negative
returns-then-negative c = below-zero c.args.negative c.args.magnitude _ c.if-negative.true c.checked_sub_unsigned.ensures

pub returns-else-negative : goal.returns-else-negative
returns-else-negative c = from-zero c.args.negative c.args.magnitude _ c.if-negative.false c.checked_add_unsigned.ensures
