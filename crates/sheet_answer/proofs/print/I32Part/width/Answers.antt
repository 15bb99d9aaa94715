use Rattle.std.proofs.Common.{arith}
use Rattle.sheet_answer.proofs.Parts.{magnitude-short, decimal-is}
use Rattle.sheet_answer.proofs.print.I32Part.width.Goals as goal

pub returns-then-negative-clause-digits : goal.returns-then-negative-clause-digits
returns-then-negative-clause-digits c =
    rw (decimal-is _ c.ranges.self c.magnitude.ensures c.negative.ensures c.if-negative.true) (omega arith)

pub returns-then-negative-clause-bound : goal.returns-then-negative-clause-bound
returns-then-negative-clause-bound c = omega (arith, magnitude-short _ c.ranges.self c.magnitude.ensures)

pub returns-else-negative-clause-digits : goal.returns-else-negative-clause-digits
returns-else-negative-clause-digits c =
    rw (decimal-is _ c.ranges.self c.magnitude.ensures c.negative.ensures c.if-negative.false) (omega arith)

pub returns-else-negative-clause-bound : goal.returns-else-negative-clause-bound
returns-else-negative-clause-bound c = omega (arith, magnitude-short _ c.ranges.self c.magnitude.ensures)
