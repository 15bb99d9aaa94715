use Rattle.sheet_line.specs.Text.{digits}
use Rattle.sheet_answer.proofs.Writing.{Left}
use Rattle.sheet_answer.proofs.print.Writer.put_digits.Given as goal

abbrev pub invariant-loop-rest : goal.invariant-loop-rest
invariant-loop-rest l = Left l.fn.self l.self (digits l.n) (digits l.rest)

abbrev pub decreases-loop-rest : goal.decreases-loop-rest
decreases-loop-rest l = l.rest
