use Rattle.std.proofs.Common.{arith}
use Rattle.sheet_answer.proofs.Parts.{sum_more, sum-all}
use Rattle.sheet_answer.proofs.print.parts_width.Goals as goal

pub loop-part-preserved : goal.loop-part-preserved
loop-part-preserved g c =
    let w = c.width-sum.ensures in
    sum_more c.loop-part.invariant c.part-item.result (omega arith) (rw (← c.part-item.is) w.digits) w.bound

pub returns-clause-digits : goal.returns-clause-digits
returns-clause-digits g c = sum-all c.loop-part.invariant (omega arith)
