use Rattle.std.proofs.Common.{length, ap, arith}
use Rattle.sheet_answer.proofs.Writing.{put-more}
use Rattle.sheet_answer.proofs.Parts.{magnitude-within, decimal-is}
use Rattle.sheet_answer.specs.declared.print.Writer.{Writer}
use Rattle.sheet_answer.proofs.print.Writer.put_element.Goals as goal
use Rattle.sheet_answer.proofs.print.Writer.put_element.Goals.{then-negative, else-negative}

pub put_digits-requires : goal.put_digits-requires
put_digits-requires c = omega (arith, magnitude-within _ c.ranges.z c.magnitude.ensures)

pub put_byte-requires : goal.put_byte-requires
put_byte-requires c = omega (arith, magnitude-within _ c.ranges.z c.magnitude.ensures, c.put_digits.ensures.written.place)

pub put_byte-requires-2 : goal.put_byte-requires-2
put_byte-requires-2 c =
    elim c.if-negative.branch [
      | then-negative w ↦
          let text = decimal-is _ c.ranges.z c.magnitude.ensures c.negative.ensures w.if-negative.true in
          omega (arith, ap length text, ap (λ (r : Writer). r.at) w.self-is)
      | else-negative w ↦ omega (arith, magnitude-within _ c.ranges.z c.magnitude.ensures, ap (λ (r : Writer). r.at) w.self-is)
    ]

pub returns : goal.returns
returns c =
    elim c.if-negative.branch [
      | then-negative w ↦
          let text = decimal-is _ c.ranges.z c.magnitude.ensures c.negative.ensures w.if-negative.true in
          rw text (put-more (put-more c.put_digits.ensures w.put_byte.ensures) (rw w.self-is at c.put_byte-2.ensures))
      | else-negative w ↦
          let text = decimal-is _ c.ranges.z c.magnitude.ensures c.negative.ensures w.if-negative.false in
          rw text (put-more c.put_digits.ensures (rw w.self-is at c.put_byte-2.ensures))
    ]
