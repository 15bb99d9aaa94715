use Rattle.std.proofs.Common.{arith}
use Rattle.sheet_line.proofs.Digits.{digits-one}
use Rattle.sheet_answer.proofs.Writing.{digits-some, digits-ten, digits-pair, digits-two, left-all, left-room, left-more, left-none}
use Rattle.sheet_answer.proofs.print.Writer.put_digits.Goals as goal

pub loop-rest-init : goal.loop-rest-init
loop-rest-init c = left-all _ _

pub put_pair-requires : goal.put_pair-requires
put_pair-requires c = (omega arith, omega (arith, left-room c.loop-rest.invariant c.requires, digits-ten c.loop-rest.rest (omega arith)))

pub loop-rest-preserved : goal.loop-rest-preserved
loop-rest-preserved c = left-more c.loop-rest.invariant c.put_pair.ensures _ (digits-two _ c.loop-rest-test.true)

pub put_pair-requires-then-rest-ge10 : goal.put_pair-requires-then-rest-ge10
put_pair-requires-then-rest-ge10 c =
    (omega arith, omega (arith, left-room c.loop-rest.invariant c.requires, digits-ten c.loop-rest.rest (omega arith)))

pub returns-then-rest-ge10 : goal.returns-then-rest-ge10
returns-then-rest-ge10 c = left-none c.loop-rest.invariant c.put_pair-then-rest-ge10.ensures (digits-pair _ c.if-rest-ge10.true c.loop-rest-test.false)

pub put_byte-requires : goal.put_byte-requires
put_byte-requires c = omega (arith, left-room c.loop-rest.invariant c.requires, digits-some c.loop-rest.rest)

pub returns : goal.returns
returns c = left-none c.loop-rest.invariant c.put_byte.ensures (digits-one _ c.if-rest-ge10.false)
