use Rattle.std.proofs.Common.{arith, sym}
use Rattle.meaning.proofs.Sent.{length-backwards, get_or-backwards}
use Rattle.answer.proofs.Lent.{formed}
use Rattle.transposes.proofs.Choosing.{so_far_more, backwards-route, backwards-sends}
use Rattle.transposes.proofs.backwards.Goals as goal

pub bounds-to-i : goal.bounds-to-i
bounds-to-i c = omega (arith, (formed c.r.invariant).high)

pub loop-i-preserved : goal.loop-i-preserved
loop-i-preserved c =
    so_far_more c.loop-i.invariant _ (rw length-backwards (formed c.r.invariant).high) (rw length-backwards (omega arith))
    (sym (get_or-backwards c.r.inside.shape.rank _ (omega arith)))

pub invariant_of-result : goal.invariant_of-result
invariant_of-result c = backwards-sends c.r.view_is (formed c.r.invariant) c.loop-i.invariant (omega arith)

pub returns : goal.returns
returns c = backwards-route c.r.view_is (formed c.r.invariant) c.loop-i.invariant (omega arith)
