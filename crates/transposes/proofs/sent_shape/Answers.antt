use Rattle.std.proofs.Common.{arith, ◌≡◌, ◌∙◌}
use Rattle.transposes.proofs.Passing.{opened, shortest-none, shorter, shape-made}
use Rattle.transposes.proofs.sent_shape.Goals as goal

pub loop-i-init : goal.loop-i-init
loop-i-init c =
    let o = opened c.sent.view_is c.sent.invariant c.r.view_is c.r.invariant in
    record { shortest = shortest-none o.passed; below = o.passed.below }

pub loop-i-preserved : goal.loop-i-preserved
loop-i-preserved c =
    let o = opened c.sent.view_is c.sent.invariant c.r.view_is c.r.invariant in
    record { shortest = shorter o.passed c.loop-i.invariant.shortest (omega arith) _ c.min.ensures; below = o.passed.below }

pub returns : goal.returns
returns c =
    let o = opened c.sent.view_is c.sent.invariant c.r.view_is c.r.invariant in
    let z : c.loop-i.i ≡ 0 = omega arith in
    c.of_lengths.ensures ∙ shape-made o (rw z at c.loop-i.invariant.shortest)
