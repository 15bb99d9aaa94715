use Rattle.std.proofs.Common.{rules, ◌≡◌, ◌∙◌, sym, length}
use Rattle.shape.specs.Shape.{max_rank}
use mathlib.Core.Path.{refl}
use mathlib.Core.List.{[]}
use Rattle.answer.specs.Refused.{asked}
use Rattle.answer.proofs.Axes.{axis-none, axis-refused, axis-found}
use Rattle.answer.proofs.Exits.{asked_on}
use Rattle.joins.proofs.Heights.{high-of, higher-is, besides, catenate-own, catenate-rest}
use Rattle.joins.proofs.joint.Goals as goal
use Rattle.joins.proofs.joint.Goals.{else-agrees-via-then-agrees+else-agrees-2, else-agrees-via-else-agrees}

pub returns-then-not-ranks_fit-clause-number : goal.returns-then-not-ranks_fit-clause-number
unfolding asked
returns-then-not-ranks_fit-clause-number c =
    rw (← c.l.view_is, ← c.r.view_is)
    (sym (catenate-own (high-of c.l.invariant c.r.invariant refl) c.args.g c.args.k _ _ ∙ rw (sym c.if-not-ranks_fit.ensures)))

pub returns-in_err-axis-clause-number : goal.returns-in_err-axis-clause-number
returns-in_err-axis-clause-number c =
    let h = high-of c.l.invariant c.r.invariant c.higher-shape.ensures in
    let n = c.higher-shape.result.rank in
    let w = axis-none c.ranges.k c.ranges.g n c.axis.result c.axis.ensures.number c.in_err-axis.was in
    rw (← c.l.view_is, ← c.r.view_is)
    (asked_on c.in_err-axis.was c.from_residual.result c.from_residual.ensures.1
    ∙ axis-refused c.ranges.k c.ranges.g n c.axis.result c.axis.ensures.number c.in_err-axis.was
    ∙ sym (catenate-own h c.args.g c.args.k _ _ ∙ rw (sym c.if-not-ranks_fit.ensures, w) refl))

pub invariant_of-along : goal.invariant_of-along
invariant_of-along c =
    let h = high-of c.l.invariant c.r.invariant c.higher-shape.ensures in
    let a =
    axis-found c.ranges.k c.ranges.g c.higher-shape.result.rank c.axis.result c.axis.ensures.number c.in_ok-axis.was c.axis.ensures.axis in
    let long : length c.higher-shape.result.lens ≡ max_rank = search rules in
    record { high = (higher-is h [] []).high; long = long; has = a.below }

pub agrees-requires : goal.agrees-requires
agrees-requires c =
    (besides (high-of c.l.invariant c.r.invariant c.higher-shape.ensures) (sym c.if-not-ranks_fit.ensures)).0

pub agrees-requires-then-agrees : goal.agrees-requires-then-agrees
agrees-requires-then-agrees c =
    (besides (high-of c.l.invariant c.r.invariant c.higher-shape.ensures) (sym c.if-not-ranks_fit.ensures)).1

-- What is left is LENGTH.
pub returns-then-agrees-2-clause-number : goal.returns-then-agrees-2-clause-number
unfolding asked
returns-then-agrees-2-clause-number c =
    let h = high-of c.l.invariant c.r.invariant c.higher-shape.ensures in
    let a =
    axis-found c.ranges.k c.ranges.g c.higher-shape.result.rank c.axis.result c.axis.ensures.number c.in_ok-axis.was c.axis.ensures.axis in
    rw (← c.l.view_is, ← c.r.view_is)
    (sym (catenate-rest h c.args.g c.args.k _ _ (sym c.if-not-ranks_fit.ensures) a
    ∙ rw (← (c.agrees.ensures c.l.inside.elements.now), ← (c.agrees-then-agrees.ensures c.r.inside.elements.now), c.if-agrees.true, c.if-agrees-2.true)))

pub returns-clause-number : goal.returns-clause-number
unfolding asked
returns-clause-number c =
    let l = c.l.inside.elements.now in
    let r = c.r.inside.elements.now in
    let h = high-of c.l.invariant c.r.invariant c.higher-shape.ensures in
    let a =
    axis-found c.ranges.k c.ranges.g c.higher-shape.result.rank c.axis.result c.axis.ensures.number c.in_ok-axis.was c.axis.ensures.axis in
    let rest = catenate-rest h c.args.g c.args.k l r (sym c.if-not-ranks_fit.ensures) a in
    rw (← c.l.view_is, ← c.r.view_is)
    (elim c.else-agrees.branch [
      | else-agrees-via-then-agrees+else-agrees-2 w
          ↦ sym (rest ∙ rw (← (c.agrees.ensures l), ← (w.agrees-then-agrees.ensures r), w.if-agrees.true, w.if-agrees-2.false))
      | else-agrees-via-else-agrees w ↦ sym (rest ∙ rw (← (c.agrees.ensures l), w.if-agrees.false))
    ])
