use Rattle.std.proofs.Common.{arith, ◌∙◌, sym}
use borrow.Author.Tests.{eq-eqb, ne_eqb}
use Rattle.shape.proofs.Made.{with-length-is, without-axis-is}
use Rattle.answer.proofs.Lent.{formed}
use Rattle.selects.proofs.selected.Goals as goal

pub returns-then-rank-eq0 : goal.returns-then-rank-eq0
returns-then-rank-eq0 c =
    let r = formed c.r.invariant in
    let k = rw (← c.r.view_is) at c.requires in
    rw (← c.r.view_is)
    (c.without_axis.ensures ∙ without-axis-is _ c.args.axis r.high (omega (arith, k, r.rank_is)) ∙ rw (eq-eqb _ 0 (sym c.rank.ensures ∙ c.if-rank-eq0.true)))

pub returns-else-rank-eq0 : goal.returns-else-rank-eq0
returns-else-rank-eq0 c =
    let r = formed c.r.invariant in
    let k = rw (← c.r.view_is) at c.requires in
    rw (← c.r.view_is)
    (c.with_length.ensures ∙ with-length-is _ c.args.axis _ r.high (omega (arith, k, r.rank_is))
    ∙ rw (c.count.ensures, ne_eqb _ 0 (λ z. c.if-rank-eq0.false (c.rank.ensures ∙ z))))
