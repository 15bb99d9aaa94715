use Rattle.std.proofs.Common.{rules, ◌∙◌, sym, arith, get_or, pos}
use borrow.Author.Tests.{eq-eqb, ne_eqb}
use mir.Syntax.{w32}
use mir.Val.{SFits}
use Rattle.signed.proofs.Equal.{int_same-bits}
use Rattle.signed.proofs.Reading.{read32}
use Rattle.lookups.proofs.Chaining.{link_on, on-here, on-past}
use Rattle.lookups.proofs.table.Chains.follow.Goals as goal

pub loop-p-init : goal.loop-p-init
loop-p-init c = rw (read32 _ c.ranges.x, c.self.view_is) c.requires

pub returns-then-left-eq0 : goal.returns-then-left-eq0
returns-then-left-eq0 c = rw (read32 _ c.ranges.x, c.self.view_is) at c.position_from.ensures

pub returns : goal.returns
returns c = rw (← c.self.view_is) (on-past (rw (read32 _ c.ranges.x) at c.loop-p.invariant) (omega arith))

pub returns-then-x-l : goal.returns-then-x-l
returns-then-x-l c =
    let l = c.self.inside.l.now in
    let f : SFits w32 (get_or l c.loop-p.p (pos 0)) = search rules in
    let here = on-here (rw (read32 _ c.ranges.x) at c.loop-p.invariant) c.loop-p-test.true
    (sym (int_same-bits c.args.x _ c.ranges.x f) ∙ eq-eqb _ _ c.if-x-l.true) in
    rw (← c.self.view_is) (here, c.loop-p-test.true)

pub loop-p-preserved : goal.loop-p-preserved
loop-p-preserved c =
    let l = c.self.inside.l.now in
    let f : SFits w32 (get_or l c.loop-p.p (pos 0)) = search rules in
    let on = rw (read32 _ c.ranges.x) at c.loop-p.invariant in
    rw (read32 _ c.ranges.x, c.from-p.ensures)
    (link_on on c.self.inside.links.now c.self.invariant.linked.link c.loop-p-test.true
    (sym (int_same-bits c.args.x _ c.ranges.x f) ∙ ne_eqb _ _ c.if-x-l.false))
