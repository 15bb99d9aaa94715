use Rattle.std.proofs.Common.{rules, ◌∙◌, sym, pos, get_or}
use native.Mathlib.Omega.{arith}
use borrow.Author.Tests.{eq-eqb, ne_eqb}
use mir.Syntax.{w32}
use mir.Val.{SFits}
use Rattle.signed.proofs.Equal.{int_same-bits}
use Rattle.signed.proofs.Reading.{read32}
use Rattle.lookups.proofs.Finding.{passed_none, passed-next, passed_here, passed-all}
use Rattle.lookups.proofs.first_at.Goals as goal

pub loop-i-init : goal.loop-i-init
loop-i-init c = passed_none _ _

pub returns-then-x-y : goal.returns-then-x-y
returns-then-x-y c =
    let f : SFits w32 (get_or c.args.l.now c.loop-i.i (pos 0)) = search rules in (
      passed_here (rw (read32 _ c.ranges.x) at c.loop-i.invariant) c.loop-i-test.true
          (sym (int_same-bits c.args.x _ c.ranges.x f) ∙ eq-eqb _ _ c.if-x-y.true),
      c.loop-i-test.true,
    )

pub loop-i-preserved : goal.loop-i-preserved
loop-i-preserved c =
    let f : SFits w32 (get_or c.args.l.now c.loop-i.i (pos 0)) = search rules in
    rw (read32 _ c.ranges.x) (passed-next (rw (read32 _ c.ranges.x) at c.loop-i.invariant) c.loop-i-test.true
    (sym (int_same-bits c.args.x _ c.ranges.x f) ∙ ne_eqb _ _ c.if-x-y.false))

pub returns : goal.returns
returns c = passed-all (rw (read32 _ c.ranges.x) at c.loop-i.invariant) (omega arith)
