use Rattle.std.proofs.Common.{rules, arith, ◌∙◌, sym, ap, ◌≡◌, ◌≤◌, ◌+◌, length, drop, ℤ}
use Rattle.std.specs.declared.slice.ChunksExact.{ChunksExact}
use Rattle.signed.proofs.Reading.{read32}
use Rattle.lookups.specs.Steps.{Passed}
use Rattle.lookups.proofs.Finding.{passed_none, passed-block}
use Rattle.lookups.proofs.passed.Goals as goal
use Rattle.lookups.proofs.passed.Goals.{Else-may_have}

pub loop-block-init : goal.loop-block-init
loop-block-init c =
    let is = c.into_iter-block-iterator.ensures.into_iter_gives in
    let made = c.chunks_exact-block-items.ensures in
    (passed_none _ _, (sym (ap (λ (i : ChunksExact ℤ). i.rest.now) is ∙ made.rest), ap (λ (i : ChunksExact ℤ). i.size) is ∙ made.size))

pub returns-then-may_have : goal.returns-then-may_have
returns-then-may_have c = rw (read32 _ c.ranges.x) at c.loop-block.invariant.0

-- The block of a round, and what is left after it.
next : (c : Else-may_have) → Passed c.args.x c.args.l.now (c.loop-block.start + 16)
    × (drop (c.loop-block.start + 16) c.args.l.now ≡ c.next.new.self.rest.now)
next c =
    let inv = c.loop-block.invariant in
    let step = c.in-Some.ensures.steps in
    passed-block (rw (read32 _ c.ranges.x) at inv.0) (inv.1.0 ∙ step.1.0) (step.1.1 ∙ inv.1.1)
    (rw (read32 _ c.ranges.x) at (c.may_have.ensures c.if-may_have.false))

pub overflow_add-start : goal.overflow_add-start
overflow_add-start c = let h = (next c).0.inside in let k : length c.args.l.now ≤ 18446744073709551615 = search rules in omega arith

pub loop-block-preserved : goal.loop-block-preserved
loop-block-preserved c = let n = next c in (rw (read32 _ c.ranges.x) n.0, (n.1, c.in-Some.ensures.steps.0 ∙ c.loop-block.invariant.1.1))

pub returns : goal.returns
returns c = rw (read32 _ c.ranges.x) at c.loop-block.invariant.0
