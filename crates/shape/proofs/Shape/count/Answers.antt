use Rattle.std.proofs.Common.{◌≡◌, ◌∙◌, sym, take, length, get_or, arith}
use Rattle.std.proofs.Math.Seq.{take-length}
use Rattle.std.proofs.lemmas.List.{take_more}
use Rattle.shape.specs.Shape.{counted}
use Rattle.shape.proofs.Counts.{small-snoc, small-not, count-high-rank, count-long-axis, count_held, held_more}
use Rattle.shape.proofs.Shape.count.Goals as goal

pub returns-then-self-gt-MAX_RANK : goal.returns-then-self-gt-MAX_RANK
returns-then-self-gt-MAX_RANK c = sym (count-high-rank c.args.self (omega arith))

pub returns-then-n-gt-MAX_COUNT : goal.returns-then-n-gt-MAX_COUNT
returns-then-n-gt-MAX_COUNT c =
    let s = c.args.self in
    sym (count-long-axis s (small-not (counted s) c.loop-n.n-index c.loop-n-test.true c.if-n-gt-MAX_COUNT.true))

pub loop-n-preserved : goal.loop-n-preserved
loop-n-preserved c =
    let ns = counted c.args.self in
    let l = c.loop-n in
    let n = get_or ns l.n-index 0 in (
      c.capped-total.ensures ∙ held_more ns l.n-index l.total c.loop-n-test.true l.invariant.0,
      rw (take_more ns l.n-index 0 c.loop-n-test.true) (small-snoc (take l.n-index ns) n l.invariant.1 (omega arith)),
    )

pub returns : goal.returns
returns c =
    let s = c.args.self in
    let end : c.loop-n.n-index ≡ length (counted s) = omega arith in
    let all : take c.loop-n.n-index (counted s) ≡ counted s = rw end (take-length (counted s)) in
    (rw all at c.loop-n.invariant.0) ∙ sym (count_held s (omega arith) (rw all at c.loop-n.invariant.1))
