use Rattle.std.proofs.Common.{arith, rules, ◌≡◌, ◌∙◌, sym, ap, map, length, get_or, pos, nat_abs, w32, ◌<◌, ◌≤◌, Ok}
use mathlib.Core.Path.{refl, ap₂}
use lib.ListN.{length-map, get_or-map}
use lib.Seq.{take-length}
use mir.Val.{SFits}
use borrow.Author.Tests.{le-leb, lt-leb}
use Rattle.shape.specs.Shape.{max_rank}
use Rattle.shape.proofs.Padded.{padded-more}
use Rattle.signed.proofs.Reading.{read32}
use Rattle.vectors.proofs.shape_from.Goals as goal

pub loop-i-init : goal.loop-i-init
loop-i-init c = refl

pub loop-i-preserved : goal.loop-i-preserved
loop-i-preserved c =
    let l = c.args.l.now in
    let i = c.loop-i.i in
    let f : SFits w32 (get_or c.args.l.now c.loop-i.i (pos 0)) = search rules in
    let value : c.magnitude.result ≡ get_or (map nat_abs l) i 0 = c.magnitude.ensures ∙ ap nat_abs (read32 _ f) ∙ sym (get_or-map nat_abs l i (pos 0)) in
    rw (c.loop-i.invariant, value)
    (padded-more (map nat_abs l) max_rank i (omega (arith, length-map l nat_abs, c.loop-i-test.true))
    (omega (arith, c.if-rank-gt-MAX_RANK.false, c.loop-i-test.true)))

pub returns-then-rank-gt-MAX_RANK : goal.returns-then-rank-gt-MAX_RANK
returns-then-rank-gt-MAX_RANK c =
    let ns = map nat_abs c.args.l.now in
    let more : max_rank < length ns = omega (arith, length-map c.args.l.now nat_abs, c.if-rank-gt-MAX_RANK.true) in
    rw (lt-leb (length ns) max_rank more)

pub returns : goal.returns
returns c =
    let ns = map nat_abs c.args.l.now in
    let long = length-map c.args.l.now nat_abs in
    let few : length ns ≤ max_rank = omega (arith, long, c.if-rank-gt-MAX_RANK.false) in
    let all : c.loop-i.i ≡ length ns = omega (arith, long, c.loop-i-test.false, c.loop-i.auto.i-end) in
    rw (le-leb (length ns) max_rank few)
    (ap₂ (λ a b. Ok (record { rank = a; lens = b })) (sym long) (c.loop-i.invariant ∙ rw (all, take-length ns)))
