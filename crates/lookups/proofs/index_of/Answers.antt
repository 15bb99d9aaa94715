use Rattle.std.proofs.Common.{arith, ◌≡◌, ◌∙◌, sym, length}
use mathlib.Core.Path.{refl, ap}
use lib.IntN.{nat_abs}
use borrow.Author.Tests.{ne_eqb}
use Rattle.signed.proofs.Reading.{read32}
use Rattle.signed.proofs.Equal.{origin-is}
use Rattle.meaning.specs.Array.{array_of}
use Rattle.meaning.specs.Terms.{rank}
use Rattle.answer.proofs.Early.{early-read, early-exit}
use Rattle.answer.proofs.Exits.{exit, refuses, asked_ok}
use Rattle.answer.proofs.Order.{own-replied, as-result, late-replied, given-replied, Roomy, late-fine}
use Rattle.answer.specs.declared.refusal.Refusal.TheVariants.{Rank}
use Rattle.lookups.proofs.Calls.{index-names, index-own, index-ready, index-out, few, known}
use Rattle.lookups.proofs.index_of.Goals as goal

pub returns-in_err-l : goal.returns-in_err-l
returns-in_err-l c K =
    early-exit (index-names _ K c.args.l.now c.args.r.now) c.ranges.g _ c.early_two.ensures.number c.in_err-l.was _ c.from_residual.ensures.1

pub returns-then-rank-ne1 : goal.returns-then-rank-ne1
returns-then-rank-ne1 c K =
    let fine = sym (early-read c.ranges.g c.early_two.result _ c.early_two.ensures.number) ∙ asked_ok c.in_ok-l.was in
    let l : c.rank.result ≡ rank (array_of c.args.l.now) = c.rank.ensures ∙ ap (λ o. rank (array_of o)) c.in_ok-l.ensures.operands.0 in
    let no = ne_eqb _ 1 (λ e. c.if-rank-ne1.true (l ∙ e)) in
    own-replied (index-names _ K c.args.l.now c.args.r.now) _ fine (refuses Rank) (sym (index-own _ _ (array_of c.args.r.now) ∙ rw no))

pub returns-in_err-late : goal.returns-in_err-late
returns-in_err-late c K =
    let k = known c.ranges.g c.early_two.result c.args.l.now c.args.r.now c.early_two.ensures.number c.in_ok-l.was c.r.view_is
    c.in_ok-l.ensures.operands.1 c.r.invariant c.count.ensures in
    let l = sym (ap (λ o. rank (array_of o)) c.in_ok-l.ensures.operands.0) ∙ sym c.rank.ensures ∙ c.if-rank-ne1.false in
    rw k.is (late-replied (index-ready k.good (rw k.is at k.fine) l) _ c.late.ensures k.count
    (exit c.in_err-late.was c.from_residual-in_err-late.result c.from_residual-in_err-late.ensures.1))

pub put_each-requires : goal.put_each-requires
put_each-requires c =
    let k = known c.ranges.g c.early_two.result c.args.l.now c.args.r.now c.early_two.ensures.number c.in_ok-l.was c.r.view_is
    c.in_ok-l.ensures.operands.1 c.r.invariant c.count.ensures in
    let l = ap length (c.elements.ensures ∙ ap (λ o. (array_of o).elements) c.in_ok-l.ensures.operands.0) in
    let roomy : Roomy c.r.inside.shape _ = late-fine _ (sym (asked_ok c.in_ok-late.was) ∙ c.late.ensures) k.count refl in
    record {
      origin = omega (arith, c.magnitude-first.ensures ∙ ap nat_abs (read32 _ c.ranges.g), (origin-is _ k.both.origin).1);
      small = omega (arith, l, few _ k.both.left);
      space = omega (arith, ap length c.elements-2.ensures, c.count.ensures, k.count, roomy.space);
    }

pub returns : goal.returns
returns c K =
    let k = known c.ranges.g c.early_two.result c.args.l.now c.args.r.now c.early_two.ensures.number c.in_ok-l.was c.r.view_is
    c.in_ok-l.ensures.operands.1 c.r.invariant c.count.ensures in
    let l = sym (ap (λ o. rank (array_of o)) c.in_ok-l.ensures.operands.0) ∙ sym c.rank.ensures ∙ c.if-rank-ne1.false in
    let ready = index-ready k.good {K = K} (rw k.is at k.fine) l in
    let late = sym (asked_ok c.in_ok-late.was) ∙ c.late.ensures in
    let roomy : Roomy c.r.inside.shape _ = late-fine _ late k.count refl in
    rw k.is
    (given-replied ready _ late k.count refl (as-result ready roomy.good c.as_result.ensures)
    (index-out _ _ _ _ k.both.origin k.good.whole (c.magnitude-first.ensures ∙ ap nat_abs (read32 _ c.ranges.g))
    (c.elements.ensures ∙ ap (λ o. (array_of o).elements) c.in_ok-l.ensures.operands.0)
    (c.elements-2.ensures ∙ ap (λ o. (array_of o).elements) (sym c.r.view_is)) c.put_each.ensures))
