use Rattle.std.proofs.Common.{arith, ◌≡◌, ◌∙◌, sym}
use mathlib.Core.Path.{refl, ap₂}
use Rattle.answer.proofs.Lent.{formed}
use lib.IntN.{pos}
use lib.ListN.{length, get_or}
use mir.Syntax.{w32}
use mir.Val.{to_z, of_z}
use mir.Facts.{to_z-of_z}
use borrow.Author.Rules.{sfits_of}
use Rattle.signed.proofs.Finding.{found_of, found_at, found_none}
use Rattle.signed.proofs.Reading.{read32}
use Rattle.answer.specs.Refused.{asked}
use Rattle.transposes.proofs.Choosing.{as-many, choosing-none, choosing-read, choosing-more, choosing-stop, domain-is, chosen-route, chosen-sends}
use Rattle.transposes.proofs.chosen.Goals as goal
use Rattle.transposes.proofs.chosen.Goals.{After-position}

found : (c : After-position) → c.position.result ≡ found_of (get_or c.args.l.now c.loop-i.i (pos 0)) (to_z w32 (of_z w32 c.args.g)) (length c.args.l.now)
found c =
    c.position.ensures
    ∙ ap₂ (λ z n. found_of z (to_z w32 (of_z w32 c.args.g)) n) (to_z-of_z {w = w32} (sfits_of c.position-arg-1.given)) (as-many c.r.view_is c.requires)

pub loop-i-init : goal.loop-i-init
loop-i-init c = choosing-none _ _

pub bounds-to-i : goal.bounds-to-i
bounds-to-i c = omega (arith, (formed c.r.invariant).high, as-many c.r.view_is c.requires)

pub returns-in_default : goal.returns-in_default
unfolding asked
returns-in_default c =
    let w = found_none (get_or c.args.l.now c.loop-i.i (pos 0)) (to_z w32 (of_z w32 c.args.g)) (length c.args.l.now) (sym c.in_default.is ∙ found c.before) in
    let domain = choosing-stop (choosing-read c.ranges.g c.loop-i.invariant) (omega arith) (rw (read32 c.args.g c.ranges.g) at w) in
    record { own_is = rw domain refl; sent = tt }

pub loop-i-preserved : goal.loop-i-preserved
loop-i-preserved c =
    choosing-more c.loop-i.invariant _ (found_at _ _ _ _ (sym c.in-Some.is ∙ found c.before.before)) (omega arith)
    (omega (arith, (formed c.r.invariant).high, as-many c.r.view_is c.requires)) _ (omega (arith, c.max-axes.ensures))

-- All elements name axes: what is left is whether one is sent to each.
pub invariant_of-result : goal.invariant_of-result
invariant_of-result c =
    let k = choosing-read c.ranges.g c.loop-i.invariant in
    chosen-sends k (omega arith) c.requires (domain-is k (omega arith) _ (as-many c.r.view_is c.requires) ∙ sym c.if-all_used.ensures)

pub returns-then-all_used : goal.returns-then-all_used
unfolding asked
returns-then-all_used c =
    let k = choosing-read c.ranges.g c.loop-i.invariant in
    let domain = domain-is k (omega arith) _ (as-many c.r.view_is c.requires) ∙ sym c.if-all_used.ensures in
    record { own_is = rw domain refl; sent = chosen-route k (omega arith) c.requires }

pub returns-else-all_used : goal.returns-else-all_used
unfolding asked
returns-else-all_used c =
    let k = choosing-read c.ranges.g c.loop-i.invariant in
    let domain = domain-is k (omega arith) _ (as-many c.r.view_is c.requires) ∙ sym c.if-all_used.ensures in
    record { own_is = rw domain refl; sent = tt }
