use Rattle.std.proofs.Common.{◌≡◌, ◌∙◌, sym}
use mathlib.Core.Path.{refl, ap, subst}
use mathlib.Core.List.{List, map}
use mathlib.Core.Bool.{true, not, cond}
use lib.ListN.{length}
use lib.IntN.{ℤ}
use Prim.Native.Nat.{ℕ}
use borrow.Author.Tests.{ne_eqb}
use Rattle.signed.proofs.Reading.{read32}
use Rattle.meaning.specs.Array.{array_of}
use Rattle.meaning.specs.Terms.{rank, is_list, from_zero}
use Rattle.answer.specs.Refused.{asked}
use Rattle.answer.proofs.Lent.{formed}
use Rattle.transposes.specs.Steps.Sent.{route, in_domain}
use Rattle.transposes.specs.Steps.Outcome.{Sending}
use Rattle.transposes.proofs.Calls.{by-own, by-domain}
use Rattle.transposes.proofs.sent_by.Goals as goal

pub returns-then-not-is_list : goal.returns-then-not-is_list
unfolding asked
returns-then-not-is_list c =
    record { own_is = sym (by-own c.args.g (array_of c.args.l.now) (array_of c.args.r.now) ∙ rw (sym c.if-not-is_list.ensures) refl); sent = tt }

pub returns-then-count-r : goal.returns-then-count-r
unfolding asked
returns-then-count-r c =
    let L = array_of c.args.l.now in
    let R = array_of c.args.r.now in
    let l : is_list (array_of c.args.l.now) ≡ true = sym c.if-not-is_list.ensures in
    let n : rank (array_of c.args.r.now) ≡ c.r.inside.shape.rank = ap (λ o. rank (array_of o)) (sym c.r.view_is) ∙ (formed c.r.invariant).rank_is in
    record {
      own_is = sym (by-own c.args.g (array_of c.args.l.now) (array_of c.args.r.now)
          ∙ rw (
            l,
            ne_eqb (length (array_of c.args.l.now).elements) (rank (array_of c.args.r.now))
                (λ e. c.if-count-r.true (ap length c.elements-elements.ensures ∙ e ∙ n)),
          ) refl);
      sent = tt;
    }

pub chosen-requires : goal.chosen-requires
chosen-requires c = c.if-count-r.false ∙ ap (λ o. o.shape.rank) c.r.view_is

pub returns : goal.returns
returns c =
    let l : is_list (array_of c.args.l.now) ≡ true = sym c.if-not-is_list.ensures in
    let n : rank (array_of c.args.r.now) ≡ c.r.inside.shape.rank = ap (λ o. rank (array_of o)) (sym c.r.view_is) ∙ (formed c.r.invariant).rank_is in
    let e = sym (ap length c.elements-elements.ensures) ∙ c.if-count-r.false ∙ sym n in
    rw (by-domain c.args.g (array_of c.args.l.now) (array_of c.args.r.now) l e)
    (subst
    (λ (p : List ℤ). Sending c.chosen.result (cond {A = ℕ} (not (in_domain c.args.g (length p) p)) 7 0) (route c.args.r.now (map (from_zero c.args.g) p)))
    c.elements-elements.ensures (rw (read32 c.args.g c.ranges.g) at c.chosen.ensures))
