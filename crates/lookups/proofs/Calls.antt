-- 29 and 30: what they ask, and what they give.
use Rattle.std.specs.Prelude.{Result, Ok}
use mir.Syntax.{w32}
use mir.Val.{SFits, to_z, of_z}
use mathlib.Core.Path.{◌≡◌, refl, sym, ap, ◌∙◌}
use mathlib.Core.List.{List, ◌++◌}
use mathlib.Core.Bool.{true, false, not, cond, ◌&&◌}
use native.Mathlib.Omega.{arith}
use borrow.Author.Tests.{eq-eqb}
use Prim.Native.Nat.{ℕ, ◌≤◌}
use lib.Dec.{eqb}
use lib.ListN.{length, drop, get_or}
use lib.IntN.{ℤ, pos, nat_abs, ◌+ℤ◌}
use Rattle.shape.specs.declared.Shape.{Shape}
use Rattle.shape.specs.Shape.{max_count, count, count_of}
use Rattle.shape.proofs.Bools.{both}
use Rattle.shape.proofs.Counts.{count-good, count-of}
use Rattle.shape.proofs.Made.{Stands}
use Rattle.shape.proofs.Places.{index-place}
use Rattle.meaning.specs.Array.{Operand, Array, array_of, good_form, at, build}
use Rattle.meaning.specs.Refusal.{number, precedence}
use Rattle.meaning.specs.Refusal.Refusal.{RANK}
use Rattle.meaning.specs.Terms.{int_same, rank, first_at}
use Rattle.meaning.specs.Primitives.{index_of, member}
use Rattle.meaning.specs.Reply.{primitives, named, is_origin}
use Rattle.meaning.proofs.Tab.{tab-ext}
use Rattle.meaning.proofs.Arrays.{Whole, form-shape, form-whole}
use Rattle.signed.proofs.Equal.{origin-is}
use Rattle.copying.specs.Steps.{filled}
use Rattle.answer.specs.Answer.{lent, own, early, WellFormed}
use Rattle.answer.specs.Refused.{asked}
use Rattle.answer.specs.declared.refusal.Refusal as code
use Rattle.answer.proofs.Early.{early-read}
use Rattle.answer.proofs.Exits.{asked_ok}
use Rattle.answer.proofs.Lent.{Lent, formed, lent-stands, early-fine}
use Rattle.answer.proofs.Order.{Names, own_first, Ready}
use Rattle.lookups.specs.Steps.{entry, entries}

module _ (G K : ℤ) (L R : Operand) where
  pub index-names : Names 29 2 G K L R (index_of G (array_of L) (array_of R))
  unfolding primitives named int_same index_of precedence
  index-names = record { number = refl; arity = refl; meaning = refl; own = refl }

  pub member-names : Names 30 2 G K L R (member (array_of L) (array_of R))
  unfolding primitives named int_same member precedence
  member-names = record { number = refl; arity = refl; meaning = refl; own = refl }

-- A result of an array's lengths, each element from the one at its place.
each : (a : Array) (f : ℤ → ℤ) (out : List ℤ) → Whole a → filled (λ j. f (get_or a.elements j (pos 0))) (length a.elements) out
    ≡ (build a.lengths (λ p. f (at a p))).elements ++ drop (count a.lengths) out
unfolding build at
each a f out w =
    ap (λ n. filled (λ j. f (get_or a.elements j (pos 0))) n out) w
    ∙ ap (λ x. x ++ drop (count a.lengths) out)
    (tab-ext (count a.lengths) _ _ (λ j h. ap (λ i. f (get_or a.elements i (pos 0))) (sym (index-place a.lengths j h))))

-- What they ask, and what they give.
module _ (G : ℤ) (L R : Array) where
  pub index-own : own 29 (index_of G L R).refusals ≡ cond (not (eqb (rank L) 1)) (number RANK) 0
  unfolding index_of precedence
  index-own = own_first 29 _ refl

  pub index-out : {first : ℕ} {l r last : List ℤ} (out : List ℤ) → is_origin G ≡ true → Whole R → first ≡ nat_abs G → l ≡ L.elements → r ≡ R.elements
      → last ≡ filled (entries false first l r) (length r) out
      → last ≡ (build (index_of G L R).lengths (index_of G L R).element).elements ++ drop (count (index_of G L R).lengths) out
  unfolding index_of entry
  index-out out o w e f h q =
      q
      ∙ rw (e, f, h)
      (ap (λ z. filled (λ j. z +ℤ pos (first_at (get_or R.elements j (pos 0)) L.elements)) (length R.elements) out) (sym (origin-is G o).0)
      ∙ each R (λ x. G +ℤ pos (first_at x L.elements)) out w)

module _ (L R : Array) where
  pub member-own : own 30 (member L R).refusals ≡ 0
  unfolding member precedence
  member-own = own_first 30 _ refl

  pub member-out : {l r last : List ℤ} (out : List ℤ) → Whole L → l ≡ L.elements → r ≡ R.elements → last ≡ filled (entries true 0 r l) (length l) out
      → last ≡ (build (member L R).lengths (member L R).element).elements ++ drop (count (member L R).lengths) out
  unfolding member entry
  member-out out w f h q = q ∙ rw (f, h) (each L (λ x. entry true 0 (length R.elements) (first_at x R.elements)) out w)

-- The elements of an operand of good form are few.
pub few : (o : Operand) → good_form o ≡ true → length (array_of o).elements ≤ max_count
few o h = omega (arith, form-whole o h, count-good o.shape (form-shape o h), count-of o.shape (form-shape o h))

-- What is known of two operands where neither FORM nor ORIGIN was met.
pub record Both (G : ℤ) (L R : Operand) : Type 0 where
  pub origin : is_origin G ≡ true
  pub left : good_form L ≡ true
  pub right : good_form R ≡ true

pub both-good : (G : ℤ) (L R : Operand) → early (good_form L && good_form R) G ≡ 0 → Both G L R
both-good G L R h =
    let f = early-fine G (good_form L && good_form R) h in
    let t = both (good_form L) (good_form R) f.forms in
    record { origin = f.origin; left = t.0; right = t.1 }

-- What a call knows where `early_two` refused nothing, of the operand o whose lengths are the result's: c is what `count` answered.
pub record Known (G : ℤ) (L R o : Operand) (s : Shape) (b : List ℤ) (c : ℕ) : Type 0 where
  pub fine : early (good_form L && good_form R) G ≡ 0
  pub both : Both G L R
  pub is : o ≡ lent s b
  pub good : Lent s b
  pub count : c ≡ count_of s

module _ {G : ℤ} (f : SFits w32 G) {A : Type 0} (x : Result A code.Refusal) (L R : Operand) where
  pub known : {v : A} {o p : Operand} {s : Shape} {b : List ℤ} {c : ℕ} → asked x ≡ early (good_form L && good_form R) (to_z w32 (of_z w32 G)) → x ≡ Ok v
      → lent s b ≡ p → p ≡ o → WellFormed s b → c ≡ length (array_of p).elements → Known G L R o s b c
  known asks ok view of w c =
      let fine = sym (early-read f x _ asks) ∙ asked_ok ok in
      let g = formed w in
      record {
        fine = fine;
        both = both-good G L R fine;
        is = sym (view ∙ of);
        good = g;
        count = c ∙ ap (λ o. length (array_of o).elements) (sym view) ∙ g.whole ∙ sym g.count-is;
      }

module _ {s : Shape} {b : List ℤ} (g : Lent s b) where
  -- Their results have an operand's lengths.
  index-stands : (G : ℤ) (L : Array) → Stands s (index_of G L (array_of (lent s b))).lengths
  unfolding index_of
  index-stands G L = lent-stands g

  member-stands : (R : Array) → Stands s (member (array_of (lent s b)) R).lengths
  unfolding member
  member-stands R = lent-stands g

  -- All that is known where 29 and 30 refused nothing of their own.
  pub index-ready : {G K : ℤ} {L : Operand} → early (good_form L && good_form (lent s b)) G ≡ 0 → rank (array_of L) ≡ 1
      → Ready 29 2 G K L (lent s b) (index_of G (array_of L) (array_of (lent s b))) s
  index-ready {G} {K} {L} f e =
      record {
        names = index-names G K L (lent s b);
        fine = f;
        none = index-own G (array_of L) (array_of (lent s b)) ∙ rw (eq-eqb _ 1 e);
        stands = index-stands G (array_of L);
      }

  pub member-ready : {G K : ℤ} {R : Operand} → early (good_form (lent s b) && good_form R) G ≡ 0
      → Ready 30 2 G K (lent s b) R (member (array_of (lent s b)) (array_of R)) s
  member-ready {G} {K} {R} f =
      record {
        names = member-names G K (lent s b) R;
        fine = f;
        none = member-own (array_of (lent s b)) (array_of R);
        stands = member-stands (array_of R);
      }
