-- An array whose places are those of another in another order has the same elements, each as often.
use mathlib.Core.Path.{◌≡◌, refl, sym, ap, ◌∙◌}
use mathlib.Core.List.{List}
use Prim.Native.Nat.{ℕ, zero, suc, ◌<◌}
use native.Mathlib.Numerals.{one-add}
use native.Mathlib.Decide.{dec_lt}
use native.Mathlib.Omega.{arith}
use lib.ListN.{length, get_or, set}
use lib.Seq.{set-get_or}
use lib.IntN.{ℤ, pos}
use Rattle.shape.specs.Shape.{count, without}
use Rattle.shape.specs.Place.{index, place}
use Rattle.shape.proofs.Places.{In, index-lt, place_in, index-place, place-index}
use Rattle.shape.proofs.Axis.{in-length, in-at}
use Rattle.meaning.specs.Array.{Array, at, tab, build}
use Rattle.meaning.specs.Terms.{rank, axis, gather}
use Rattle.meaning.proofs.Tab.{tab-get_or}
use Rattle.meaning.proofs.Arrays.{Whole, build-ext, build-at}
use Rattle.laws.specs.Words.{occurs}
use Rattle.laws.proofs.Moves.{on_line, line-line, along_lines, moved, stays, along-out}
use Rattle.laws.proofs.Sum.{OneToOne, Below, numbers-add, sum, sum-permuted}
use Rattle.laws.proofs.Occurs.{occurs-permuted}

ones : (n : ℕ) → sum n (λ i. 1) ≡ n
unfolding gather
ones zero = refl
ones (suc n) = rw (ones n) (one-add n)

-- σ takes the places of t to those of s, one to one, and so their indices.
module _ (t s : List ℕ) {σ τ : List ℕ → List ℕ} (h : OneToOne (In t) (In s) σ τ) where
  abbrev to : ℕ → ℕ
  to i = index s (σ (place t i))

  abbrev from : ℕ → ℕ
  from j = index t (τ (place s j))

  indices : OneToOne (Below (count t)) (Below (count s)) to from
  indices = record {
    there = λ i l. index-lt s _ (h.there _ (place_in t i l));
    back = λ j l. index-lt t _ (h.back _ (place_in s j l));
    there_back = λ i l.
        let p : In t (place t i) = place_in t i l in
        ap (λ q. index t (τ q)) (place-index s _ (h.there _ p)) ∙ ap (index t) (h.there_back _ p) ∙ index-place t i l;
    back-there = λ j l.
        let q : In s (place s j) = place_in s j l in
        ap (λ p. index s (σ p)) (place-index t _ (h.back _ q)) ∙ ap (index s) (h.back-there _ q) ∙ index-place s j l;
  }

  pub permuted-occurs : (x : ℤ) (xs : List ℤ) → length xs ≡ count s
      → occurs x (build t (λ p. at (record { lengths = s; elements = xs }) (σ p))).elements ≡ occurs x xs
  unfolding build at
  permuted-occurs x xs w =
      occurs-permuted x indices (λ i. get_or xs i (pos 0))
      ∙ ap (occurs x) (ap (λ n. tab n (λ i. get_or xs i (pos 0))) (sym w) ∙ tab-get_or xs (pos 0))

  -- So the counts agree.
  pub permuted-count : count t ≡ count s
  permuted-count = sym (ones (count t)) ∙ sum-permuted numbers-add indices (λ i. 1) ∙ ones (count s)

-- A move that another undoes keeps each number as often.
pub moved-occurs : (a : Array) (k : ℕ) (f g : List ℕ → ℕ → ℕ) → Whole a
    → ((q : List ℕ) → OneToOne (Below (axis a k)) (Below (axis a k)) (f q) (g q))
    → (x : ℤ) → occurs x (moved a k f).elements ≡ occurs x a.elements
unfolding moved along_lines
moved-occurs a k f g w o x = by (dec_lt k (rank a))
  where
    one : k < rank a → OneToOne (In a.lengths) (In a.lengths) (on_line k f) (on_line k g)
    one l =
        let under : (r : List ℕ) → In a.lengths r → get_or r k 0 < axis a k = λ r i. in-at a.lengths r k i l in
        let has : (r : List ℕ) → In a.lengths r → k < length r = λ r i. omega (arith, in-length a.lengths r i) in
        record {
          there = λ r i. stays a k (f (without k r) (get_or r k 0)) r ((o _).there _ (under r i)) i;
          back = λ r i. stays a k (g (without k r) (get_or r k 0)) r ((o _).back _ (under r i)) i;
          there_back = λ r i. line-line k g f r (has r i) ∙ ap (set r k) ((o _).there_back _ (under r i)) ∙ set-get_or r k 0;
          back-there = λ r i. line-line k f g r (has r i) ∙ ap (set r k) ((o _).back-there _ (under r i)) ∙ set-get_or r k 0;
        }

    by : Dec (k < rank a) → occurs x (moved a k f).elements ≡ occurs x a.elements
    by (yes l) = permuted-occurs a.lengths a.lengths (one l) x a.elements w
    by (no l) = ap (λ b. occurs x b.elements) (build-ext a.lengths _ _ (λ r i. along-out a k f r (omega arith) i) ∙ build-at a w)
