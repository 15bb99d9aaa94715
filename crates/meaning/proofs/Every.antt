-- A test of each element.
use mathlib.Core.Path.{◌≡◌, sym, ap, ap₂, ◌∙◌}
use mathlib.Core.List.{List, [], ◌∷◌}
use mathlib.Core.Bool.{Bool, true, false, ◌&&◌, and-true, and-false}
use Prim.Native.Nat.{ℕ, zero, suc, ◌+◌, ◌≤◌, ◌<◌}
use native.Mathlib.Numerals.{add-one}
use native.Mathlib.Nat.{not-suc-le-zero, le_of_suc-le-suc}
use lib.ListN.{length, get_or, drop, drop_of_length-le}
use lib.Seq.{drop-cons}
use Rattle.shape.proofs.Bools.{both}
use Rattle.meaning.specs.Terms.{every}

-- Asked from the front.
module _ {A : Type 0} (test : A → Bool) (l : List A) (i : ℕ) where
  pub every-next : (d : A) → i < length l → test (get_or l i d) ≡ true → every test (drop i l) ≡ every test (drop (i + 1) l)
  unfolding every
  every-next d h t = rw (add-one, drop-cons l i d h, t)

  pub every-stop : (d : A) → i < length l → test (get_or l i d) ≡ false → every test (drop i l) ≡ false
  unfolding every
  every-stop d h t = rw (drop-cons l i d h, t)

  pub every-end : length l ≤ i → every test (drop i l) ≡ true
  unfolding every
  every-end h = rw (drop_of_length-le l {i = i} h)

-- Each element passes.
pub every-at : {A : Type 0} (test : A → Bool) (l : List A) (d : A) → every test l ≡ true → (i : ℕ) → i < length l → test (get_or l i d) ≡ true
unfolding every
every-at test [] d h i k = absurd (not-suc-le-zero k)
every-at test (x ∷ l) d h zero k = (both (test x) (every test l) h).0
every-at test (x ∷ l) d h (suc i) k = every-at test l d (both (test x) (every test l) h).1 i (le_of_suc-le-suc k)

-- The same by a loop that looks at all elements: all is what those before i pass.
module _ {A : Type 0} (test : A → Bool) (l : List A) (i : ℕ) (all : Bool) (inv : every test l ≡ (all && every test (drop i l))) where
  pub all-kept : {more : Bool} (d : A) → i < length l → test (get_or l i d) ≡ true → more ≡ all → every test l ≡ (more && every test (drop (i + 1) l))
  all-kept d h t e = inv ∙ ap₂ (λ a b. a && b) (sym e) (every-next test l i d h t)

  pub all-lost : {more : Bool} (d : A) → i < length l → test (get_or l i d) ≡ false → more ≡ false → every test l ≡ (more && every test (drop (i + 1) l))
  all-lost d h t e = inv ∙ ap (λ b. all && b) (every-stop test l i d h t) ∙ and-false all ∙ ap (λ a. a && every test (drop (i + 1) l)) (sym e)

  pub all_end : length l ≤ i → all ≡ every test l
  all_end h = sym (inv ∙ ap (λ b. all && b) (every-end test l i h) ∙ and-true all)
