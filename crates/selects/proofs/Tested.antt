-- What the library tells of all elements, and the definitions' `every`.
use mathlib.Core.Path.{◌≡◌, refl, sym}
use mathlib.Core.List.{List, [], ◌∷◌}
use mathlib.Core.Bool.{Bool, true, false}
use Prim.Native.Nat.{ℕ, suc, ◌<◌}
use native.Mathlib.Omega.{arith}
use lib.ListN.{length, get_or}
use Rattle.std.specs.Prelude.{◌↔◌, IsTrue, All}
use Rattle.std.proofs.lemmas.List.Elements.{All-get_or}
use Rattle.meaning.specs.Terms.{every}
use Rattle.meaning.proofs.Every.{every-at}

every-from : {A : Type 0} (test : A → Bool) (l : List A) → ((i : ℕ) (d : A) → i < length l → test (get_or l i d) ≡ true) → every test l ≡ true
unfolding every
every-from test [] h = refl
every-from test (x ∷ l) h = rw (h 0 x (omega arith), every-from test l (λ i d k. h (suc i) d (omega arith))) refl

module _ {A : Type 0} (test : A → Bool) (l : List A) where
  pub tested : (r : Bool) → (IsTrue r ↔ All (λ x. test x ≡ true) l) → r ≡ every test l
  tested true h = sym (every-from test l (λ i d k. All-get_or (λ x. test x ≡ true) l i d k (h.0 refl)))
  tested false h = by (every test l) refl
    where
      by : (b : Bool) → every test l ≡ b → false ≡ b
      by false e = refl
      by true e = h.1 (λ i d k. every-at test l d e i k)
