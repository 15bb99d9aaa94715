-- Parts written one before the other, each after a blank.
use Prim.Native.Nat.{ℕ, suc, ◌+◌, ◌*◌, ◌≤◌, ◌<◌}
use native.Mathlib.Omega.{arith}
use mathlib.Core.Path.{◌≡◌, refl, sym, ap}
use mathlib.Core.List.{List, [], ◌∷◌, ◌++◌, map, append_assoc, append-nil}
use mathlib.Core.Bool.{Bool, cond}
use lib.ListN.{length, get_or, drop, length-append}
use lib.Seq.{drop-cons, drop-length}
use lib.IntN.{ℤ, pos, negsuc, nat_abs}
use mir.Syntax.{w32}
use mir.Val.{SFits, to_z, of_z}
use mir.Facts.{to_z-of_z}
use Rattle.std.proofs.Math.Numerals.{add-one}
use Rattle.std.proofs.lemmas.List.{map-append}
use Rattle.meaning.specs.Terms.{negative}
use Rattle.sheet_line.specs.Text.{blank, minus, digits, decimal, following}
use Rattle.sheet_answer.proofs.Writing.{width-most}

-- An element's text, by the magnitude and the sign that `signed` tells.
module _ (z : ℤ) (f : SFits w32 z) {m : ℕ} (magnitude : m ≡ nat_abs (to_z w32 (of_z w32 z))) where
  magnitude-is : m ≡ nat_abs z
  magnitude-is = rw (to_z-of_z f) at magnitude

  pub magnitude-short : length (digits m) ≤ 10
  magnitude-short = rw magnitude-is (by z f)
    where
      by : (z : ℤ) → SFits w32 z → length (digits (nat_abs z)) ≤ 10
      by (pos n) h = width-most 9 n (omega (arith, h.sfits))
      by (negsuc m) h = width-most 9 (suc m) (omega (arith, h.sfits))

  pub magnitude-within : length (digits m) ≤ length (decimal z)
  unfolding decimal
  magnitude-within = rw magnitude-is (by z)
    where
      by : (z : ℤ) → length (digits (nat_abs z)) ≤ length (decimal z)
      by (pos n) = omega arith
      by (negsuc m) = omega arith

  pub decimal-is : {b known : Bool} → b ≡ negative (to_z w32 (of_z w32 z)) → b ≡ known → decimal z ≡ cond known (minus ∷ digits m) (digits m)
  unfolding negative decimal
  decimal-is sign e = rw (← e, rw (to_z-of_z f) at sign, magnitude-is) (by z)
    where
      by : (z : ℤ) → decimal z ≡ cond (negative z) (minus ∷ digits (nat_abs z)) (digits (nat_abs z))
      by (pos n) = refl
      by (negsuc m) = refl

-- A part more after others.
pub following-append : (xs ys : List (List ℕ)) → following (xs ++ ys) ≡ following xs ++ following ys
unfolding following
following-append [] ys = refl
following-append (x ∷ xs) ys = ap (λ l. blank ∷ l) (rw (following-append xs ys) (sym (append_assoc x (following xs) (following ys))))

module _ {A : Type 0} (f : A → List ℕ) where
  pub following-last : {xs : List A} (ys : List A) (y : A) → xs ≡ ys ++ y ∷ [] → following (map f xs) ≡ following (map f ys) ++ (blank ∷ f y)
  unfolding following
  following-last ys y e = rw (e, map-append f ys (y ∷ []), following-append (map f ys) (f y ∷ []), append-nil (f y))

  pub last-short : {xs : List A} (ys : List A) (y : A) → xs ≡ ys ++ y ∷ [] → suc (length (f y)) ≤ length (following (map f xs))
  last-short ys y e = omega (arith, ap length (following-last ys y e), length-append (following (map f ys)) (blank ∷ f y))

-- A loop that adds up the parts' widths, each at most `most`: those before i are in the sum.
pub record Summed {A : Type 0} (f : A → List ℕ) (xs : List A) (most sum i : ℕ) : Type 0 where
  pub width : sum + length (following (map f (drop i xs))) ≡ length (following (map f xs))
  pub bound : sum ≤ most * i

module _ {A : Type 0} {f : A → List ℕ} {xs : List A} {most : ℕ} where
  pub sum_more : {sum i n : ℕ} → Summed f xs most sum i → (d : A) → i < length xs → n ≡ suc (length (f (get_or xs i d))) → n ≤ most
      → Summed f xs most (sum + n) (i + 1)
  unfolding following
  sum_more {sum} {i} {n} s d h e k =
      let on : following (map f (drop i xs)) ≡ blank ∷ f (get_or xs i d) ++ following (map f (drop (i + 1) xs)) = rw (drop-cons xs i d h, add-one) in
      record {
        width = omega (arith, s.width, ap length on, length-append (f (get_or xs i d)) (following (map f (drop (i + 1) xs))));
        bound = omega (arith, s.bound);
      }

  pub sum-all : {sum i : ℕ} → Summed f xs most sum i → length xs ≡ i → sum ≡ length (following (map f xs))
  unfolding following
  sum-all s e = omega (arith, rw (← e, drop-length xs) at s.width)
