-- Positions of a mask that are all ones, or none of them one.
use mathlib.Core.Path.{◌≡◌, refl, sym, ap, ◌∙◌}
use mathlib.Core.List.{List}
use mathlib.Core.Bool.{Bool, true, false, not, beq}
use mathlib.Core.Logic.{⊎_elim}
use Prim.Native.Nat.{ℕ, zero, suc, ◌+◌, ◌*◌, ◌-◌, ◌≤◌, ◌<◌}
use native.Mathlib.Nat.{add-zero, eq-or-lt_of_le, mul-le-mul_right}
use native.Mathlib.Omega.{arith}
use lib.ListN.{length}
use lib.IntN.{ℤ}
use Rattle.shape.proofs.Bools.{no_way}
use Rattle.masks.specs.Steps.Actions.{one_at}
use Rattle.masks.specs.Steps.Rows.{Stretch}
use Rattle.masks.proofs.Ones.{before, before-one, before-other}

-- What the code's test of two bools tells.
pub other-bool : (a b : Bool) → not (beq a b) ≡ true → a ≡ not b
other-bool true true h = no_way h
other-bool true false h = refl
other-bool false true h = refl
other-bool false false h = no_way h

pub same_bool : (a b : Bool) → not (beq a b) ≡ false → a ≡ b
same_bool true true h = refl
same_bool true false h = no_way (sym h)
same_bool false true h = no_way (sym h)
same_bool false false h = refl

-- One position more.
pub alike-more : (b : Bool) (l : List ℤ) (i e : ℕ) → ((j : ℕ) → i ≤ j → j < e → one_at l j ≡ b)
    → one_at l e ≡ b → (j : ℕ) → i ≤ j → j < e + 1 → one_at l j ≡ b
alike-more b l i e all one j h k = ⊎_elim (λ q. ap (one_at l) q ∙ one) (λ q. all j h q) (eq-or-lt_of_le (let m : j ≤ e = omega arith in m))

module _ {l : List ℤ} {i e : ℕ} where
  -- Ones add up.
  pub ones-add : Stretch true l i e → (t : ℕ) → i + t ≤ e → before (i + t) l ≡ before i l + t
  ones-add s zero h = ap (λ x. before x l) (add-zero i) ∙ sym (add-zero (before i l))
  ones-add s (suc t) h =
      let at : i + suc t ≡ i + t + 1 = omega arith in
      ap (λ x. before x l) at
      ∙ before-one l (i + t) (omega (arith, s.within)) (s.alike (i + t) (omega arith) (omega arith))
      ∙ ap (λ x. x + 1) (ones-add s t (omega arith))
      ∙ omega arith

  -- Others do not.
  others-add : Stretch false l i e → (t : ℕ) → i + t ≤ e → before (i + t) l ≡ before i l
  others-add s zero h = ap (λ x. before x l) (add-zero i)
  others-add s (suc t) h =
      let at : i + suc t ≡ i + t + 1 = omega arith in
      ap (λ x. before x l) at
      ∙ before-other l (i + t) (omega (arith, s.within)) (s.alike (i + t) (omega arith) (omega arith))
      ∙ others-add s t (omega arith)

  pub ones-pass : Stretch true l i e → before e l ≡ before i l + (e - i)
  ones-pass s = let at : i + (e - i) ≡ e = omega (arith, s.starts) in ap (λ x. before x l) (sym at) ∙ ones-add s (e - i) (omega arith)

  pub others-pass : Stretch false l i e → before e l ≡ before i l
  others-pass s = let at : i + (e - i) ≡ e = omega (arith, s.starts) in ap (λ x. before x l) (sym at) ∙ others-add s (e - i) (omega arith)

-- A stretch of others and the ones after it leave no position where they began.
pub stretch-more : {l : List ℤ} {i first next : ℕ} → Stretch false l i first → Stretch true l first next → i < length l → i < next
stretch-more {l = l} {i = i} {first = first} {next = next} a b h =
    let m : i ≤ next = omega (arith, a.starts, b.starts) in
    ⊎_elim (λ q. absurd (none q)) (λ q. q) (eq-or-lt_of_le m)
  where
    none : i ≡ next → ⊥
    none q =
        let here : first ≡ i = omega (arith, a.starts, b.starts) in
        let one : one_at l first ≡ true = a.ends (omega arith) in
        let other : one_at l next ≡ false = b.ends (omega arith) in
        no_way (sym other ∙ ap (one_at l) (let e : next ≡ first = omega arith in e) ∙ one)

-- The position at which others end is the first of the ones.
pub from_first : {l : List ℤ} {i first next : ℕ} → Stretch false l i first → first < length l → Stretch true l (first + 1) next → Stretch true l first next
from_first {l = l} {first = first} {next = next} a h b =
    record { starts = omega (arith, b.starts); within = b.within; alike = all; ends = b.ends }
  where
    all : (j : ℕ) → first ≤ j → j < next → one_at l j ≡ true
    all j k m = ⊎_elim (λ q. ap (one_at l) (sym q) ∙ a.ends h) (λ q. b.alike j (omega arith) m) (eq-or-lt_of_le k)

-- The elements of the rows at a stretch, c a row.
pub rows-size : (i e c : ℕ) → i ≤ e → e * c - i * c ≡ (e - i) * c
rows-size i e c h = let whole : (i + (e - i)) * c ≡ e * c = ap (λ x. x * c) (let k : i + (e - i) ≡ e = omega arith in k) in omega arith

pub rows-within : {b : Bool} {l : List ℤ} {i e : ℕ} (c n : ℕ) → Stretch b l i e → length l * c ≤ n → (i * c ≤ e * c) × (e * c ≤ n)
rows-within {l = l} {i = i} {e = e} c n s h =
    (mul-le-mul_right {m = i} {n = e} c s.starts, omega (arith, mul-le-mul_right {m = e} {n = length l} c s.within))
