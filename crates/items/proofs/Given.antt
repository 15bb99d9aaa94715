-- An item that is not refused, and its part.
use mathlib.Core.Path.{◌≡◌, refl, sym, ap, ap₂, ◌∙◌}
use mathlib.Core.List.{List}
use Prim.Native.Nat.{ℕ, zero, suc, ◌+◌, ◌*◌, ◌≤◌, ◌<◌}
use native.Mathlib.Nat.{mul-le-mul_right}
use native.Mathlib.Omega.{arith}
use borrow.Author.Tests.{eqb-false}
use lib.ListN.{length}
use lib.IntN.{ℤ, ◌-ℤ◌}
use Rattle.shape.specs.declared.Shape.{Shape}
use Rattle.shape.specs.Shape.{max_rank, counted, count, around_of}
use Rattle.meaning.specs.Array.{Operand, array_of}
use Rattle.meaning.specs.Terms.{rank, axis, from_zero}
use Rattle.meaning.specs.Item.{item_refusal, item_lengths, settle_item, leading_item}
use Rattle.meaning.proofs.Arrays.{form-room}
use Rattle.meaning.proofs.Positions.{within-lt}
use Rattle.answer.specs.Answer.{lent}
use Rattle.answer.proofs.Lent.{Lent, lent-good}
use Rattle.items.specs.Part.{part_in, settle_part, item_part}
use Rattle.items.proofs.Refusals.{Accepted, accepted}
use Rattle.items.proofs.First.{count-first, first_inner}

module _ (R : Operand) (G i : ℤ) where
  -- There is a first axis, and the item ends within the array.
  pub item-axes : Accepted R G i → 0 < rank (array_of R)
  item-axes a = let h = eqb-false (rank (array_of R)) 0 a.axes in omega arith

  pub item_room : Accepted R G i → from_zero G i * count (item_lengths R) + count (item_lengths R) ≤ count (counted R.shape)
  item_room a =
      omega (
        arith,
        count-first (counted R.shape) (item-axes a),
        mul-le-mul_right (count (item_lengths R)) (within-lt (i -ℤ G) (axis (array_of R) 0) a.inside),
      )

  -- The part's elements are the item's, and it lies in the buffer.
  pub part-elements : part_in (item_part R G i) R.buffer ≡ (leading_item R G i).part
  unfolding item_part leading_item settle_part settle_item
  part-elements = by (item_refusal R G i)
    where
      by : (n : ℕ) → part_in (settle_part n (from_zero G i) (count (item_lengths R))) R.buffer
          ≡ (settle_item n (item_lengths R) (from_zero G i) R.buffer).part
      by zero = refl
      by (suc n) = refl

  pub part-inside : (item_part R G i).start + (item_part R G i).length ≤ length R.buffer
  unfolding item_part settle_part
  part-inside = by (item_refusal R G i) refl
    where
      by : (n : ℕ) → item_refusal R G i ≡ n
          → (settle_part n (from_zero G i) (count (item_lengths R))).start + (settle_part n (from_zero G i) (count (item_lengths R))).length ≤ length R.buffer
      by zero z = let a = accepted R G i z in omega (arith, item_room a, form-room R a.forms)
      by (suc n) z = omega arith

  pub part-refused : (item_refusal R G i ≡ 0 → ⊥) → record { start = 0; length = 0 } ≡ item_part R G i
  unfolding item_part settle_part
  part-refused h = by (item_refusal R G i) h
    where
      by : (n : ℕ) → (n ≡ 0 → ⊥) → record { start = 0; length = 0 } ≡ settle_part n (from_zero G i) (count (item_lengths R))
      by zero h = absurd (h refl)
      by (suc n) h = refl

  pub part-given : (at size : ℕ) → item_refusal R G i ≡ 0 → at ≡ from_zero G i → size ≡ count (item_lengths R)
      → record { start = at * size; length = size } ≡ item_part R G i
  unfolding item_part settle_part
  part-given at size z p q =
      ap₂ (λ x y. record { start = x * y; length = y }) p q ∙ sym (ap (λ n. settle_part n (from_zero G i) (count (item_lengths R))) z)

-- What the program knows of an item that it does not refuse.
pub record Given (s : Shape) (b : List ℤ) (G i : ℤ) : Type 0 where
  pub none : item_refusal (lent s b) G i ≡ 0
  pub operand : Lent s b
  pub axes : 0 < s.rank
  pub room : from_zero G i * count (item_lengths (lent s b)) + count (item_lengths (lent s b)) ≤ count (counted s)
  pub inner : (around_of s 0).inner ≡ count (item_lengths (lent s b))

pub given : (s : Shape) (b : List ℤ) (G i : ℤ) → length s.lens ≡ max_rank → item_refusal (lent s b) G i ≡ 0 → Given s b G i
given s b G i long z =
    let a = accepted (lent s b) G i z in
    let g = lent-good s b long a.forms in
    let axes : 0 < s.rank = omega (arith, g.rank_is, item-axes (lent s b) G i a) in
    let room = item_room (lent s b) G i a in
    record { none = z; operand = g; axes = axes; room = room; inner = first_inner s g.high axes (omega (arith, g.count_small)) }
