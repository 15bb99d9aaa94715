-- The leading item is what 31 gives for a scalar L on the first axis.
use mathlib.Core.Path.{◌≡◌, refl, sym, ap, ◌∙◌}
use mathlib.Core.List.{[], ◌∷◌}
use mathlib.Core.Bool.{Bool, true, false, not, cond, ◌&&◌, and-true}
use Prim.Native.Nat.{ℕ, ◌+◌, ◌*◌, ◌<◌}
use native.Mathlib.Omega.{arith}
use borrow.Author.Tests.{lt-ltb, eqb-false}
use lib.ListN.{get_or, take, drop}
use lib.Seq.{get_or-take}
use lib.IntN.{ℤ, pos, nat_abs, ◌-ℤ◌, +ℤ_invr}
use Rattle.shape.specs.Shape.{counted, count, shape_of, without}
use Rattle.shape.specs.Place.{place}
use Rattle.meaning.specs.Array.{Operand, Array, array_of, good_form, at, build}
use Rattle.meaning.specs.Refusal.{number, precedence}
use Rattle.meaning.specs.Refusal.Refusal.{RANK, AXIS, INDEX}
use Rattle.meaning.specs.Terms.{rank, axis, is_scalar, within, from_zero, every, put_in}
use Rattle.meaning.specs.Primitives.{Meaning, select}
use Rattle.meaning.specs.Reply.{is_origin}
use Rattle.meaning.specs.Item.{Item, item_refusal, item_lengths, leading_item}
use Rattle.meaning.proofs.Tab.{tab-ext, tab-part}
use Rattle.meaning.proofs.Arrays.{form-room}
use Rattle.answer.specs.Answer.{own}
use Rattle.answer.proofs.Order.{own_first}
use Rattle.answer.proofs.Lent.{early-none}
use Rattle.items.proofs.Refusals.{Accepted, accepted, item-own, item-given}
use Rattle.items.proofs.First.{index-first}
use Rattle.items.proofs.Given.{item-axes, item_room}

-- The array that the scalar i is.
abbrev pub scalar_of : ℤ → Array
scalar_of i = record { lengths = []; elements = i ∷ [] }

-- 31 of it, on the first axis.
abbrev pub selecting : Operand → ℤ → ℤ → Meaning
selecting R G i = select G G (scalar_of i) (array_of R)

module _ (R : Operand) (G i : ℤ) where
  selected-lengths : (selecting R G i).lengths ≡ item_lengths R
  unfolding select
  selected-lengths = ap (λ z. without (nat_abs z) (array_of R).lengths) (+ℤ_invr G)

  selected : build (selecting R G i).lengths (selecting R G i).element ≡ build (item_lengths R) (λ p. at (array_of R) (put_in 0 (from_zero G i) p))
  unfolding select
  selected = ap (λ z. build (without (nat_abs z) (array_of R).lengths) (λ p. at (array_of R) (put_in (nat_abs z) (from_zero G i) p))) (+ℤ_invr G)

  -- What 31 asks of it: RANK, AXIS, which the first axis never meets, and INDEX.
  asked : own 31 (selecting R G i).refusals
      ≡ cond (is_scalar (array_of R)) (number RANK)
      (cond (not (within (G -ℤ G) (rank (array_of R)))) (number AXIS)
      (cond (not (within (i -ℤ G) (axis (array_of R) (from_zero G G)) && true)) (number INDEX) 0))
  unfolding select precedence every
  asked = own_first 31 _ refl

  on-axis : is_scalar (array_of R) ≡ false → within (G -ℤ G) (rank (array_of R)) ≡ true
  unfolding within
  on-axis s = let h = eqb-false (rank (array_of R)) 0 s in rw (+ℤ_invr G) (lt-ltb 0 (rank (array_of R)) (omega arith))

  -- 31 refuses the same numbers, where FORM and ORIGIN are not met.
  pub item-alike : good_form R ≡ true → is_origin G ≡ true → item_refusal R G i ≡ own 31 (selecting R G i).refusals
  item-alike h o = item-own R G i (early-none G (good_form R) h o) ∙ by (is_scalar (array_of R)) refl ∙ sym asked
    where
      by : (c : Bool) → is_scalar (array_of R) ≡ c
          → cond c (number RANK) (cond (not (within (i -ℤ G) (axis (array_of R) 0))) (number INDEX) 0)
          ≡ cond c (number RANK)
          (cond (not (within (G -ℤ G) (rank (array_of R)))) (number AXIS)
          (cond (not (within (i -ℤ G) (axis (array_of R) (from_zero G G)) && true)) (number INDEX) 0))
      by true s = refl
      by false s = rw (on-axis s, and-true, +ℤ_invr G)

  module _ (z : item_refusal R G i ≡ 0) where
    a : Accepted R G i
    a = accepted R G i z

    -- Element j of item i.
    element : (j : ℕ) → j < count (item_lengths R)
        → get_or R.buffer (from_zero G i * count (item_lengths R) + j) (pos 0) ≡ at (array_of R) (put_in 0 (from_zero G i) (place (item_lengths R) j))
    unfolding at
    element j l =
        sym
        (ap (λ k. get_or (array_of R).elements k (pos 0)) (index-first (counted R.shape) (from_zero G i) j (item-axes R G i a) l)
        ∙ get_or-take (count (counted R.shape)) R.buffer _ (pos 0) (omega (arith, item_room R G i a)))

    built : take (count (item_lengths R)) (drop (from_zero G i * count (item_lengths R)) R.buffer)
        ≡ (build (item_lengths R) (λ p. at (array_of R) (put_in 0 (from_zero G i) p))).elements
    unfolding build
    built =
        tab-part R.buffer _ _ (pos 0) (omega (arith, item_room R G i a, form-room R a.forms))
        ∙ tab-ext (count (item_lengths R)) _ _ element

    pub item-part : (leading_item R G i).part ≡ (build (selecting R G i).lengths (selecting R G i).element).elements
    item-part = ap (λ (y : Item). y.part) (item-given R G i z) ∙ built ∙ ap (λ (b : Array). b.elements) (sym selected)

    pub item-shape : (leading_item R G i).shape ≡ shape_of (selecting R G i).lengths
    item-shape = ap (λ (y : Item). y.shape) (item-given R G i z) ∙ ap shape_of (sym selected-lengths)
