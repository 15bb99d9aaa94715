-- The refusals of an item in their order, and what it is where none is met.
use mathlib.Core.Path.{◌≡◌, refl, sym, ap, ◌∙◌}
use mathlib.Core.List.{List, [], ◌∷◌}
use mathlib.Core.Bool.{Bool, true, false, not, cond}
use Prim.Native.Nat.{ℕ, zero, suc, ◌*◌}
use native.Mathlib.Omega.{arith}
use borrow.Author.Tests.{ne_eqb}
use lib.ListN.{get_or, take, drop}
use lib.IntN.{ℤ, ◌-ℤ◌}
use Rattle.shape.specs.declared.Shape.{Shape}
use Rattle.shape.specs.Shape.{count, shape_of, scalar}
use Rattle.meaning.specs.Array.{Operand, array_of, good_form}
use Rattle.meaning.specs.Refusal.{Rule, ◌when◌, ◌unless◌, number, precedence}
use Rattle.meaning.specs.Refusal.Refusal.{FORM, ORIGIN, RANK, INDEX}
use Rattle.meaning.specs.Terms.{rank, axis, is_scalar, within, from_zero}
use Rattle.meaning.specs.Reply.{is_origin}
use Rattle.meaning.specs.Item.{item_refusal, item_lengths, settle_item, leading_item}
use Rattle.meaning.proofs.Winner.{first_met, winner-first, or_else, else-first, first-append}
use Rattle.answer.specs.Answer.{lent, early}
use Rattle.answer.proofs.Order.{early-first}
use Rattle.answer.proofs.Lent.{Lent, Fine, early-fine, axis-is}

-- No refusal was met.
pub record Accepted (R : Operand) (G i : ℤ) : Type 0 where
  pub forms : good_form R ≡ true
  pub axes : is_scalar (array_of R) ≡ false
  pub inside : within (i -ℤ G) (axis (array_of R) 0) ≡ true

module _ (R : Operand) (G i : ℤ) where
  -- What is asked after FORM and ORIGIN, which are asked for as in every call.
  abbrev after : List Rule
  after = RANK when is_scalar (array_of R) ∷ INDEX unless within (i -ℤ G) (axis (array_of R) 0) ∷ []

  item-order : item_refusal R G i ≡ or_else (early (good_form R) G) (first_met after)
  unfolding item_refusal precedence
  item-order =
      winner-first 0 (FORM unless good_form R ∷ ORIGIN unless is_origin G ∷ after) refl
      ∙ first-append (FORM unless good_form R ∷ ORIGIN unless is_origin G ∷ []) after
      ∙ ap (λ n. or_else n (first_met after)) (sym (early-first (good_form R) G))

  pub item-early : (early (good_form R) G ≡ 0 → ⊥) → early (good_form R) G ≡ item_refusal R G i
  item-early h = sym (item-order ∙ else-first (early (good_form R) G) (first_met after) h)

  pub item-own : early (good_form R) G ≡ 0
      → item_refusal R G i ≡ cond (is_scalar (array_of R)) (number RANK) (cond (not (within (i -ℤ G) (axis (array_of R) 0))) (number INDEX) 0)
  item-own h = item-order ∙ ap (λ n. or_else n (first_met after)) h

  pub accepted : item_refusal R G i ≡ 0 → Accepted R G i
  accepted z =
      let h : early (good_form R) G ≡ 0 = none (early (good_form R) G) (first_met after) (sym item-order ∙ z) in
      by (is_scalar (array_of R)) refl (within (i -ℤ G) (axis (array_of R) 0)) refl (early-fine G (good_form R) h) (sym (item-own h) ∙ z)
    where
      none : (a b : ℕ) → or_else a b ≡ 0 → a ≡ 0
      none zero b e = refl
      none (suc a) b e = e

      by : (a : Bool) → is_scalar (array_of R) ≡ a → (b : Bool) → within (i -ℤ G) (axis (array_of R) 0) ≡ b → Fine (good_form R) G
          → ◌≡◌ {A = ℕ} (cond a (number RANK) (cond (not b) (number INDEX) 0)) 0 → Accepted R G i
      by true p b q f e = absurd (omega arith)
      by false p false q f e = absurd (omega arith)
      by false p true q f e = record { forms = f.forms; axes = p; inside = q }

  settle-refused : (n : ℕ) → (n ≡ 0 → ⊥) → settle_item n (item_lengths R) (from_zero G i) R.buffer ≡ record { number = n; shape = scalar; part = [] }
  unfolding settle_item
  settle-refused zero h = absurd (h refl)
  settle-refused (suc n) h = refl

  pub item_refused : (item_refusal R G i ≡ 0 → ⊥) → leading_item R G i ≡ record { number = item_refusal R G i; shape = scalar; part = [] }
  unfolding leading_item
  item_refused h = settle-refused (item_refusal R G i) h

  pub item-given : item_refusal R G i ≡ 0
      → leading_item R G i
      ≡ record { number = 0; shape = shape_of (item_lengths R); part = take (count (item_lengths R)) (drop (from_zero G i * count (item_lengths R)) R.buffer) }
  unfolding leading_item settle_item
  item-given z = ap (λ n. settle_item n (item_lengths R) (from_zero G i) R.buffer) z

-- What is left of an operand of good form that has an axis.
pub item-rest : (G i : ℤ) {s : Shape} {b : List ℤ} → Lent s b → early (good_form (lent s b)) G ≡ 0 → (s.rank ≡ 0 → ⊥)
    → item_refusal (lent s b) G i ≡ cond (not (within (i -ℤ G) (get_or s.lens 0 0))) (number INDEX) 0
item-rest G i {s} {b} g f n =
    item-own (lent s b) G i f ∙ rw (ne_eqb (rank (array_of (lent s b))) 0 (λ z. n (sym g.rank_is ∙ z)), axis-is s b 0 (omega arith)) refl
