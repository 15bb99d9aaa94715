-- 31: what it asks.
use mathlib.Core.Path.{◌≡◌, refl, sym, ◌∙◌}
use mathlib.Core.List.{List}
use mathlib.Core.Bool.{Bool, true, false, not, cond}
use Prim.Native.Nat.{ℕ}
use native.Mathlib.Omega.{arith}
use borrow.Author.Tests.{ne_eqb}
use lib.ListN.{get_or}
use lib.IntN.{ℤ, ◌-ℤ◌}
use Rattle.shape.specs.declared.Shape.{Shape}
use Rattle.signed.proofs.Finding.{IsAt}
use Rattle.meaning.specs.Array.{Operand, array_of}
use Rattle.meaning.specs.Refusal.{number, precedence}
use Rattle.meaning.specs.Refusal.Refusal.{RANK, AXIS, INDEX}
use Rattle.meaning.specs.Terms.{rank, axis, is_scalar, is_list, int_same, within, from_zero, every}
use Rattle.meaning.specs.Primitives.{select}
use Rattle.meaning.specs.Reply.{primitives, named}
use Rattle.answer.specs.Answer.{lent, own}
use Rattle.answer.proofs.Lent.{Lent, axis-is}
use Rattle.answer.proofs.Order.{Names, own_first}

-- In turn: R has an axis, L is a list, K names an axis, and all of L's elements name positions.
abbrev pub asked : Bool → Bool → Bool → Bool → ℕ
asked scalar list inside all =
    cond scalar (number RANK) (cond (not list) (number RANK) (cond (not inside) (number AXIS) (cond (not all) (number INDEX) 0)))

module _ (G K : ℤ) (L R : Operand) where
  pub select-names : Names 31 2 G K L R (select G K (array_of L) (array_of R))
  unfolding primitives named int_same select precedence
  select-names = record { number = refl; arity = refl; meaning = refl; own = refl }

  pub select-own : own 31 (select G K (array_of L) (array_of R)).refusals
      ≡ asked (is_scalar (array_of R)) (is_list (array_of L)) (within (K -ℤ G) (rank (array_of R)))
      (every (λ z. within (z -ℤ G) (axis (array_of R) (from_zero G K))) (array_of L).elements)
  unfolding select
  select-own = own_first 31 _ select-names.own

-- Where R has an axis.
pub select-on : (G K : ℤ) (L R : Operand) → (rank (array_of R) ≡ 0 → ⊥)
    → own 31 (select G K (array_of L) (array_of R)).refusals
    ≡ asked false (is_list (array_of L)) (within (K -ℤ G) (rank (array_of R)))
    (every (λ z. within (z -ℤ G) (axis (array_of R) (from_zero G K))) (array_of L).elements)
select-on G K L R h = select-own G K L R ∙ rw (ne_eqb (rank (array_of R)) 0 h) refl

-- Where L is a list and K names axis k of R, INDEX is left.
pub select-rest : (G K : ℤ) (L : Operand) {s : Shape} {b : List ℤ} {n k : ℕ} → Lent s b → is_list (array_of L) ≡ true
    → n ≡ rank (array_of (lent s b)) → IsAt K G n k
    → own 31 (select G K (array_of L) (array_of (lent s b))).refusals
    ≡ cond (not (every (λ z. within (z -ℤ G) (get_or s.lens k 0)) (array_of L).elements)) (number INDEX) 0
select-rest G K L {s} {b} {n} {k} g h e a =
    select-on G K L (lent s b) (λ z. omega (arith, a.below, e))
    ∙ rw (h, sym e, a.inside, ← a.is, axis-is s b k (omega (arith, a.below, e, g.rank_is))) refl
