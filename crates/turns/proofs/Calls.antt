-- 14 and 25: what they ask, and what they give.
use mathlib.Core.Path.{◌≡◌, refl, sym, ap, ap₂, ◌∙◌}
use mathlib.Core.List.{List, ◌++◌}
use mathlib.Core.Bool.{Bool, true, false, not, cond}
use native.Mathlib.Omega.{arith}
use borrow.Author.Tests.{eqb-true}
use Prim.Native.Nat.{ℕ, ◌-◌, ◌<◌, max}
use lib.ListN.{length, drop, get_or}
use lib.Dec.{eqb}
use lib.IntN.{ℤ, pos, ◌+ℤ◌, ◌-ℤ◌}
use mir.Syntax.{w32}
use mir.Val.{SFits, to_z, of_z}
use Rattle.std.specs.Prelude.{Result}
use Rattle.shape.specs.declared.Shape.{Shape}
use Rattle.shape.specs.Shape.{count}
use Rattle.shape.proofs.Made.{Stands}
use Rattle.meaning.specs.Array.{Operand, Array, array_of, build}
use Rattle.meaning.specs.Refusal.{number, precedence}
use Rattle.meaning.specs.Refusal.Refusal.{RANK, AXIS, LENGTH}
use Rattle.meaning.specs.Terms.{rank, axis, is_list, as_vector, int_same, within, from_zero, along, modulo}
use Rattle.meaning.specs.Primitives.{reverse, rotate}
use Rattle.meaning.specs.Reply.{primitives, named}
use Rattle.meaning.proofs.Positions.{within-lt}
use Rattle.meaning.proofs.Scalars.{vector-rank}
use Rattle.answer.specs.Answer.{lent, own}
use Rattle.answer.specs.Refused.{asked}
use Rattle.answer.specs.declared.refusal.Refusal as code
use Rattle.signed.proofs.Finding.{IsAt}
use Rattle.signed.proofs.Reading.{read32}
use Rattle.answer.proofs.Lent.{Lent, lent-stands, FineOne}
use Rattle.answer.proofs.Order.{Names, own_first, Ready, early_of}
use Rattle.turns.specs.declared.Turn.TheVariants.{Back, By}
use Rattle.turns.specs.Steps.{turn_position}

module _ (G K : ℤ) (L R : Operand) where
  pub reverse-names : Names 14 1 G K L R (reverse G K (array_of R))
  unfolding primitives named int_same reverse precedence
  reverse-names = record { number = refl; arity = refl; meaning = refl; own = refl }

  pub rotate-names : Names 25 2 G K L R (rotate G K (array_of L) (array_of R))
  unfolding primitives named int_same rotate precedence
  rotate-names = record { number = refl; arity = refl; meaning = refl; own = refl }

  -- What they ask, in turn; the axes as the code counts them.
  module _ (axes : ℕ) (e : rank (as_vector (array_of R)) ≡ axes) where
    pub reverse-own : own 14 (reverse G K (array_of R)).refusals ≡ cond (not (within (K -ℤ G) axes)) (number AXIS) 0
    unfolding reverse
    reverse-own = own_first 14 _ reverse-names.own ∙ ap (λ n. cond (not (within (K -ℤ G) n)) (number AXIS) 0) e

    pub rotate-own : own 25 (rotate G K (array_of L) (array_of R)).refusals
        ≡ cond (not (is_list (array_of L))) (number RANK)
        (cond (not (within (K -ℤ G) axes)) (number AXIS) (cond (not (eqb (length (array_of L).elements) 1)) (number LENGTH) 0))
    unfolding rotate
    rotate-own =
        own_first 25 _ rotate-names.own
        ∙ ap (λ n. cond (not (is_list (array_of L))) (number RANK)
        (cond (not (within (K -ℤ G) n)) (number AXIS) (cond (not (eqb (length (array_of L).elements) 1)) (number LENGTH) 0))) e

-- What is known where 25 refuses nothing.
pub record Rotates (G K : ℤ) (L R : Array) : Type 0 where
  pub inside : within (K -ℤ G) (rank (as_vector R)) ≡ true
  pub one : length L.elements ≡ 1

pub rotates : (G K : ℤ) (L R : Operand) → own 25 (rotate G K (array_of L) (array_of R)).refusals ≡ 0 → Rotates G K (array_of L) (array_of R)
rotates G K L R h =
    by (is_list (array_of L)) (within (K -ℤ G) (rank (as_vector (array_of R)))) refl (eqb (length (array_of L).elements) 1) refl
    (sym (rotate-own G K L R _ refl) ∙ h)
  where
    by : (a b : Bool) → within (K -ℤ G) (rank (as_vector (array_of R))) ≡ b → (c : Bool) → eqb (length (array_of L).elements) 1 ≡ c
        → ◌≡◌ {A = ℕ} (cond (not a) (number RANK) (cond (not b) (number AXIS) (cond (not c) (number LENGTH) 0))) 0 → Rotates G K (array_of L) (array_of R)
    by false b p c q e = absurd (omega arith)
    by true false p c q e = absurd (omega arith)
    by true true p false q e = absurd (omega arith)
    by true true p true q e = record { inside = p; one = eqb-true _ 1 q }

-- Their results have R's lengths.
module _ (G K : ℤ) {s : Shape} {r : List ℤ} (g : Lent s r) where
  abbrev a : Array
  a = array_of (lent s r)

  pub reverse-stands : Stands s (reverse G K a).lengths
  unfolding reverse
  reverse-stands = lent-stands g

  pub rotate-stands : (l : Array) → Stands s (rotate G K l a).lengths
  unfolding rotate
  rotate-stands l = lent-stands g

-- All that is known where 14 and 25 refused nothing of their own.
module _ {G K : ℤ} {s : Shape} {b : List ℤ} {n k : ℕ} (e : rank (as_vector (array_of (lent s b))) ≡ n) (a : IsAt K G n k) where
  pub reverse-ready : FineOne G s b → (L : Operand) → Ready 14 1 G K L (lent s b) (reverse G K (array_of (lent s b))) s
  reverse-ready f L =
      record {
        names = reverse-names G K L (lent s b);
        fine = f.none;
        none = reverse-own G K L (lent s b) n e ∙ rw (a.inside) refl;
        stands = reverse-stands G K f.operand;
      }

pub rotate-ready : {G K : ℤ} {L : Operand} {s : Shape} {b : List ℤ} → early_of 2 G L (lent s b) ≡ 0
    → own 25 (rotate G K (array_of L) (array_of (lent s b))).refusals ≡ 0 → Lent s b
    → Ready 25 2 G K L (lent s b) (rotate G K (array_of L) (array_of (lent s b))) s
rotate-ready {G} {K} {L} {s} {b} f o g =
    record { names = rotate-names G K L (lent s b); fine = f; none = o; stands = rotate-stands G K g (array_of L) }

-- What `rotation` asks for, of numbers that the call has read from locals.
pub rotation-read : {G K : ℤ} (f : SFits w32 G) (h : SFits w32 K) {A : Type 0} (x : Result A code.Refusal) {L R l r : Operand}
    → asked x ≡ own 25 (rotate (to_z w32 (of_z w32 G)) (to_z w32 (of_z w32 K)) (array_of l) (array_of r)).refusals
    → l ≡ L → r ≡ R → asked x ≡ own 25 (rotate G K (array_of L) (array_of R)).refusals
rotation-read {G} {K} f h x {l = l} {r = r} e p q =
    e ∙ ap₂ (λ g k. own 25 (rotate g k (array_of l) (array_of r)).refusals) (read32 G f) (read32 K h)
    ∙ ap₂ (λ l r. own 25 (rotate G K (array_of l) (array_of r)).refusals) p q

-- The axis that 25 turns.
pub rotate-axis : (G K : ℤ) (L : Operand) {s : Shape} {b : List ℤ} {k : ℕ} → own 25 (rotate G K (array_of L) (array_of (lent s b))).refusals ≡ 0
    → Lent s b → k ≡ from_zero G K → k < max 1 s.rank
rotate-axis G K L {s} {b} {k} o g e =
    let a = rotates G K L (lent s b) o in
    omega (arith, e, within-lt (K -ℤ G) _ a.inside, vector-rank (array_of (lent s b)), g.rank_is)

-- The output buffer, with the axis and the amount as the program names them.
module _ (G K : ℤ) (a : Array) (k : ℕ) (e : k ≡ from_zero G K) (out : List ℤ) where
  pub reverse-out : (build a.lengths (along a k (turn_position Back (axis a k)))).elements ++ drop (count a.lengths) out
      ≡ (build (reverse G K a).lengths (reverse G K a).element).elements ++ drop (count (reverse G K a).lengths) out
  unfolding reverse turn_position
  reverse-out = ap (λ x. (build a.lengths (along a x (λ i. axis a x - 1 - i))).elements ++ drop (count a.lengths) out) e

  pub rotate-out : (l : Array) (z : ℤ) → z ≡ get_or l.elements 0 (pos 0)
      → (build a.lengths (along a k (turn_position (By z) (axis a k)))).elements ++ drop (count a.lengths) out
      ≡ (build (rotate G K l a).lengths (rotate G K l a).element).elements ++ drop (count (rotate G K l a).lengths) out
  unfolding rotate turn_position
  rotate-out l z f = ap₂ (λ x y. (build a.lengths (along a x (λ i. modulo (pos i +ℤ y) (axis a x)))).elements ++ drop (count a.lengths) out) e f
