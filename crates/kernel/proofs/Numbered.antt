-- Calls by number: from a primitive's own contract to the entry point's, and numbers that name none.
use mathlib.Core.Path.{◌≡◌, refl, sym, ap, ◌∙◌}
use mathlib.Core.List.{List, [], ◌∷◌}
use mathlib.Core.Bool.{Bool, true, false, ◌&&◌, ◌||◌}
use Prim.Native.Nat.{ℕ, ◌≤◌, ◌<◌}
use native.Mathlib.Omega.{arith}
use lib.Dec.{leb, ltb}
use lib.IntN.{ℤ, pos}
use lib.ListN.{length}
use mir.Syntax.{w32}
use mir.Val.{of_z}
use Rattle.std.proofs.lemmas.Bool.Decides.{nat_tests}
use Rattle.shape.proofs.Bools.{no_way, both, refuted}
use Rattle.signed.proofs.Equal.{int_same-true}
use Rattle.meaning.specs.Array.{Operand, array_of}
use Rattle.meaning.specs.Refusal.{number, precedence, meets, winner}
use Rattle.meaning.specs.Refusal.Refusal.{NUMBER}
use Rattle.meaning.specs.Terms.{int_same, every}
use Rattle.meaning.specs.Reply.{Primitive, primitives, named, unknown, refusals, settle, reply}
use Rattle.answer.specs.declared.Answer.{Answer}
use Rattle.answer.specs.Answer.{refused, answer_of, Replied}

-- The numbers that name a primitive; those of the table do.
abbrev is_number : ℕ → Bool
is_number n = (leb 11 n && ltb n 16) || (leb 21 n && ltb n 32)

table-numbers : every (λ p. is_number p.number) primitives ≡ true
unfolding primitives every
table-numbers = refl

other-number : (n : ℕ) → (11 ≤ n → n < 16 → ⊥) → (21 ≤ n → n < 32 → ⊥) → is_number n ≡ false
other-number n low high = grind (arith, nat_tests)

-- A number whose bits name none.
module _ (z : ℤ) (low : 11 ≤ of_z w32 z → of_z w32 z < 16 → ⊥) (high : 21 ≤ of_z w32 z → of_z w32 z < 32 → ⊥) where
  unnamed : (ps : List Primitive) → every (λ p. is_number p.number) ps ≡ true → named z ps ≡ unknown
  unfolding named every
  unnamed [] t = refl
  unnamed (p ∷ ps) t =
      let b = both (is_number p.number) (every (λ p. is_number p.number) ps) t in
      let other = λ (e : int_same z (pos p.number) ≡ true). no_way (sym (other-number (of_z w32 z) low high)
      ∙ ap (λ x. is_number (of_z w32 x)) (int_same-true z (pos p.number) e) ∙ b.0) in
      rw (refuted (int_same z (pos p.number)) other) (unnamed ps b.1)

  -- So it is refused with NUMBER, whatever else there is.
  pub unnamed-replied : (G K : ℤ) (L R : Operand) (out : List ℤ) {a : Answer} → a ≡ refused (number NUMBER) → Replied a out (reply z G K L R out)
  unfolding reply refusals settle precedence winner meets
  unnamed-replied G K L R out e =
      let y = ap (λ (p : Primitive).
      let m = p.meaning G K (array_of L) (array_of R) in
      settle (winner (precedence p.number) (refusals p G L R m (length out))) m out) (unnamed primitives table-numbers) in
      record { answer = e ∙ sym (ap answer_of y); buffer = sym (ap (λ y. y.out) y) }
