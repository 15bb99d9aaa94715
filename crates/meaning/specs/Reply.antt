-- Paper 01: a call by number and its reply. FORM, ORIGIN, LIMIT, SPACE and the reply to a refusal are the same for all primitives.
use Rattle.std.specs.Prelude.{ℕ, zero, suc, List, [], ◌∷◌, ◌++◌, Bool, true, cond, ◌||◌, length, drop, leb, ℤ, pos}
use Rattle.shape.specs.declared.Shape.{Shape}
use Rattle.shape.specs.Shape.{count, shape_rule, shape_of, scalar}
use Rattle.meaning.specs.Array.{Operand, Array, array_of, good_form, build}
use Rattle.meaning.specs.Refusal.{Rule, ◌when◌, ◌unless◌, precedence, winner}
use Rattle.meaning.specs.Refusal.Refusal.{NUMBER, FORM, ORIGIN, LIMIT, SPACE}
use Rattle.meaning.specs.Terms.{int_same}
use Rattle.meaning.specs.Primitives.{Meaning, lengths_of, ravel, interval, reverse, transpose, reshape, catenate, takes, drops, rotate}
use Rattle.meaning.specs.Primitives.{transpose_by, compress, expand, index_of, member, select}

-- A primitive: its number, how many operands it takes, and what it gives for G, K, L and R.
pub record Primitive : Type 0 where
  pub number : ℕ
  pub operands : ℕ
  pub meaning : ℤ → ℤ → Array → Array → Meaning

-- Numbers 11 to 15 take one operand, 21 to 31 take two. K is looked at only in 14, 22, 25, 27, 28 and 31.
unfoldable pub primitives : List Primitive
primitives =
    record { number = 11; operands = 1; meaning = λ G K L R. lengths_of R }
    ∷ record { number = 12; operands = 1; meaning = λ G K L R. ravel R }
    ∷ record { number = 13; operands = 1; meaning = λ G K L R. interval G R }
    ∷ record { number = 14; operands = 1; meaning = λ G K L R. reverse G K R }
    ∷ record { number = 15; operands = 1; meaning = λ G K L R. transpose R }
    ∷ record { number = 21; operands = 2; meaning = λ G K L R. reshape L R }
    ∷ record { number = 22; operands = 2; meaning = λ G K L R. catenate G K L R }
    ∷ record { number = 23; operands = 2; meaning = λ G K L R. takes L R }
    ∷ record { number = 24; operands = 2; meaning = λ G K L R. drops L R }
    ∷ record { number = 25; operands = 2; meaning = λ G K L R. rotate G K L R }
    ∷ record { number = 26; operands = 2; meaning = λ G K L R. transpose_by G L R }
    ∷ record { number = 27; operands = 2; meaning = λ G K L R. compress G K L R }
    ∷ record { number = 28; operands = 2; meaning = λ G K L R. expand G K L R }
    ∷ record { number = 29; operands = 2; meaning = λ G K L R. index_of G L R }
    ∷ record { number = 30; operands = 2; meaning = λ G K L R. member L R }
    ∷ record { number = 31; operands = 2; meaning = λ G K L R. select G K L R }
    ∷ []

-- Every other number is refused.
abbrev pub unknown : Primitive
unknown = record {
  number = 0;
  operands = 0;
  meaning = λ G K L R. record { refusals = NUMBER when true ∷ []; lengths = []; element = λ p. pos 0 };
}

-- The primitive of a number.
unfoldable pub named : ℤ → List Primitive → Primitive
named n [] = unknown
named n (p ∷ ps) = cond (int_same n (pos p.number)) p (named n ps)

-- G is 0 or 1.
unfoldable pub is_origin : ℤ → Bool
is_origin G = int_same G (pos 0) || int_same G (pos 1)

-- A result that would break the shape rule is LIMIT, one whose count exceeds the output buffer is SPACE.
abbrev pub result_rules : List ℕ → ℕ → List Rule
result_rules ns room = LIMIT unless shape_rule (length ns) ns ∷ SPACE unless leb (count ns) room ∷ []

-- Every refusal that a call can meet. With one operand L is not looked at.
unfoldable pub refusals : Primitive → ℤ → Operand → Operand → Meaning → ℕ → List Rule
refusals p G L R m room =
    FORM unless (leb p.operands 1 || good_form L)
    ∷ FORM unless good_form R
    ∷ ORIGIN unless is_origin G
    ∷ (m.refusals ++ result_rules m.lengths room)

-- A reply: its number, its shape, and what the output buffer then holds.
pub record Reply : Type 0 where
  pub number : ℕ
  pub shape : Shape
  pub out : List ℤ

-- A success has number 0 and the result's shape; the elements fill the front of the output buffer, and those after its count keep their values.
-- A refusal has its number, the scalar shape, and an untouched output buffer.
unfoldable pub settle : ℕ → Meaning → List ℤ → Reply
settle zero m out = record {
  number = 0;
  shape = shape_of m.lengths;
  out = (build m.lengths m.element).elements ++ drop (count m.lengths) out;
}
settle (suc n) m out = record { number = suc n; shape = scalar; out = out }

-- What the primitive of number n gives for a call's operands.
abbrev pub meaning_of : ℤ → ℤ → ℤ → Operand → Operand → Meaning
meaning_of n G K L R = (named n primitives).meaning G K (array_of L) (array_of R)

-- The reply to a call: primitive number, origin G, axis number K, operands L and R, output buffer.
unfoldable pub reply : ℤ → ℤ → ℤ → Operand → Operand → List ℤ → Reply
reply n G K L R out =
    let p : Primitive = named n primitives in
    let m : Meaning = meaning_of n G K L R in
    settle (winner (precedence p.number) (refusals p G L R m (length out))) m out
