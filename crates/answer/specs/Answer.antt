-- What the program hands over at a call, and what it answers.
use Rattle.std.specs.Prelude.{ℕ, ◌≡◌, List, [], ◌∷◌, length, Bool, true, leb, ℤ}
use Rattle.shape.specs.declared.Shape.{Shape}
use Rattle.shape.specs.Shape.{max_rank, max_count, scalar}
use Rattle.meaning.specs.Array.{Operand, good_form}
use Rattle.meaning.specs.Refusal.{Rule, ◌unless◌, precedence, winner}
use Rattle.meaning.specs.Refusal.Refusal.{FORM, ORIGIN, LIMIT, SPACE}
use Rattle.meaning.specs.Reply.{Reply, is_origin}
use Rattle.answer.specs.declared.Answer.{Answer}

-- An operand is a shape by value and a lent slice.
abbrev pub lent : Shape → List ℤ → Operand
lent s b = record { shape = s; buffer = b }

-- What an operand of good form keeps; its shape has a length for each of the largest rank's axes.
pub record WellFormed (s : Shape) (b : List ℤ) : Type 0 where
  pub form : good_form (lent s b) ≡ true
  pub long : length s.lens ≡ max_rank

-- An answer is a reply's number and shape; what the output buffer holds is said beside it.
abbrev pub answer_of : Reply → Answer
answer_of y = record { number = y.number; shape = y.shape }

-- A refusal's answer has the scalar shape, a success's the number 0.
abbrev pub refused : ℕ → Answer
refused n = record { number = n; shape = scalar }

abbrev pub accepted : Shape → Answer
accepted s = record { number = 0; shape = s }

-- A call asks for FORM and ORIGIN, then for the primitive's own refusals, then for LIMIT and SPACE; which wins, `precedence` decides.
-- FORM and ORIGIN precede every primitive's own, and LIMIT and SPACE follow them, so there no primitive is named: 0 is the number of none.
unfoldable pub early : Bool → ℤ → ℕ
early form G = winner (precedence 0) (FORM unless form ∷ ORIGIN unless is_origin G ∷ [])

abbrev pub own : ℕ → List Rule → ℕ
own n rules = winner (precedence n) rules

-- By the count of the result's shape, which is above the largest count for a bad shape.
unfoldable pub late : ℕ → ℕ → ℕ
late count room = winner (precedence 0) (LIMIT unless leb count max_count ∷ SPACE unless leb count room ∷ [])

-- A call's whole outcome: number, shape and output buffer are the reply's.
pub record Replied (a : Answer) (out : List ℤ) (y : Reply) : Type 0 where
  pub answer : a ≡ answer_of y
  pub buffer : out ≡ y.out
