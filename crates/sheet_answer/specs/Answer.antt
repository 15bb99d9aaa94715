-- Paper 01, "The sheet program": the output for a line.
use Rattle.std.specs.Prelude.{◌≡◌, ℕ, zero, suc, ◌≤◌, ◌<◌, List, [], ◌∷◌, ◌++◌, map, cond, leb, length, ℤ, Option, MatchOption}
use Rattle.shape.specs.declared.Shape.{Shape}
use Rattle.meaning.specs.Array.{Operand, Array, array_of, good_form}
use Rattle.sheet_line.specs.Text.{newline, digits, decimal, spaced}
use Rattle.sheet_line.specs.Call.{front}

-- `ok`, `no`, `bad`.
abbrev pub ok-word : List ℕ
ok-word = 111 ∷ 107 ∷ []

abbrev pub no_word : List ℕ
no_word = 110 ∷ 111 ∷ []

abbrev pub bad-word : List ℕ
bad-word = 98 ∷ 97 ∷ 100 ∷ []

-- The line number and other parts stand one blank apart, and a newline ends it.
unfoldable pub answer_line : ℕ → List (List ℕ) → List ℕ
answer_line line parts = spaced (digits line ∷ parts) ++ newline ∷ []

-- `ok`, rank, lengths, elements.
unfoldable pub ok_line : ℕ → Array → List ℕ
ok_line line a = answer_line line (ok-word ∷ digits (length a.lengths) ∷ map digits a.lengths ++ map decimal a.elements)

-- `no` and the refusal.
unfoldable pub no_line : ℕ → ℕ → List ℕ
no_line line refusal = answer_line line (no_word ∷ digits refusal ∷ [])

-- `bad`.
unfoldable pub bad_line : ℕ → List ℕ
bad_line line = answer_line line (bad-word ∷ [])

-- The result of a success: its shape, and the buffer that holds its elements.
abbrev pub result_in : Shape → List ℤ → Operand
result_in s out = record { shape = s; buffer = out }

-- The line for a reply, by its number: 0 is a success, whose result prints nothing where it is not of good form; every other is a refusal's.
unfoldable pub reply_line : ℕ → ℕ → Operand → List ℕ
reply_line line zero o = cond (good_form o) (ok_line line (array_of o)) []
reply_line line (suc n) o = no_line line (suc n)

-- What is written to a text: all of a line if it fits, else nothing.
unfoldable pub fitted : List ℕ → List ℕ → List ℕ
fitted bytes text = cond (leb (length bytes) (length text)) bytes []

-- The text then; its other bytes stay.
abbrev pub printed_to : List ℕ → List ℕ → List ℕ
printed_to bytes text = front (fitted bytes text) text

-- What printing returns: how many bytes it has written, or None where the line is longer than the text.
abbrev pub CountIfFits : Option ℕ → List ℕ → List ℕ → Type 0
CountIfFits result bytes text = MatchOption result (length text < length bytes) (λ n. (n ≡ length bytes) × (n ≤ length text))
