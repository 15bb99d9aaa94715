-- Paper 01, "The sheet program": the bytes of a sheet, cut into lines.
use Rattle.std.specs.Prelude.{ℕ, ◌+◌, ◌%◌, List, [], ◌∷◌, ◌++◌, cond, eqb}
use Rattle.sheet_line.specs.Text.{newline}
use Rattle.sheet_answer.specs.Sheet.{sheet_answer}

-- The number of the next line; no sheet has so many lines that it starts again.
abbrev pub next : ℕ → ℕ
next line = line % 1000000000000000000 + 1

-- What is printed for the lines that end among some bytes, and the line that has begun after them: its number and its bytes so far.
pub record Lines : Type 0 where
  pub printed : List ℕ
  pub line : ℕ
  pub begun : List ℕ

abbrev pub after : List ℕ → Lines → Lines
after printed s = record { printed = printed ++ s.printed; line = s.line; begun = s.begun }

-- A newline ends a line, and a line without one has begun.
unfoldable pub lines_from : ℕ → List ℕ → List ℕ → Lines
lines_from line begun [] = record { printed = []; line = line; begun = begun }
lines_from line begun (b ∷ bs) =
    cond (eqb b newline) (after (sheet_answer line begun) (lines_from (next line) [] bs)) (lines_from line (begun ++ b ∷ []) bs)
