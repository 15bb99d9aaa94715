-- The program's run: what it wrote, from the bytes that it read.
use Rattle.std.specs.Prelude.{ℕ, ◌-◌, ◌^◌, ◌≤◌, ◌≡◌, ◌⊎◌, List, [], ◌∷◌, ◌++◌, length, Option, Result, Ok, Err}
use Rattle.std.specs.Io.KnownBytes.{Appends, IsAtEnd}
use Rattle.sheet_line.specs.Text.{newline}
use Rattle.sheet_answer.specs.Sheet.{sheet_answer}
use Rattle.sheet.specs.declared.Failure.{Failure}
use Rattle.sheet.specs.declared.Failure.TheVariants.{Unread, Unwritten}
use Rattle.sheet.specs.Lines.{Lines, lines_from}
use Rattle.sheet.specs.Sent.{Short}

-- The answer to the last line, if one has begun and lacks its newline.
abbrev pub last_answer : ℕ → List ℕ → List ℕ
last_answer line [] = []
last_answer line (b ∷ bs) = sheet_answer line (b ∷ bs)

-- All that is printed for a sheet.
abbrev pub sheet_text : List ℕ → List ℕ
sheet_text bytes = let s : Lines = lines_from 1 [] bytes in s.printed ++ last_answer s.line s.begun

-- A write failed somewhere in the bytes, after some lines were answered.
pub record ShortIn (old new : Option (List ℕ)) (line : ℕ) (begun before bytes : List ℕ) (last : ℕ) : Type 0 where
  pub taken : List ℕ
  pub later : List ℕ
  pub split : taken ++ later ≡ bytes
  pub short : Short old new (before ++ (lines_from line begun taken).printed) (lines_from line begun taken).line last

-- How a run ends that read some bytes, after which the reader has what is left: each line is answered and each answer written, and nothing is left
-- to be read (a reader that never ends is given up after 2 ^ 64 - 1 reads); or a read failed, and the whole lines before it were answered; or a write
-- failed, among the bytes or at the end of a last line that lacks its newline.
abbrev pub Ends : {A : Type 0} → Result A Failure → List ℕ → Option (List ℕ) → Option (List ℕ) → Option (List ℕ) → Type 0
Ends (Ok _) bytes left old new = Appends old new (sheet_text bytes) × (IsAtEnd left ⊎ (2 ^ 64 - 1 ≤ length bytes))
Ends (Err (Unread last)) bytes left old new =
    Appends old new (lines_from 1 [] bytes).printed × (last ≡ (lines_from 1 [] bytes).line - 1)
Ends (Err (Unwritten stopped)) bytes left old new = ShortIn old new 1 [] [] (bytes ++ newline ∷ []) stopped.whole
