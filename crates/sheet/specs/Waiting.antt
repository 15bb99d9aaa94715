-- What is known after bytes of a sheet were taken.
use Rattle.std.specs.Prelude.{ℕ, ◌<◌, ◌≡◌, List, length, Option, Some, None}
use Rattle.sheet_line.specs.Call.{max_line}
use Rattle.sheet.specs.declared.Sheet.{Sheet}
use Rattle.sheet.specs.Lines.{Lines}

-- The bytes of a line so far: all are held, or they are too many for a line.
abbrev pub Holds : Option (List ℕ) → List ℕ → Type 0
Holds (Some held) bytes = held ≡ bytes
Holds None bytes = max_line < length bytes

-- Bytes of a sheet were taken: lines were answered, and the last one has begun. `Sent` says of their answers where they are.
pub record Took (sheet : Sheet) (lines : Lines) : Type 0 where
  pub line : sheet.answers.line ≡ lines.line
  pub begun : Holds sheet.begun lines.begun
