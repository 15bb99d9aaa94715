-- What was handed over, beside the text that waits. What a writer holds is known or not.
use Rattle.std.specs.Prelude.{ℕ, ◌-◌, ◌≡◌, List, ◌++◌, Option}
use Rattle.std.specs.Io.KnownBytes.{Appends}
use Rattle.sheet.specs.Steps.{newlines}

-- Bytes more are to be written; the writer took those that waited, but for what waits now.
pub record Sent (old new : Option (List ℕ)) (before bytes after : List ℕ) : Type 0 where
  pub written : List ℕ
  pub taken : Appends old new written
  pub rest : written ++ after ≡ before ++ bytes

-- A write failed: of the text, which ends with the answer to the line before `line`, the writer took a front part. Each answer ends in a newline and
-- has no other; the last one that the writer has whole is that to line `last`.
pub record Short (old new : Option (List ℕ)) (text : List ℕ) (line last : ℕ) : Type 0 where
  pub front : List ℕ
  pub unsent : List ℕ
  pub taken : Appends old new front
  pub rest : front ++ unsent ≡ text
  pub whole : last ≡ line - 1 - newlines unsent
