-- What the private functions' contracts cite: bytes written into a text.
use Rattle.std.specs.Prelude.{ℕ, ◌+◌, ◌≤◌, ◌≡◌, List, ◌++◌, length, take, drop}
use Rattle.sheet_answer.specs.declared.print.Writer.{Writer}

-- Some bytes were written to a text, from `start` up to `end`.
pub record Written (before after : List ℕ) (start end : ℕ) (bytes : List ℕ) : Type 0 where
  pub place : start + length bytes ≡ end
  pub inside : end ≤ length before
  pub kept : length after ≡ length before
  pub text : after ≡ take start before ++ (bytes ++ drop end before)

-- Some bytes were put before those that a writer had written.
pub record Puts (before after : Writer) (bytes : List ℕ) : Type 0 where
  pub same : after.text.ghost_name ≡ before.text.ghost_name
  pub written : Written before.text.now after.text.now after.at before.at bytes
