-- A line without elements fits a text as long as the longest line.
use Prim.Native.Nat.{ℕ, ◌≤◌, ◌<◌, ◌^◌}
use native.Mathlib.Omega.{arith}
use lib.ListN.{length}
use Rattle.sheet_line.specs.Text.{digits}
use Rattle.sheet_line.specs.Call.{max_line}
use Rattle.sheet_answer.specs.Answer.{no_line, bad_line}
use Rattle.sheet_answer.proofs.Writing.{width-most}
use Rattle.sheet_answer.proofs.Answers.{bad-length, no_length}

module _ (line : ℕ) (h : line < 2 ^ 64) where
  head-most : length (digits line) ≤ 20
  head-most = width-most 19 line (omega arith)

  pub bad-fits : length (bad_line line) ≤ max_line
  bad-fits = omega (arith, head-most, bad-length line)

  pub no-fits : (n : ℕ) → n < 2 ^ 64 → length (no_line line n) ≤ max_line
  no-fits n k = omega (arith, head-most, width-most 19 n (omega arith), no_length line n)
