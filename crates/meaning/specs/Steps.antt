-- What the contracts of private functions cite: the operands of 22 beside each other.
use Rattle.std.specs.Prelude.{ℕ, suc, ◌<◌, ◌≡◌, List, Bool, cond, ◌||◌, get_or, eqb, ℤ, pos}

-- How the rank r of an operand stands to the higher rank n.
pub data Beside (r n : ℕ) : Type 0 where
  scalar : r ≡ 0 → Beside r n
  less : 0 < r → suc r ≡ n → Beside r n
  equal : 0 < r → r ≡ n → Beside r n

-- Ranks that fit, as a test of numbers.
abbrev pub fit : ℕ → ℕ → Bool
fit a b = eqb a 0 || eqb b 0 || eqb a b || eqb (suc a) b || eqb (suc b) a

-- Element i of an operand's elements, row by row; a scalar's is always its one.
abbrev pub side_at : Bool → List ℤ → ℕ → ℤ
side_at one xs i = get_or xs (cond one 0 i) (pos 0)
