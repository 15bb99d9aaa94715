-- Paper 01, "The sheet program": the numbers of a line, read from left to right.
use Rattle.std.specs.Prelude.{ℕ, ◌+◌, ◌-◌, ◌*◌, ◌^◌, Bool, true, false, cond, ◌&&◌, List, [], ◌∷◌, ℤ, pos, negsuc, neg_ℤ, ◌==◌, nat_le, nat_lt}
use Rattle.std.proofs.Math.Option.{Option, none, some}
use Rattle.sheet_line.specs.Text as Text

-- What is found goes on to f; nothing stays nothing.
abbrev pub and_then : {A B : Type 0} → Option A → (A → Option B) → Option B
and_then none f = none
and_then (some a) f = f a

-- A number in 32 signed bits; negsuc m is -1 - m.
unfoldable pub fits : ℤ → Bool
fits (pos n) = nat_lt n (2 ^ 31)
fits (negsuc m) = nat_lt m (2 ^ 31)

-- What was read of a number: nothing, its `-`, or its sign (true: negative) and the magnitude that its digits say.
pub data Begun : Type 0 where
  nothing : Begun
  minus : Begun
  magnitude : Bool → ℕ → Begun

-- What a byte says as a digit.
unfoldable pub digit_of : ℕ → Option ℕ
digit_of b = cond (nat_le 48 b && nat_le b 57) (some (b - 48)) none

-- The first digit. No minus zero.
unfoldable pub first : Bool → ℕ → Option Begun
first negative b = and_then (digit_of b) (λ d. cond (negative && d == 0) none (some (magnitude negative d)))

-- One byte more of a number. Nothing follows a 0: no leading zeros.
unfoldable pub more : Begun → ℕ → Option Begun
more nothing b = cond (b == Text.minus) (some minus) (first false b)
more minus b = first true b
more (magnitude negative n) b = and_then (digit_of b) (λ d. cond (n == 0) none (some (magnitude negative (n * 10 + d))))

-- The number that a sign and a magnitude make.
unfoldable pub signed : Bool → ℕ → ℤ
signed true n = neg_ℤ (pos n)
signed false n = pos n

-- The number that was read, where it is whole and fits.
unfoldable pub ended : Begun → Option ℤ
ended nothing = none
ended minus = none
ended (magnitude negative n) = cond (fits (signed negative n)) (some (signed negative n)) none

-- The numbers of a text whose first one has begun: one blank between, no other byte.
unfoldable pub scan : Begun → List ℕ → Option (List ℤ)
scan s [] = and_then (ended s) (λ z. some (z ∷ []))
scan s (b ∷ bs) =
    let next : Option (List ℤ) = scan nothing bs in
    let here : Option (List ℤ) = and_then (more s b) (λ t. scan t bs) in
    cond (b == Text.blank) (and_then (ended s) (λ z. and_then next (λ zs. some (z ∷ zs)))) here

-- The numbers of a line, if it is a line of numbers.
unfoldable pub numbers : List ℕ → Option (List ℤ)
numbers line = scan nothing line
