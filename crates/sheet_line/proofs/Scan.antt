-- The reading of printed numbers.
use Rattle.std.proofs.Common.{◌≡◌, ℕ, zero, suc, ◌+◌, ◌-◌, ◌*◌, ◌/◌, ◌%◌, ◌<◌, ◌≤◌, Bool, true, false, List, ◌∷◌, ◌++◌, ℤ, pos, negsuc, refl, ◌∙◌, arith}
use Rattle.std.proofs.Common.{ne_eqb, le-leb}
use native.Mathlib.Decide.{dec_lt}
use mathlib.Core.Option.{some}
use lib.Seq.{append_snoc}
use Rattle.sheet_line.specs.Text as Text
use Rattle.sheet_line.specs.Text.{digit, digits, decimal}
use Rattle.sheet_line.specs.Numbers.{and_then, fits, Begun, nothing, minus, magnitude, digit_of, first, more, signed, ended, scan}
use Rattle.sheet_line.proofs.Digits.{digits-one, digits_more}

pub digit-of : (d : ℕ) → d < 10 → digit_of (digit d) ≡ some d
unfolding digit_of
digit-of d h =
    let e : 48 + d - 48 ≡ d = omega arith in
    rw (le-leb 48 (48 + d) (omega arith), le-leb (48 + d) 57 (omega arith), e)

-- A byte that is no blank goes on with the number that has begun.
pub scan-on : (s : Begun) (b : ℕ) (bs : List ℕ) → (b ≡ 32 → ⊥) → scan s (b ∷ bs) ≡ and_then (more s b) (λ t. scan t bs)
unfolding scan
scan-on s b bs h = rw (ne_eqb b 32 h)

pub scan-blank : (s : Begun) (bs : List ℕ) → scan s (Text.blank ∷ bs) ≡ and_then (ended s) (λ z. and_then (scan nothing bs) (λ zs. some (z ∷ zs)))
unfolding scan
scan-blank s bs = refl

-- What was read before the first digit.
abbrev pub sign : Bool → Begun
sign true = minus
sign false = nothing

pub first-is : (negative : Bool) (b d : ℕ) → digit_of b ≡ some d → (negative ≡ true → 0 < d) → first negative b ≡ some (magnitude negative d)
unfolding first
first-is true b d e k = rw (e, ne_eqb d 0 (let p = k refl in λ q. omega arith))
first-is false b d e k = rw e

pub more-sign : (negative : Bool) (b : ℕ) → (negative ≡ false → b ≡ Text.minus → ⊥) → more (sign negative) b ≡ first negative b
unfolding more
more-sign true b m = refl
more-sign false b m = rw (ne_eqb b Text.minus (m refl))

scan-first : (negative : Bool) (d : ℕ) (bs : List ℕ) → d < 10 → (negative ≡ true → 0 < d) → scan (sign negative) (digit d ∷ bs) ≡ scan (magnitude negative d) bs
scan-first negative d bs h k =
    scan-on (sign negative) (digit d) bs (λ e. omega arith)
    ∙ rw (more-sign negative (digit d) (λ p e. omega arith), first-is negative (digit d) d (digit-of d h) k)

pub scan-next : (negative : Bool) (n d : ℕ) (bs : List ℕ) → 0 < n → d < 10 → scan (magnitude negative n) (digit d ∷ bs) ≡ scan
    (magnitude negative (n * 10 + d)) bs
unfolding more
scan-next negative n d bs p h = scan-on (magnitude negative n) (digit d) bs (λ e. omega arith) ∙ rw (digit-of d h, ne_eqb n 0 (λ e. omega arith))

module _ (negative : Bool) (n : ℕ) (k : negative ≡ true → 0 < n) where
  digits-case : (bs : List ℕ) → (10 ≤ n → (cs : List ℕ) → scan (sign negative) (digits (n / 10) ++ cs) ≡ scan (magnitude negative (n / 10)) cs)
      → Dec (n < 10) → scan (sign negative) (digits n ++ bs) ≡ scan (magnitude negative n) bs
  digits-case bs shorter (yes q) = rw (digits-one n q) (scan-first negative n bs q k)
  digits-case bs shorter (no q) =
      let e : n / 10 * 10 + n % 10 ≡ n = omega arith in
      rw (digits_more n (omega arith), append_snoc (digits (n / 10)) (digit (n % 10)) bs)
      (shorter (omega arith) (digit (n % 10) ∷ bs) ∙ scan-next negative (n / 10) (n % 10) bs (omega arith) (omega arith) ∙ rw e)

digits-deep : (f : ℕ) (negative : Bool) (n : ℕ) (bs : List ℕ) → n ≤ f → (negative ≡ true → 0 < n)
    → scan (sign negative) (digits n ++ bs) ≡ scan (magnitude negative n) bs
digits-deep zero negative n bs h k = digits-case negative n k bs (λ q cs. absurd (omega arith)) (dec_lt n 10)
digits-deep (suc f) negative n bs h k = digits-case negative n k bs (λ q cs. digits-deep f negative (n / 10) cs (omega arith) (λ t. omega arith)) (dec_lt n 10)

-- The digits of n are read as n.
pub scan-digits : (negative : Bool) (n : ℕ) (bs : List ℕ) → (negative ≡ true → 0 < n) → scan (sign negative) (digits n ++ bs) ≡ scan (magnitude negative n) bs
scan-digits negative n bs k = digits-deep n negative n bs (omega arith) k

-- A number as its sign and magnitude.
abbrev pub begun : ℤ → Begun
begun (pos n) = magnitude false n
begun (negsuc m) = magnitude true (suc m)

pub ended-fits : (z : ℤ) → fits z ≡ true → ended (begun z) ≡ some z
unfolding ended signed
ended-fits (pos n) h = rw h
ended-fits (negsuc m) h = rw h

-- A number's text is read as the number.
pub scan-decimal : (z : ℤ) (bs : List ℕ) → scan nothing (decimal z ++ bs) ≡ scan (begun z) bs
unfolding decimal more
scan-decimal (pos n) bs = scan-digits false n bs (λ e. absurd (let z : ◌≡◌ {A = ℕ} 0 1 = cc in omega arith))
scan-decimal (negsuc m) bs = scan-on nothing Text.minus (digits (suc m) ++ bs) (λ e. omega arith) ∙ scan-digits true (suc m) bs (λ e. omega arith)
