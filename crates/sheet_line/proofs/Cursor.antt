-- The numbers of a line, byte by byte.
use Rattle.std.proofs.Common.{◌≡◌, ℕ, ◌+◌, ◌*◌, ◌^◌, ◌<◌, Bool, true, false, cond, eqb, List, [], ◌∷◌, ℤ, refl, ◌∙◌, Option, Some}
use Rattle.std.proofs.Common.{◌≤◌, ◌-◌, length, sym, ap, Bor, arith, ne_eqb, eqb-true, le-leb}
use mathlib.Core.Option as maybe
use mathlib.Core.Option.{none, some}
use borrow.Author.Tests.{eqb-false, lt-leb}
use Rattle.sheet_line.specs.Text as Text
use Rattle.sheet_line.specs.Numbers.{and_then, Begun, nothing, minus, magnitude, digit_of, first, more, ended, scan, numbers}
use Rattle.sheet_line.specs.Call.{give, next_number}
use Rattle.sheet_line.specs.Steps.{left}
use Rattle.sheet_line.proofs.Magnitudes.{magnitude-over}
use Rattle.sheet_line.proofs.Options.{none-some}
use Rattle.sheet_line.proofs.Scan.{scan-on, scan-blank, sign, more-sign}

-- The first number of a text, and what it leaves.
abbrev pub number_of : maybe.Option (List ℤ) → maybe.Option (ℤ × List ℤ)
number_of l = and_then l next_number

-- A number that ends at the end of the line, or at a blank.
module _ (s : Begun) where
  pub end-ends : number_of (scan s []) ≡ and_then (ended s) (λ z. some (z, []))
  unfolding scan
  end-ends = by-case (ended s)
    where
      by-case : (o : maybe.Option ℤ) → number_of (and_then o (λ z. some (z ∷ []))) ≡ and_then o (λ z. some (z, []))
      by-case none = refl
      by-case (some z) = refl

  pub blank-ends : (rest : List ℕ) → number_of (scan s (Text.blank ∷ rest)) ≡ and_then (ended s) (λ z. and_then (numbers rest) (give z))
  unfolding numbers
  blank-ends rest = ap number_of (scan-blank s rest) ∙ by-case (ended s) (scan nothing rest)
    where
      by-case : (o : maybe.Option ℤ) (l : maybe.Option (List ℤ))
          → number_of (and_then o (λ z. and_then l (λ zs. some (z ∷ zs)))) ≡ and_then o (λ z. and_then l (give z))
      by-case none l = refl
      by-case (some z) none = refl
      by-case (some z) (some zs) = refl

digit-not-blank : (b d : ℕ) → digit_of b ≡ some d → b ≡ Text.blank → ⊥
unfolding digit_of
digit-not-blank b d e q = none-some (rw q at e)

module _ (b : ℕ) (rest : List ℕ) (h : b ≡ Text.blank → ⊥) where
  -- Nothing follows a 0.
  pub zero-stops : (negative : Bool) → scan (magnitude negative 0) (b ∷ rest) ≡ none
  unfolding more
  zero-stops negative = scan-on (magnitude negative 0) b rest h ∙ by-digit (digit_of b)
    where
      by-digit : (o : maybe.Option ℕ) → and_then (and_then o (λ (d : ℕ). none)) (λ t. scan t rest) ≡ none
      by-digit none = refl
      by-digit (some d) = refl

  pub stops : (negative : Bool) (n : ℕ) → digit_of b ≡ none → scan (magnitude negative n) (b ∷ rest) ≡ none
  unfolding more
  stops negative n e = scan-on (magnitude negative n) b rest h ∙ rw e

-- A digit, which is no blank.
pub goes_on : (b : ℕ) (rest : List ℕ) (negative : Bool) (n d : ℕ) → 0 < n → digit_of b ≡ some d
    → scan (magnitude negative n) (b ∷ rest) ≡ scan (magnitude negative (n * 10 + d)) rest
unfolding more
goes_on b rest negative n d p e =
    scan-on (magnitude negative n) b rest (digit-not-blank b d e) ∙ rw (e, ne_eqb n 0 (λ q. omega arith))

-- A magnitude that is too large stays so.
module _ (negative : Bool) (n : ℕ) (f : Begun → maybe.Option (List ℤ)) (h : (d : ℕ) → f (magnitude negative (n * 10 + d)) ≡ none) where
  over-more : (o : maybe.Option ℕ) (t : Bool) → and_then (and_then o (λ d. cond t none (some (magnitude negative (n * 10 + d))))) f ≡ none
  over-more none t = refl
  over-more (some d) true = refl
  over-more (some d) false = h d

pub over : (negative : Bool) (n : ℕ) (bs : List ℕ) → 2 ^ 31 < n → scan (magnitude negative n) bs ≡ none
unfolding scan more
over negative n [] h = rw (magnitude-over negative n h)
over negative n (b ∷ bs) h =
    let longer : (d : ℕ) → scan (magnitude negative (n * 10 + d)) bs ≡ none = λ d. over negative (n * 10 + d) bs (omega arith) in
    rw (magnitude-over negative n h, over-more negative n (λ t. scan t bs) longer (digit_of b) (eqb n 0)) (same (eqb b Text.blank))
  where
    same : (t : Bool) → ◌≡◌ {A = maybe.Option (List ℤ)} (cond t none none) none
    same true = refl
    same false = refl

-- The first digit.
module _ (b d : ℕ) (e : digit_of b ≡ some d) where
  pub first-zero : d ≡ 0 → first false b ≡ some (magnitude false 0)
  unfolding first
  first-zero h = rw (e, h)

  pub minus-zero : d ≡ 0 → first true b ≡ none
  unfolding first
  minus-zero h = rw (e, h)

pub first-none : (b : ℕ) (negative : Bool) → digit_of b ≡ none → first negative b ≡ none
unfolding first
first-none b negative e = rw e

pub digit-is : (b : ℕ) → 48 ≤ b → b ≤ 57 → digit_of b ≡ some (b - 48)
unfolding digit_of
digit-is b h k = rw (le-leb 48 b h, le-leb b 57 k)

pub below-digits : (b : ℕ) → b < 48 → digit_of b ≡ none
unfolding digit_of
below-digits b h = rw (lt-leb 48 b h)

pub above-digits : (b : ℕ) → 57 < b → digit_of b ≡ none
unfolding digit_of
above-digits b h = rw (le-leb 48 b (omega arith), lt-leb b 57 h)

no-blank-first : (negative : Bool) → first negative Text.blank ≡ none
unfolding first digit_of
no-blank-first negative = refl

sign-blank : (negative : Bool) (bs : List ℕ) → scan (sign negative) (Text.blank ∷ bs) ≡ none
unfolding ended
sign-blank true bs = scan-blank minus bs
sign-blank false bs = scan-blank nothing bs

pub first_byte : (negative : Bool) (b : ℕ) (rest : List ℕ) → (negative ≡ false → b ≡ Text.minus → ⊥)
    → scan (sign negative) (b ∷ rest) ≡ and_then (first negative b) (λ t. scan t rest)
first_byte negative b rest m = by-test (eqb b Text.blank) refl
  where
    by-test : (t : Bool) → eqb b Text.blank ≡ t → scan (sign negative) (b ∷ rest) ≡ and_then (first negative b) (λ u. scan u rest)
    by-test true e = rw (eqb-true b Text.blank e, no-blank-first negative) (sign-blank negative rest)
    by-test false e = scan-on (sign negative) b rest (eqb-false b Text.blank e) ∙ rw (more-sign negative b m)

-- No number is at the end of a line, or after `-` there.
pub nothing-left : (negative : Bool) (bytes : List ℕ) → length bytes ≡ 0 → scan (sign negative) bytes ≡ none
unfolding scan ended
nothing-left true [] h = refl
nothing-left false [] h = refl
nothing-left negative (b ∷ bytes) h = absurd (omega arith)

-- What is left of a line, where that is some bytes.
pub left-is : {rest : Option (Bor (List ℕ))} {bytes : Bor (List ℕ)} {l : maybe.Option (List ℤ)} → left rest ≡ l → rest ≡ Some bytes → l ≡ scan nothing bytes.now
unfolding numbers
left-is p q = sym p ∙ ap left q

-- After `-`.
pub minus-on : (rest : List ℕ) → scan nothing (Text.minus ∷ rest) ≡ scan minus rest
unfolding more
minus-on rest = scan-on nothing Text.minus rest (λ q. omega arith)
