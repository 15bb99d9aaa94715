-- A line of numbers is exactly the printing of what is read from it.
use Rattle.std.proofs.Common.{◌≡◌, ℕ, zero, suc, ◌+◌, ◌-◌, ◌*◌, ◌<◌, Bool, true, false, cond, ◌&&◌, eqb, ltb, leb, List, [], ◌∷◌, ◌++◌, map, length, ℤ, pos}
use Rattle.std.proofs.Common.{negsuc, sym, refl, ◌∙◌, append-nil, arith, ltb-false, ltb-true, eqb-true, leb-true}
use mathlib.Core.Option.{none, some}
use lib.Seq.{append_snoc}
use borrow.Author.Tests.{eqb-false}
use Rattle.shape.proofs.Bools.{both}
use Rattle.meaning.specs.Terms.{every}
use Rattle.sheet_line.specs.Text as Text
use Rattle.sheet_line.specs.Text.{digit, digits, decimal, following, spaced, printed}
use Rattle.sheet_line.specs.Numbers.{and_then, fits, Begun, nothing, minus, magnitude, digit_of, first, more, signed, ended, scan, numbers}
use Rattle.sheet_line.proofs.Options.{none-some, some_inj, passed, if_some, unless-some}
use Rattle.sheet_line.proofs.Digits.{digits-one, digits_append}
use Rattle.sheet_line.proofs.Scan.{sign, ended-fits, scan-decimal}

scan-printed : (z : ℤ) (zs : List ℤ) → every fits (z ∷ zs) ≡ true → scan nothing (decimal z ++ following (map decimal zs)) ≡ some (z ∷ zs)
unfolding every following scan
scan-printed z [] h = scan-decimal z [] ∙ rw (ended-fits z (both (fits z) true h).0)
scan-printed z (y ∷ ys) h =
    let b = both (fits z) (every fits (y ∷ ys)) h in
    scan-decimal z _ ∙ rw (ended-fits z b.0, scan-printed y ys b.1)

-- The printing of numbers is read as these numbers.
pub printed-is-read : (z : ℤ) (zs : List ℤ) → every fits (z ∷ zs) ≡ true → numbers (printed (z ∷ zs)) ≡ some (z ∷ zs)
unfolding numbers printed spaced
printed-is-read z zs h = scan-printed z zs h

-- The text of what has begun.
text_of : Begun → List ℕ
text_of nothing = []
text_of minus = Text.minus ∷ []
text_of (magnitude true n) = Text.minus ∷ digits n
text_of (magnitude false n) = digits n

-- No minus zero has begun.
Fine : Begun → Type 0
Fine nothing = Unit {0}
Fine minus = Unit {0}
Fine (magnitude true n) = 0 < n
Fine (magnitude false n) = Unit {0}

ended-text : (s : Begun) (z : ℤ) → Fine s → ended s ≡ some z → (text_of s ≡ decimal z) × (fits z ≡ true)
unfolding ended signed text_of Fine decimal
ended-text nothing z f e = none-some e
ended-text minus z f e = none-some e
ended-text (magnitude true zero) z f e = absurd (omega arith)
ended-text (magnitude true (suc n)) z f e =
    let i = if_some (fits (negsuc n)) (some (negsuc n)) z e in
    rw (← some_inj i.1) (refl, i.0)
ended-text (magnitude false n) z f e =
    let i = if_some (fits (pos n)) (some (pos n)) z e in
    rw (← some_inj i.1) (refl, i.0)

digit-text : (b d : ℕ) → digit_of b ≡ some d → (digit d ≡ b) × (d < 10)
unfolding digit_of
digit-text b d e =
    let i = if_some (leb 48 b && leb b 57) (some (b - 48)) d e in
    let t = both (leb 48 b) (leb b 57) i.0 in
    let low = leb-true 48 b t.0 in
    let high = leb-true b 57 t.1 in
    let s = some_inj i.1 in
    (omega arith, omega arith)

-- One byte more: its text stands at the end of the text.
Longer : Begun → ℕ → Begun → Type 0
Longer s b t = (text_of s ++ b ∷ [] ≡ text_of t) × Fine t

first-magnitude : (negative : Bool) (b d : ℕ) → digit_of b ≡ some d → (negative && eqb d 0) ≡ false → Longer (sign negative) b (magnitude negative d)
unfolding Longer text_of Fine
first-magnitude true b d e h =
    let q = digit-text b d e in
    let n = eqb-false d 0 h in
    (rw (digits-one d q.1, q.0), by-test (ltb 0 d) refl n)
  where
    by-test : (t : Bool) → ltb 0 d ≡ t → (d ≡ 0 → ⊥) → 0 < d
    by-test true p n = ltb-true 0 d p
    by-test false p n = absurd (n (omega (arith, ltb-false 0 d p)))
first-magnitude false b d e h = let q = digit-text b d e in (rw (digits-one d q.1, q.0), tt)

first-text : (negative : Bool) (b : ℕ) (t : Begun) → first negative b ≡ some t → Longer (sign negative) b t
unfolding first
first-text negative b t e =
    let p = passed (digit_of b) (λ d. cond (negative && eqb d 0) none (some (magnitude negative d))) t e in
    let u = unless-some (negative && eqb p.found 0) (some (magnitude negative p.found)) t p.on in
    rw (← some_inj u.1) (first-magnitude negative b p.found p.is u.0)

next-magnitude : (negative : Bool) (n b d : ℕ) → Fine (magnitude negative n) → digit_of b ≡ some d → eqb n 0 ≡ false
    → Longer (magnitude negative n) b (magnitude negative (n * 10 + d))
unfolding Longer text_of Fine
next-magnitude true n b d f e h = let q = digit-text b d e in (rw (digits_append n d f q.1, q.0), omega arith)
next-magnitude false n b d f e h =
    let q = digit-text b d e in
    let p : 0 < n = omega (arith, eqb-false n 0 h) in
    (rw (digits_append n d p q.1, q.0), tt)

more-text : (s : Begun) (b : ℕ) (t : Begun) → Fine s → more s b ≡ some t → Longer s b t
unfolding more Longer text_of Fine
more-text nothing b t f e = by-test (eqb b Text.minus) refl e
  where
    by-test : (x : Bool) → eqb b Text.minus ≡ x → cond x (some minus) (first false b) ≡ some t → Longer nothing b t
    by-test true p q = rw (← some_inj q, eqb-true b Text.minus p) (refl, tt)
    by-test false p q = first-text false b t q
more-text minus b t f e = first-text true b t e
more-text (magnitude negative n) b t f e =
    let p = passed (digit_of b) (λ d. cond (eqb n 0) none (some (magnitude negative (n * 10 + d)))) t e in
    let u = unless-some (eqb n 0) (some (magnitude negative (n * 10 + p.found))) t p.on in
    rw (← some_inj u.1) (next-magnitude negative n b p.found f p.is u.0)

-- A text that was read is the printing of the numbers, each in 32 signed bits, and there is one.
pub record Printing (bs : List ℕ) (zs : List ℤ) : Type 0 where
  pub printing : printed zs ≡ bs
  pub fit : every fits zs ≡ true
  pub some_number : 0 < length zs

one : (s : Begun) (z : ℤ) → Fine s → ended s ≡ some z → Printing (text_of s ++ []) (z ∷ [])
unfolding printed spaced following every
one s z f e = let t = ended-text s z f e in record { printing = rw t.0; fit = rw t.1; some_number = omega arith }

one_more : (s : Begun) (z : ℤ) (bs : List ℕ) (zs : List ℤ) → Fine s → ended s ≡ some z → Printing bs zs → Printing (text_of s ++ Text.blank ∷ bs) (z ∷ zs)
unfolding printed spaced following every
one_more s z bs [] f e p = absurd (omega (arith, p.some_number))
one_more s z bs (y ∷ ys) f e p =
    let t = ended-text s z f e in
    record { printing = rw (t.0, ← p.printing); fit = rw t.1 p.fit; some_number = omega arith }

module _ (bs : List ℕ) (shorter : (t : Begun) (ys : List ℤ) → Fine t → scan t bs ≡ some ys → Printing (text_of t ++ bs) ys) where
  blank-case : (s : Begun) (zs : List ℤ) → Fine s → and_then (ended s) (λ z. and_then (scan nothing bs) (λ ys. some (z ∷ ys))) ≡ some zs
      → Printing (text_of s ++ Text.blank ∷ bs) zs
  unfolding text_of Fine
  blank-case s zs f e =
      let p = passed (ended s) (λ z. and_then (scan nothing bs) (λ ys. some (z ∷ ys))) zs e in
      let q = passed (scan nothing bs) (λ ys. some (p.found ∷ ys)) zs p.on in
      rw (← some_inj q.on) (one_more s p.found bs q.found f p.is (shorter nothing q.found tt q.is))

  more-case : (s : Begun) (b : ℕ) (zs : List ℤ) → Fine s → and_then (more s b) (λ t. scan t bs) ≡ some zs → Printing (text_of s ++ b ∷ bs) zs
  unfolding Longer
  more-case s b zs f e =
      let p = passed (more s b) (λ t. scan t bs) zs e in
      let l = more-text s b p.found f p.is in
      rw (← append_snoc (text_of s) b bs, l.0) (shorter p.found zs l.1 p.on)

  byte-case : (s : Begun) (b : ℕ) (zs : List ℤ) (t : Bool) → eqb b Text.blank ≡ t → Fine s
      → cond t (and_then (ended s) (λ z. and_then (scan nothing bs) (λ ys. some (z ∷ ys)))) (and_then (more s b) (λ u. scan u bs)) ≡ some zs
      → Printing (text_of s ++ b ∷ bs) zs
  byte-case s b zs true p f e = rw (eqb-true b Text.blank p) (blank-case s zs f e)
  byte-case s b zs false p f e = more-case s b zs f e

scan-text : (s : Begun) (bs : List ℕ) (zs : List ℤ) → Fine s → scan s bs ≡ some zs → Printing (text_of s ++ bs) zs
unfolding scan
scan-text s [] zs f e =
    let p = passed (ended s) (λ z. some (z ∷ [])) zs e in
    rw (← some_inj p.on) (one s p.found f p.is)
scan-text s (b ∷ bs) zs f e = byte-case bs (λ t ys g h. scan-text t bs ys g h) s b zs (eqb b Text.blank) refl f e

-- A line of numbers is exactly the printing of what is read from it.
pub read-is-printing : (bs : List ℕ) (zs : List ℤ) → numbers bs ≡ some zs → Printing bs zs
unfolding numbers text_of Fine
read-is-printing bs zs e = scan-text nothing bs zs tt e

-- So no two lines say the same.
pub one_line : (bs cs : List ℕ) (zs : List ℤ) → numbers bs ≡ some zs → numbers cs ≡ some zs → bs ≡ cs
one_line bs cs zs p q = sym (read-is-printing bs zs p).printing ∙ (read-is-printing cs zs q).printing

-- A number printed is read back as itself.
pub number-back : (z : ℤ) → fits z ≡ true → numbers (decimal z) ≡ some (z ∷ [])
unfolding printed spaced following every
number-back z h = rw (append-nil (decimal z)) at (printed-is-read z [] (rw h))
