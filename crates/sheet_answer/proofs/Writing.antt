-- Text written from its end to its start.
use Prim.Native.Nat.{ℕ, zero, suc, ◌+◌, ◌*◌, ◌/◌, ◌%◌, ◌≤◌, ◌<◌, ◌^◌, max}
use native.Mathlib.Omega.{arith}
use native.Mathlib.Nat.{pow-succ', one-le-pow, div-one, div-div-eq-div-mul}
use native.Mathlib.Decide.{dec_lt}
use mathlib.Core.Path.{◌≡◌, refl, sym, ap, ◌∙◌}
use mathlib.Core.List.{List, [], ◌∷◌, ◌++◌, append_assoc, append-nil}
use lib.ListN.{length, take, drop, length-append, take-append-drop}
use lib.Seq.{take-append-le, take-take, drop_at, length-take-le, append_snoc}
use Rattle.sheet_line.specs.Text.{digit, digits}
use Rattle.sheet_answer.specs.declared.print.Writer.{Writer}
use Rattle.sheet_answer.specs.Steps.{Written, Puts}
use Rattle.sheet_line.proofs.Digits.{digits-one, digits_more}

pub write-none : {t : List ℕ} {e : ℕ} → e ≤ length t → Written t t e e []
write-none {t} {e} h = record { place = omega arith; inside = h; kept = refl; text = sym (take-append-drop e t) }

-- More bytes before those that were written.
pub write-more : {t₀ t₁ t₂ : List ℕ} {j i e : ℕ} {vs ws : List ℕ} → Written t₀ t₁ i e ws → Written t₁ t₂ j i vs → Written t₀ t₂ j e (vs ++ ws)
write-more {t₀} {t₁} {t₂} {j} {i} {e} {vs} {ws} p q =
    let a = p.place in
    let b = q.place in
    let long : length (take i t₀) ≡ i = length-take-le i t₀ (omega (arith, p.inside)) in
    let front : take j t₁ ≡ take j t₀ = rw (p.text, take-append-le j (take i t₀) (ws ++ drop e t₀) (omega arith)) (take-take j i t₀ (omega arith)) in
    let back : drop i t₁ ≡ ws ++ drop e t₀ = rw p.text (drop_at (take i t₀) (ws ++ drop e t₀) i long) in
    record {
      place = rw (length-append vs ws) (omega arith);
      inside = p.inside;
      kept = q.kept ∙ p.kept;
      text = q.text ∙ rw (front, back, append_assoc vs ws (drop e t₀));
    }

-- The number of digits.
width-more : (n : ℕ) → 10 ≤ n → length (digits n) ≡ length (digits (n / 10)) + 1
width-more n h = rw (digits_more n h) (length-append (digits (n / 10)) (digit (n % 10) ∷ []))

width_one : (n : ℕ) → n < 10 → length (digits n) ≡ 1
width_one n h = rw (digits-one n h)

pub digits-some : (n : ℕ) → 0 < length (digits n)
digits-some n = elim (dec_lt n 10) [ yes h ↦ omega (arith, width_one n h) | no h ↦ omega (arith, width-more n (omega arith)) ]

pub digits-ten : (n : ℕ) → 10 ≤ n → 1 < length (digits n)
digits-ten n h = omega (arith, width-more n h, digits-some (n / 10))

pub width-most : (k n : ℕ) → n < 10 ^ suc k → length (digits n) ≤ suc k
width-most zero n h = omega (arith, width_one n h)
width-most (suc k) n h =
    let tenth : n / 10 < 10 ^ suc k = omega (arith, pow-succ' 10 (suc k)) in
    elim (dec_lt n 10) [ yes q ↦ omega (arith, width_one n q) | no q ↦ omega (arith, width-more n (omega arith), width-most k (n / 10) tenth) ]

-- The digits before the last k.
pub width_above : (k n : ℕ) → 10 ^ k ≤ n → length (digits n) ≡ k + length (digits (n / 10 ^ k))
width_above zero n h = rw (div-one n) (omega arith)
width_above (suc k) n h =
    let p = pow-succ' 10 k in
    let q = one-le-pow k 10 (omega arith) in
    let rest = width_above k (n / 10) (omega arith) in
    let same : n / 10 / 10 ^ k ≡ n / 10 ^ suc k = div-div-eq-div-mul n 10 (10 ^ k) ∙ rw p in
    omega (arith, width-more n (omega arith), rw same at rest)

-- The power of ten that a number reaches, or 1 where the number is 0.
pub width-log : (n m k : ℕ) → m ≡ max n 1 → 10 ^ k ≤ m → m < 10 * 10 ^ k → length (digits n) ≡ k + 1
width-log n m k e h l =
    let long : length (digits m) ≡ k + 1 = omega (arith, width-most k m (omega (arith, pow-succ' 10 k)), width_above k m h, digits-some (m / 10 ^ k)) in
    elim (dec_lt 0 n) [
      | yes p ↦ let same : n ≡ m = omega arith in rw same long
      | no p ↦ omega (arith, long, width_one n (omega arith), width_one m (omega arith))
    ]

-- Two digits at a time.
pub digits-pair : (n : ℕ) → 10 ≤ n → n < 100 → digits n ≡ digit (n / 10) ∷ digit (n % 10) ∷ []
digits-pair n h k = digits_more n h ∙ rw (digits-one (n / 10) (omega arith))

pub digits-two : (n : ℕ) → 100 ≤ n → digits n ≡ digits (n / 100) ++ digit (n % 100 / 10) ∷ digit (n % 100 % 10) ∷ []
digits-two n h =
    let tens : n % 100 / 10 ≡ n / 10 % 10 = omega arith in
    let ones : n % 100 % 10 ≡ n % 10 = omega arith in
    let above : n / 10 / 10 ≡ n / 100 = omega arith in
    digits_more n (omega arith)
    ∙ rw (digits_more (n / 10) (omega arith), above, tens, ones)
    (append_snoc (digits (n / 100)) (digit (n / 10 % 10)) (digit (n % 10) ∷ []))

-- A writer that has put nothing, and one that puts more before what it has put.
pub put-none : (w : Writer) → Puts w w []
put-none w = record { same = refl; written = write-none w.within }

pub put-more : {before now after : Writer} {vs ws : List ℕ} → Puts before now ws → Puts now after vs → Puts before after (vs ++ ws)
put-more p q = record { same = q.same ∙ p.same; written = write-more p.written q.written }

-- A writer has put the end of a text, of which `rest` is still to be put.
pub record Left (before now : Writer) (all rest : List ℕ) : Type 0 where
  pub tail : List ℕ
  pub joined : rest ++ tail ≡ all
  pub put : Puts before now tail

pub left-all : (w : Writer) (all : List ℕ) → Left w w all all
left-all w all = record { tail = []; joined = append-nil all; put = put-none w }

module _ {before now : Writer} {all rest : List ℕ} (l : Left before now all rest) where
  pub left-room : length all ≤ before.at → length rest ≤ now.at
  left-room h = omega (arith, ap length l.joined, length-append rest l.tail, l.put.written.place)

  pub left-empty : rest ≡ [] → Puts before now all
  left-empty e = rw (← l.joined, e) l.put

  module _ {after : Writer} {bytes : List ℕ} (p : Puts now after bytes) where
    pub left-more : (next : List ℕ) → rest ≡ next ++ bytes → Left before after all next
    left-more next e = record {
      tail = bytes ++ l.tail;
      joined = sym (append_assoc next bytes l.tail) ∙ rw (← e) l.joined;
      put = put-more l.put p;
    }

    pub left-none : rest ≡ bytes → Puts before after all
    left-none e = rw (← l.joined, e) (put-more l.put p)
