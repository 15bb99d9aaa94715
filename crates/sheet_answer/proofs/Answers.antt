-- The output for a line, put together from its end.
use Prim.Native.Nat.{ℕ, zero, suc, ◌+◌, ◌≤◌, ◌<◌}
use native.Mathlib.Omega.{arith}
use mathlib.Core.Path.{◌≡◌, refl, ap, ◌∙◌}
use mathlib.Core.List.{List, [], ◌∷◌, ◌++◌, append_assoc, append-nil, map}
use lib.ListN.{length, take, length-append}
use borrow.Author.Tests.{le-leb, lt-leb}
use lib.IntN.{ℤ}
use mathlib.Core.Logic.{◌⊎◌, inl, inr}
use Rattle.std.proofs.Common.{Option, Some, None}
use Rattle.shape.specs.declared.Shape.{Shape}
use Rattle.shape.specs.Shape.{max_count, count, counted, count_of}
use Rattle.shape.proofs.Counts.{good-count, bad-count, count-of}
use Rattle.meaning.specs.Array.{Operand, good_form}
use Rattle.sheet_line.specs.Call.{max_line, front}
use Rattle.sheet_line.specs.Text.{newline, blank, digits, decimal, following, spaced}
use Rattle.sheet_answer.specs.Answer.{answer_line, ok_line, no_line, bad_line, result_in, reply_line, fitted, printed_to, CountIfFits}
use Rattle.sheet_answer.specs.declared.print.Writer.{Writer}
use Rattle.sheet_answer.specs.Steps.{Puts}
use Rattle.sheet_answer.proofs.Parts.{following-append}

-- What printing promises.
abbrev pub Print : List ℕ → List ℕ → List ℕ → Option ℕ → Type 0
Print bytes before after r = CountIfFits r bytes before × (after ≡ printed_to bytes before)

-- A line that does not fit, and one whose pieces were put.
pub no_room : (bytes before : List ℕ) → length before < length bytes → before ≡ printed_to bytes before
unfolding fitted
no_room bytes before h = rw (lt-leb (length bytes) (length before) h)

pub all-printed : {bytes pieces before : List ℕ} {w w' : Writer} → bytes ≡ pieces → w.at ≡ length bytes → w.text.now ≡ before → Puts w w' pieces
    → w'.text.now ≡ printed_to bytes before
unfolding fitted
all-printed {bytes} {before = before} {w} {w'} p e t q =
    let put = rw t at q.written in
    let first : w'.at ≡ 0 = omega (arith, put.place, ap length p) in
    rw (le-leb (length bytes) (length before) (omega (arith, put.inside))) (put.text ∙ rw (first, e, ← p))

-- A line that fits the text is printed whole.
pub printed-whole : (bytes before after : List ℕ) (r : Option ℕ) → length bytes ≤ max_line → max_line ≤ length before → Print bytes before after r
    → (r ≡ Some (length bytes)) × (after ≡ front bytes before)
unfolding fitted
printed-whole bytes before after None h k p = absurd (omega (arith, p.0))
printed-whole bytes before after (Some n) h k p =
    let all : fitted bytes before ≡ bytes = rw (le-leb (length bytes) (length before) (omega arith)) in
    (ap Some p.0.0, rw all at p.1)

-- Nothing always fits.
pub nothing-to-print : (before : List ℕ) → before ≡ printed_to [] before
unfolding fitted
nothing-to-print before = rw (le-leb 0 (length before) (omega arith))

-- The pieces of each kind of line.
module _ (line : ℕ) where
  pub bad-text : bad_line line ≡ digits line ++ (blank ∷ 98 ∷ 97 ∷ 100 ∷ newline ∷ [])
  unfolding bad_line answer_line spaced following
  bad-text = simp append_assoc

  pub no_text : (n : ℕ) → no_line line n ≡ digits line ++ ((blank ∷ 110 ∷ 111 ∷ []) ++ ((blank ∷ digits n) ++ newline ∷ []))
  unfolding no_line answer_line spaced following
  no_text n = simp (append_assoc, append-nil)

  pub ok-text : (ns : List ℕ) (zs : List ℤ) → ok_line line (record { lengths = ns; elements = zs })
      ≡ digits line ++ ((blank ∷ 111 ∷ 107 ∷ [])
      ++ ((blank ∷ digits (length ns)) ++ (following (map digits ns) ++ (following (map decimal zs) ++ newline ∷ []))))
  unfolding ok_line answer_line spaced following
  ok-text ns zs = simp (following-append, append_assoc)

  pub bad-length : length (bad_line line) ≡ length (digits line) + 5
  bad-length = ap length bad-text ∙ simp length-append (omega arith)

  pub no_length : (n : ℕ) → length (no_line line n) ≡ length (digits line) + length (digits n) + 5
  no_length n = ap length (no_text n) ∙ simp length-append (omega arith)

  pub ok-length : (ns : List ℕ) (zs : List ℤ) → length (ok_line line (record { lengths = ns; elements = zs }))
      ≡ length (digits line) + length (digits (length ns)) + length (following (map digits ns)) + length (following (map decimal zs)) + 5
  ok-length ns zs = ap length (ok-text ns zs) ∙ simp length-append (omega arith)

-- A reply without good form prints nothing; one of good form prints its array.
module _ (line : ℕ) (s : Shape) (out : List ℤ) where
  pub bad-shape : max_count < count_of s → reply_line line 0 (result_in s out) ≡ []
  unfolding reply_line good_form
  bad-shape h = rw (bad-count s h)

  count-is : count_of s ≤ max_count → count_of s ≡ count (counted s)
  count-is h = count-of s (good-count s h)

  pub short-buffer : count_of s ≤ max_count → length out < count_of s → reply_line line 0 (result_in s out) ≡ []
  unfolding reply_line good_form
  short-buffer h k = rw (good-count s h, lt-leb (count (counted s)) (length out) (omega (arith, count-is h)))

  pub no_array : {n : ℕ} → n ≡ count_of s → (max_count < n) ⊎ ((n ≤ max_count) × (length out < n)) → reply_line line 0 (result_in s out) ≡ []
  no_array e (inl h) = bad-shape (omega (arith, e))
  no_array e (inr h) = short-buffer (omega (arith, e)) (omega (arith, e))

  pub good-reply : {n : ℕ} → n ≡ count_of s → n ≤ max_count → n ≤ length out
      → reply_line line 0 (result_in s out) ≡ ok_line line (record { lengths = counted s; elements = take n out })
  unfolding reply_line good_form
  good-reply e h k =
      let few : count_of s ≤ max_count = omega (arith, e) in
      rw (good-count s few, le-leb (count (counted s)) (length out) (omega (arith, count-is few)), e, count-is few)

pub refusal-reply : (line n : ℕ) (o : Operand) → (n ≡ 0 → ⊥) → reply_line line n o ≡ no_line line n
unfolding reply_line
refusal-reply line zero o h = absurd (h refl)
refusal-reply line (suc n) o h = refl
