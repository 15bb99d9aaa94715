-- A result that is a vector.
use mathlib.Core.Path.{◌≡◌, refl, sym, ap, ◌∙◌}
use mathlib.Core.List.{List, [], ◌∷◌, ◌++◌}
use mathlib.Core.Bool.{false, not, cond}
use lib.Dec.{leb}
use Prim.Native.Nat.{ℕ, ◌/◌, ◌≤◌, ◌<◌}
use native.Mathlib.Nat.{mul-one, div-one}
use native.Mathlib.Decide.{dec_le}
use native.Mathlib.Omega.{arith}
use borrow.Author.Tests.{lt-leb}
use lib.ListN.{length, take, drop}
use lib.Seq.{length-take-le}
use lib.IntN.{ℤ}
use Rattle.shape.specs.declared.Shape.{Shape}
use Rattle.shape.specs.Shape.{max_count, count, count_of, good_shape, shape_of}
use Rattle.shape.specs.Place.{place}
use Rattle.shape.proofs.Bools.{refuted}
use Rattle.shape.proofs.Rule.{vector-rule, rule-length}
use Rattle.shape.proofs.Counts.{count-of, count-bad}
use Rattle.shape.proofs.Made.{Stands, made-stands}
use Rattle.meaning.specs.Array.{tab, build}
use Rattle.meaning.specs.Primitives.{Meaning}
use Rattle.meaning.specs.Refusal.{number}
use Rattle.meaning.specs.Refusal.Refusal.{LIMIT, SPACE}
use Rattle.meaning.proofs.Tab.{tab-ext}
use Rattle.copying.specs.Steps.{filled}
use Rattle.answer.specs.Answer.{late}
use Rattle.answer.proofs.Order.{late-first, late-fine}

-- n elements, and f says which.
pub record Vector (m : Meaning) (n : ℕ) (f : ℕ → ℤ) : Type 0 where
  pub lengths : m.lengths ≡ n ∷ []
  pub element : (i : ℕ) → i < n → m.element (i ∷ []) ≡ f i

count-one : (n : ℕ) → count (n ∷ []) ≡ n
unfolding count
count-one n = mul-one n

built : (n : ℕ) (e : List ℕ → ℤ) (f : ℕ → ℤ) → ((i : ℕ) → i < n → e (i ∷ []) ≡ f i) → (build (n ∷ []) e).elements ≡ tab n f
unfolding build count place
built n e f same = ap (λ k. tab k (λ j. e (j / 1 ∷ []))) (mul-one n) ∙ tab-ext n _ f (λ j l. ap (λ i. e (i ∷ [])) (div-one j) ∙ same j l)

module _ {m : Meaning} {n : ℕ} {f : ℕ → ℤ} (v : Vector m n f) where
  pub vector-out : (out : List ℤ) → filled f n out ≡ (build m.lengths m.element).elements ++ drop (count m.lengths) out
  vector-out out = rw (v.lengths, count-one n, built n m.element f v.element)

  -- The same, of the part that is handed on.
  pub vector-put : (out : List ℤ) {last : List ℤ} → n ≤ length out → last ≡ tab (length (take n out)) f
      → last ++ drop n out ≡ (build m.lengths m.element).elements ++ drop (count m.lengths) out
  vector-put out h q = ap (λ x. x ++ drop n out) (q ∙ ap (λ k. tab k f) (length-take-le n out h)) ∙ vector-out out

  -- The shape that `Shape::vector` gives.
  module _ {s : Shape} (e : s ≡ shape_of (n ∷ [])) where
    pub vector-shape : s ≡ shape_of m.lengths
    vector-shape = e ∙ ap shape_of (sym v.lengths)

    pub vector-stands : Stands s m.lengths
    vector-stands = made-stands s m.lengths vector-shape

-- Its count, where that is within the limit.
pub vector-counted : (n : ℕ) → n ≤ max_count → n ≡ count_of (shape_of (n ∷ []))
vector-counted n h = sym (count-of (shape_of (n ∷ [])) (vector-rule n h) ∙ count-one n)

-- What LIMIT and SPACE come to for it, by its length, however large that is.
pub vector-late : (n room : ℕ) → late n room ≡ late (count_of (shape_of (n ∷ []))) room
vector-late n room = by (dec_le n max_count)
  where
    s : Shape
    s = shape_of (n ∷ [])

    over : (c : ℕ) → max_count < c → late c room ≡ number LIMIT
    over c h = late-first c room ∙ ap (λ t. cond (not t) (number LIMIT) (cond (not (leb c room)) (number SPACE) 0)) (lt-leb c max_count h)

    by : Dec (n ≤ max_count) → late n room ≡ late (count_of s) room
    by (yes h) = ap (λ k. late k room) (vector-counted n h)
    by (no h) =
        let bad : good_shape s ≡ false = refuted (good_shape s) (λ g. absurd (h (rule-length 1 s.lens 0 g refl (omega arith)))) in
        over n (omega arith) ∙ sym (over (count_of s) (omega (arith, count-bad s bad)))

-- Neither was met.
pub vector-room : (n room : ℕ) {w : ℕ} → w ≡ late n room → w ≡ 0 → (n ≤ max_count) × (n ≤ room)
vector-room n room q z =
    let f = late-fine room (q ∙ vector-late n room) refl z in
    let e : count_of (shape_of (n ∷ [])) ≡ n = count-of (shape_of (n ∷ [])) f.good ∙ count-one n in
    (omega (arith, f.small, e), omega (arith, f.space, e))
