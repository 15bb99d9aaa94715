-- Arrays that are built place by place.
use mathlib.Core.Path.{◌≡◌, refl, ap, ◌∙◌}
use mathlib.Core.List.{List, [], ◌++◌}
use mathlib.Core.Bool.{true}
use Prim.Native.Nat.{ℕ, ◌≤◌}
use borrow.Author.Tests.{leb-true}
use lib.Dec.{leb}
use lib.ListN.{length, get_or, drop}
use lib.Seq.{length-take-le}
use lib.IntN.{ℤ, pos}
use Rattle.shape.specs.Shape.{counted, count, good_shape}
use Rattle.shape.specs.Place.{index, place}
use Rattle.shape.proofs.Bools.{both}
use Rattle.shape.proofs.Places.{In, index-lt, place_in, index-place, place-index}
use Rattle.meaning.specs.Array.{Operand, Array, array_of, good_form, at, tab, build}
use Rattle.meaning.proofs.Tab.{tab-none, length-tab, get_or-tab, tab-ext, tab-get_or}

-- As many elements as the lengths say.
abbrev pub Whole : Array → Type 0
Whole a = length a.elements ≡ count a.lengths

pub build-lengths : (s : List ℕ) (f : List ℕ → ℤ) → (build s f).lengths ≡ s
unfolding build
build-lengths s f = refl

pub build-whole : (s : List ℕ) (f : List ℕ → ℤ) → Whole (build s f)
unfolding build
build-whole s f = length-tab (count s) _

-- What was built at a place.
pub at-build : (s : List ℕ) (f : List ℕ → ℤ) (p : List ℕ) → In s p → at (build s f) p ≡ f p
unfolding build at
at-build s f p h = get_or-tab (count s) _ (index s p) _ (index-lt s p h) ∙ ap f (place-index s p h)

-- Two arrays of one shape are equal if they agree at each place.
pub build-ext : (s : List ℕ) (f g : List ℕ → ℤ) → ((p : List ℕ) → In s p → f p ≡ g p) → build s f ≡ build s g
unfolding build
build-ext s f g h =
    ap (λ xs. record { lengths = s; elements = xs }) (tab-ext (count s) _ _ (λ j l. h (place s j) (place_in s j l)))

-- An array is built of its own elements.
pub build-at : (a : Array) → Whole a → build a.lengths (at a) ≡ a
unfolding build at
build-at a w =
    ap (λ xs. record { lengths = a.lengths; elements = xs })
    (tab-ext (count a.lengths) _ (λ j. get_or a.elements j (pos 0)) (λ j l. ap (λ i. get_or a.elements i (pos 0)) (index-place a.lengths j l))
    ∙ (rw (← w) (tab-get_or a.elements (pos 0))))

-- No place, no elements.
pub build-none : (s : List ℕ) (f : List ℕ → ℤ) → count s ≡ 0 → (build s f).elements ≡ []
unfolding build
build-none s f z = ap (λ n. tab n (λ j. f (place s j))) z ∙ tab-none _

-- So a buffer that nothing is written to holds such a result.
pub none_made : (s : List ℕ) (f : List ℕ → ℤ) (n : ℕ) (out : List ℤ) → count s ≡ 0 → n ≡ 0 → out ≡ (build s f).elements ++ drop n out
none_made s f n out z e = rw (build-none s f z, e)

-- An operand of good form: its shape is good, and its buffer holds as many elements as it counts.
module _ (r : Operand) (h : good_form r ≡ true) where
  form_both : (good_shape r.shape ≡ true) × (leb (count (counted r.shape)) (length r.buffer) ≡ true)
  unfolding good_form
  form_both = both _ _ h

  pub form-shape : good_shape r.shape ≡ true
  form-shape = form_both.0

  pub form-room : count (counted r.shape) ≤ length r.buffer
  form-room = leb-true _ _ form_both.1

  pub form-whole : Whole (array_of r)
  form-whole = length-take-le _ r.buffer form-room
