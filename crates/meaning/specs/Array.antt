-- Paper 01, "The array": an operand, the array it holds, and the array that a result is.
use Rattle.std.specs.Prelude.{ℕ, zero, suc, List, [], ◌∷◌, Bool, ◌&&◌, length, take, get_or, leb, ℤ, pos}
use Rattle.shape.specs.declared.Shape.{Shape}
use Rattle.shape.specs.Shape.{counted, count, good_shape}
use Rattle.shape.specs.Place.{index, place}

-- An operand is a shape and a lent buffer. An element is a whole number.
pub record Operand : Type 0 where
  pub shape : Shape
  pub buffer : List ℤ

-- An array: its lengths, and its elements row by row.
pub record Array : Type 0 where
  pub lengths : List ℕ
  pub elements : List ℤ

-- The first count elements of the buffer are the array; later ones are not read.
abbrev pub array_of : Operand → Array
array_of o = record { lengths = counted o.shape; elements = take (count (counted o.shape)) o.buffer }

-- Good form, without which the call is FORM: a good shape, and a buffer that is not shorter than the count.
unfoldable pub good_form : Operand → Bool
good_form o = good_shape o.shape && leb (count (counted o.shape)) (length o.buffer)

-- The element at a place.
unfoldable pub at : Array → List ℕ → ℤ
at a p = get_or a.elements (index a.lengths p) (pos 0)

-- The list of f 0, f 1, .., f (n - 1).
unfoldable pub tab_from {ℓ} : {A : Type ℓ} → ℕ → ℕ → (ℕ → A) → List A
tab_from i zero f = []
tab_from i (suc n) f = f i ∷ tab_from (suc i) n f

unfoldable pub tab {ℓ} : {A : Type ℓ} → ℕ → (ℕ → A) → List A
tab n f = tab_from 0 n f

-- The array of some lengths with f p at each place p.
unfoldable pub build : List ℕ → (List ℕ → ℤ) → Array
build ns f = record { lengths = ns; elements = tab (count ns) (λ j. f (place ns j)) }
