-- A run is elements that stand one after another in a buffer: what it leaves in the buffer that it goes to.
use Rattle.std.specs.Prelude.{ℕ, min, List, ◌++◌, reverse, length, take, drop}

-- As many elements as both have.
abbrev pub common : {A : Type 0} → List A → List A → ℕ
common src out = min (length src) (length out)

-- The first elements of src, and then what out has after them.
unfoldable pub copied : {A : Type 0} → List A → List A → List A
copied src out = take (common src out) src ++ drop (common src out) out

-- The same elements, the last of them first.
unfoldable pub reversed : {A : Type 0} → List A → List A → List A
reversed src out = reverse (take (common src out) src) ++ drop (common src out) out
