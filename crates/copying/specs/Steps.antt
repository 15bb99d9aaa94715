-- What the contracts of functions that fill a buffer cite, in the crates above too.
use Rattle.std.specs.Prelude.{ℕ, ◌+◌, ◌*◌, ◌/◌, ◌%◌, List, ◌++◌, reverse, take, drop, Bool, cond}
use Rattle.meaning.specs.Array.{tab}
use Rattle.copying.specs.Runs.{common}

-- The first n elements are g 0, g 1, .., and the others are those of out.
abbrev pub filled : {A : Type 0} → (ℕ → A) → ℕ → List A → List A
filled g n out = tab n g ++ drop n out

-- The element that element j of a result comes from, where the axis has m positions in the result and n in the source, c elements stand
-- after it, and position i takes φ i.
abbrev pub source : ℕ → ℕ → ℕ → (ℕ → ℕ) → ℕ → ℕ
source m n c φ j = (j / c / m * n + φ (j / c % m)) * c + j % c

-- A run in its order, or the last of its elements first; and what it then leaves.
abbrev pub ordered : {A : Type 0} → Bool → List A → List A
ordered back src = cond back (reverse src) src

abbrev pub arranged : {A : Type 0} → Bool → List A → List A → List A
arranged back src out = ordered back (take (common src out) src) ++ drop (common src out) out
