-- The rows of blocks by a mask; a row is the elements after one position of the axis.
use Rattle.std.specs.Prelude.{◌≡◌, ℕ, ◌+◌, ◌*◌, ◌/◌, ◌%◌, ◌≤◌, ◌<◌, List, Bool, true, false, cond, not, length, take, get_or, ℤ, pos}
use Rattle.meaning.specs.Terms.{ones}
use Rattle.copying.specs.declared.AxisBlocks.{AxisBlocks}
use Rattle.copying.specs.Gather.{BlocksLie}
use Rattle.copying.specs.Steps.{filled, source}
use Rattle.masks.specs.Steps.Actions.{suits, width, one_at, takes_at, taken}

-- Element j of rows of c elements: row i is row φ i of r where t i, else zeros.
abbrev pub rowed : (ℕ → Bool) → (ℕ → ℕ) → ℕ → List ℤ → ℕ → ℤ
rowed t φ c r j = cond (t (j / c)) (get_or r (φ (j / c) * c + j % c) (pos 0)) (pos 0)

-- The rows at the positions of a list; the rows in order at the ones of a mask, zeros elsewhere; and what a mask makes of rows.
abbrev pub kept_rows : List ℕ → ℕ → List ℤ → ℕ → ℤ
kept_rows at = rowed (λ i. true) (λ i. get_or at i 0)

abbrev pub opened_rows : List ℤ → ℕ → List ℤ → ℕ → ℤ
opened_rows l = rowed (one_at l) (λ i. length (ones (take i l)))

abbrev pub rows_of : Bool → List ℤ → ℕ → ℕ → List ℤ → ℕ → ℤ
rows_of expands l n = rowed (takes_at expands l) (taken expands l n)

-- Element j of the result's blocks; and the output buffer with all of them.
abbrev pub placed : Bool → List ℤ → AxisBlocks → List ℤ → ℕ → ℤ
placed expands l b r j =
    cond (takes_at expands l (j / b.inner % b.made)) (get_or r (source b.made b.taken b.inner (taken expands l b.taken) j) (pos 0)) (pos 0)

abbrev pub placed_in : Bool → List ℤ → AxisBlocks → List ℤ → List ℤ → List ℤ
placed_in expands l b r out = filled (placed expands l b r) (b.outer * (b.made * b.inner)) out

-- A block of R goes to one of the result.
pub record Block (expands : Bool) (l : List ℤ) (b : AxisBlocks) (from to : ℕ) : Type 0 where
  pub fitting : suits expands l b.taken ≡ true
  pub wide : b.made ≡ width expands l
  pub row : 0 < b.inner
  pub source : from ≡ b.taken * b.inner
  pub room : to ≡ b.made * b.inner

-- All blocks go to those of the result.
pub record InBlocks (expands : Bool) (l : List ℤ) (b : AxisBlocks) (from to : ℕ) : Type 0 where
  pub fitting : suits expands l b.taken ≡ true
  pub wide : b.made ≡ width expands l
  pub some : 0 < b.outer
  pub row : 0 < b.inner
  pub lie : BlocksLie b from to

-- The longest mask whose ones are noted.
abbrev pub few : ℕ
few = 64

-- The positions of a mask's ones stand in front of a list.
abbrev pub Noted : List ℤ → List ℕ → Type 0
Noted l at = (q : ℕ) → q < length (ones l) → get_or at q 0 ≡ get_or (ones l) q 0

-- What is known where the ones of a mask of c places are noted: it is short, and compresses no axis of length 1.
pub record NotesPay (expands : Bool) (c n : ℕ) : Type 0 where
  pub short : c ≤ few
  pub other : expands ≡ false → n ≡ 1 → ⊥

-- The first k elements are zeros.
abbrev pub Zeros : ℕ → List ℤ → Type 0
Zeros k out = (j : ℕ) → j < k → get_or out j (pos 0) ≡ pos 0

-- What is known where a mask expands by its noted ones, to the first k elements of a buffer: single elements go into zeros.
pub record ByNotes (l : List ℤ) (at : List ℕ) (c k : ℕ) (out : List ℤ) : Type 0 where
  pub short : length l ≤ length at
  pub notes : Noted l at
  pub blank : c ≡ 1 → Zeros k out

-- The rows in order at the noted ones of a mask.
pub record Opens (l : List ℤ) (at : List ℕ) (c from : ℕ) (out : List ℤ) : Type 0 where
  pub short : length l ≤ length at
  pub notes : Noted l at
  pub source : from ≡ length (ones l) * c
  pub room : length out ≡ length l * c
  pub blank : c ≡ 1 → Zeros (length out) out

-- The positions of a mask from i up to e are ones, or none is one, as b says; e is not such a position.
pub record Stretch (b : Bool) (l : List ℤ) (i e : ℕ) : Type 0 where
  pub starts : i ≤ e
  pub within : e ≤ length l
  pub alike : (j : ℕ) → i ≤ j → j < e → one_at l j ≡ b
  pub ends : e < length l → one_at l e ≡ not b
