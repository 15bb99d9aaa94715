-- Rows that are gathered by their positions. A row is the elements after one position of an axis; the rows of an axis stand in blocks, one for each
-- place of the axes before it.
use Rattle.std.specs.Prelude.{◌≡◌, ℕ, ◌+◌, ◌*◌, ◌-◌, ◌/◌, ◌%◌, ◌≤◌, ◌<◌, List, [], ◌∷◌, ◌++◌, Bool, true, cond, ◌&&◌, leb, ltb, length, get_or, drop, ℤ, pos}
use Rattle.shape.specs.declared.Around.{Around}
use Rattle.shape.specs.Shape.{max_count}
use Rattle.meaning.specs.Array.{tab}
use Rattle.meaning.specs.Terms.{every}
use Rattle.copying.specs.declared.AxisBlocks.{AxisBlocks}
use Rattle.copying.specs.Steps.{source}

-- No count of the blocks is above the limit.
unfoldable pub small_blocks : AxisBlocks → Bool
small_blocks b = every (λ x. leb x max_count) (b.outer ∷ b.taken ∷ b.made ∷ b.inner ∷ [])

-- The rows at the positions of `at` can go to the rows from `first` on: the blocks lie in buffers of n and of m elements, the rows in the result's
-- blocks, and the positions in the source's.
unfoldable pub gathers : List ℕ → ℕ → AxisBlocks → ℕ → ℕ → Bool
gathers at first b n m =
    small_blocks b
    && (leb (b.outer * (b.taken * b.inner)) n
    && (leb (b.outer * (b.made * b.inner)) m && (leb (first + length at) b.made && every (λ x. ltb x b.taken) at)))

-- Element j of the result's blocks: row i is the source's row at position i - first of `at`, or stays.
abbrev pub gathered_at : List ℕ → ℕ → AxisBlocks → List ℤ → List ℤ → ℕ → ℤ
gathered_at at first b r out j =
    let i : ℕ = j / b.inner % b.made in
    cond (leb first i && ltb i (first + length at))
    (get_or r (source b.made b.taken b.inner (λ i. get_or at (i - first) 0) j) (pos 0))
    (get_or out j (pos 0))

-- What is left in the buffer; where the rows cannot go, what it held.
unfoldable pub gathered : List ℕ → ℕ → AxisBlocks → List ℤ → List ℤ → List ℤ
gathered at first b r out =
    let size : ℕ = b.outer * (b.made * b.inner) in
    cond (gathers at first b (length r) (length out)) (tab size (gathered_at at first b r out) ++ drop size out) out

-- The positions f 0, f 1, .. stand in front of a list, n of them.
abbrev pub PositionsNoted : (ℕ → ℕ) → ℕ → List ℕ → Type 0
PositionsNoted f n at = (q : ℕ) → q < n → get_or at q 0 ≡ f q

-- Element j of rows of c elements: row i is the row of r at position i of a list.
abbrev pub rows_by : List ℕ → ℕ → List ℤ → ℕ → ℤ
rows_by at c r j = get_or r (get_or at (j / c) 0 * c + j % c) (pos 0)

-- Each position is a row of a buffer of n elements, and there is just room for the rows.
pub record RowsBy (at : List ℕ) (c n m : ℕ) : Type 0 where
  pub inside : (q : ℕ) → q < length at → get_or at q 0 * c + c ≤ n
  pub room : m ≡ length at * c

-- The blocks of an axis with m rows in the result, by what stands around it.
abbrev pub blocks_of : Around → ℕ → AxisBlocks
blocks_of a m = record { outer = a.outer; taken = a.length; made = m; inner = a.inner }

-- They lie in buffers of n and of m elements.
pub record BlocksLie (b : AxisBlocks) (n m : ℕ) : Type 0 where
  pub small : small_blocks b ≡ true
  pub source : b.outer * (b.taken * b.inner) ≤ n
  pub room : b.outer * (b.made * b.inner) ≤ m
