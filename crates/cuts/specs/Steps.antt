-- What the contracts of private functions cite: 23 and 24 by their kind, a window on each axis, and what a result holds through it.
use Rattle.std.specs.Prelude.{ℕ, ◌+◌, ◌*◌, ◌-◌, ◌/◌, ◌%◌, ◌<◌, ◌≤◌, min, ◌≡◌, List, [], ◌∷◌, Bool, false, not, cond, ◌&&◌, length, get_or, take}
use Rattle.std.specs.Prelude.{replicate, eqb, leb, ltb, ℤ, pos, nat_abs, drop, Result, Ok, Err}
use Rattle.shape.specs.Shape.{max_rank, max_count, count, shape_of}
use Rattle.shape.specs.declared.Shape.{Shape}
use Rattle.cuts.specs.declared.CutKind.{CutKind}
use Rattle.cuts.specs.declared.CutKind.TheVariants.{Take, Drop}
use Rattle.cuts.specs.declared.Window.{Window}
use Rattle.cuts.specs.declared.Axis.{Axis}
use Rattle.answer.specs.declared.refusal.Refusal as code
use Rattle.answer.specs.declared.refusal.Refusal.TheVariants as coded
use Rattle.meaning.specs.Array.{Array}
use Rattle.meaning.specs.Terms.{negative}
use Rattle.meaning.specs.Primitives.{Meaning, takes, drops}

-- 23 and 24.
abbrev pub cut_number : CutKind → ℕ
cut_number Take = 23
cut_number Drop = 24

abbrev pub cut_meaning : CutKind → Array → Array → Meaning
cut_meaning Take L R = takes L R
cut_meaning Drop L R = drops L R

-- The lengths of R, a scalar's read as ones.
abbrev pub read_lengths : Shape → List ℕ
read_lengths rs = cond (eqb rs.rank 0) (replicate max_rank 1) rs.lens

-- The result's length on an axis of length n, and whether the end of the axis is kept and not its front.
abbrev pub cut_length : CutKind → ℤ → ℕ → ℕ
cut_length Take z n = nat_abs z
cut_length Drop z n = n - nat_abs z

abbrev pub keeps_end : CutKind → ℤ → Bool
keeps_end Take z = negative z
keeps_end Drop z = not (negative z)

unfoldable pub cut_lengths : CutKind → List ℤ → List ℕ → List ℕ
cut_lengths kind [] ns = []
cut_lengths kind (z ∷ zs) [] = []
cut_lengths kind (z ∷ zs) (n ∷ ns) = cut_length kind z n ∷ cut_lengths kind zs ns

-- The shape of a result by the numbers of l, which has an axis for each; LIMIT for more of them than a shape can have.
abbrev pub cut_shape : CutKind → List ℤ → List ℕ → Result Shape code.Refusal
cut_shape kind l lens = cond (leb (length l) max_rank) (Ok (shape_of (cut_lengths kind l (take (length l) lens)))) (Err coded.Limit)

-- The window of an axis.
abbrev pub window_of : CutKind → ℤ → ℕ → Window
window_of kind z n =
    let m : ℕ = cut_length kind z n in
    record { lead = cond (keeps_end kind z) (m - n) 0; from = cond (keeps_end kind z) (n - m) 0; len = min m n; size = m }

-- Each axis: the window in elements, how many positions it has, and how many elements a position has in R and in the result.
unfoldable pub table_of : CutKind → List ℤ → List ℕ → List Axis
table_of kind [] ns = []
table_of kind (z ∷ zs) [] = []
table_of kind (z ∷ zs) (n ∷ ns) =
    let w : Window = window_of kind z n in
    let block : ℕ = count (cut_lengths kind zs ns) in
    record { start = w.lead * block; width = w.len * block; first = w.from * count ns; len = w.len; stride = count ns; block = block }
    ∷ table_of kind zs ns

-- Element j of a result whose operand is r: where the first axis's window has it, at its place in the part of r that its position has. Without an
-- axis it is a run.
unfoldable pub cut_at : List Axis → List ℤ → ℕ → ℤ
cut_at [] r j = get_or r j (pos 0)
cut_at (a ∷ rest) r j =
    cond (leb a.start j && ltb j (a.start + a.width))
    (cut_at rest (take a.stride (drop (a.first + (j - a.start) / a.block * a.stride) r)) ((j - a.start) % a.block))
    (pos 0)

-- A window that fits an operand of n elements and a result of m.
pub record Within (a : Axis) (n m : ℕ) : Type 0 where
  pub some : 0 < a.block
  pub more : 0 < a.len
  pub wide : a.width ≡ a.len * a.block
  pub room : a.start + a.width ≤ m
  pub inner : a.first + a.len * a.stride ≤ n

-- And those of the later axes fit what a position has.
abbrev pub Fitting : List Axis → ℕ → ℕ → Type 0
Fitting [] n m = n ≡ m
Fitting (a ∷ rest) n m = Within a n m × Fitting rest a.stride a.block

-- A buffer of n elements with zeros before a window and after it, and between as well unless whole rows come there.
pub record Blank (whole : Bool) (a : Axis) (n : ℕ) (out : List ℤ) : Type 0 where
  pub long : length out ≡ n
  pub before : (j : ℕ) → j < a.start → get_or out j (pos 0) ≡ pos 0
  pub after : (j : ℕ) → a.start + a.width ≤ j → j < n → get_or out j (pos 0) ≡ pos 0
  pub between : whole ≡ false → (j : ℕ) → j < n → get_or out j (pos 0) ≡ pos 0

-- What is known of a cut with elements: l has a number for each axis, lens the lengths that are read, and neither R nor the result is empty.
pub record Nonempty (kind : CutKind) (lens : List ℕ) (l : List ℤ) : Type 0 where
  pub high : length l ≤ max_rank
  pub long : length lens ≡ max_rank
  pub some : 0 < count (take (length l) lens)
  pub small : count (take (length l) lens) ≤ max_count
  pub result : 0 < count (cut_lengths kind l (take (length l) lens))
  pub limit : count (cut_lengths kind l (take (length l) lens)) ≤ max_count

-- The same of any cut: ms are the result's lengths, n and m the counts of R and of the result.
pub record Parts (kind : CutKind) (lens ms : List ℕ) (l : List ℤ) (n m : ℕ) : Type 0 where
  pub high : length l ≤ max_rank
  pub long : length lens ≡ max_rank
  pub made : ms ≡ cut_lengths kind l (take (length l) lens)
  pub source : n ≡ count (take (length l) lens)
  pub small : n ≤ max_count
  pub result : m ≡ count (cut_lengths kind l (take (length l) lens))
  pub limit : m ≤ max_count
