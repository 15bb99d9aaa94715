-- Paper 01, "The array": the shape.
use Rattle.std.specs.Prelude.{ℕ, zero, suc, ◌*◌, ◌-◌, min, List, [], ◌∷◌, ◌++◌, Bool, true, cond, ◌&&◌, length, take, drop, get_or, set, replicate, leb, ltb}
use Rattle.shape.specs.declared.Shape.{Shape}
use Rattle.shape.specs.declared.Around.{Around}

-- The limits belong to the shape and are named here once: the largest rank, and the largest length and count.
abbrev pub max_rank : ℕ
max_rank = 8

abbrev pub max_count : ℕ
max_count = 16384

-- Only the first rank lengths count.
abbrev pub counted : Shape → List ℕ
counted s = take s.rank s.lens

-- The count is the product of the lengths, 1 for rank 0.
unfoldable pub count : List ℕ → ℕ
count [] = 1
count (n ∷ ns) = n * count ns

-- No length is above the limit.
unfoldable pub small : List ℕ → Bool
small [] = true
small (n ∷ ns) = leb n max_count && small ns

-- The shape rule, of a rank and its lengths.
unfoldable pub shape_rule : ℕ → List ℕ → Bool
shape_rule rank ns = leb rank max_rank && (small ns && leb (count ns) max_count)

-- A good shape keeps the shape rule; every other is a bad one.
abbrev pub good_shape : Shape → Bool
good_shape s = shape_rule s.rank (counted s)

-- The count of a good shape, and one more than the largest count for a bad one.
unfoldable pub count_of : Shape → ℕ
count_of s = cond (good_shape s) (count (counted s)) (suc max_count)

-- In a result the lengths past the rank are 0.
abbrev pub shape_of : List ℕ → Shape
shape_of ns = record { rank = length ns; lens = ns ++ replicate (max_rank - length ns) 0 }

-- Rank 0 is a scalar.
abbrev pub scalar : Shape
scalar = shape_of []

-- The shape of the first rank of some lengths, and the scalar where the rank is above the limit.
abbrev pub made_of : ℕ → List ℕ → Shape
made_of rank ns = cond (leb rank max_rank) (shape_of (take rank ns)) scalar

-- The shape with another length of axis k, and the scalar where there is no such axis.
unfoldable pub with_length : Shape → ℕ → ℕ → Shape
with_length s k n = cond (leb s.rank max_rank && ltb k s.rank) (shape_of (set (counted s) k n)) scalar

-- Lengths, or a place, without axis k.
unfoldable pub without : ℕ → List ℕ → List ℕ
without k [] = []
without zero (n ∷ ns) = ns
without (suc k) (n ∷ ns) = n ∷ without k ns

-- The shape without axis k, and the scalar where there is no such axis.
unfoldable pub without_axis : Shape → ℕ → Shape
without_axis s k = cond (leb s.rank max_rank && ltb k s.rank) (shape_of (without k (counted s))) scalar

-- What stands around axis k: the count of the axes before it, its length, and the count of the axes after it.
-- A count above the limit, as lengths beside a zero may have, is held one above it. Where there is no such axis all are 0.
abbrev pub held : ℕ → ℕ
held n = min n (suc max_count)

unfoldable pub around_of : Shape → ℕ → Around
around_of s k =
    cond
    (leb s.rank max_rank && ltb k s.rank)
    (record { outer = held (count (take k (counted s))); length = get_or (counted s) k 0; inner = held (count (drop (suc k) (counted s))) })
    (record { outer = 0; length = 0; inner = 0 })
