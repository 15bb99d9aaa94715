-- The first axis, and the lengths without it.
use mathlib.Core.Path.{◌≡◌, refl, ap}
use mathlib.Core.List.{List, [], ◌∷◌}
use Prim.Native.Nat.{ℕ, ◌+◌, ◌*◌, ◌≤◌, ◌<◌}
use native.Mathlib.Omega.{arith}
use borrow.Author.Tests.{le-leb, lt-ltb}
use lib.ListN.{length, get_or, drop}
use Rattle.shape.specs.declared.Shape.{Shape}
use Rattle.shape.specs.Shape.{max_rank, max_count, counted, count, around_of, without}
use Rattle.shape.specs.Place.{index, place}
use Rattle.shape.proofs.Places.{index-place}
use Rattle.meaning.specs.Terms.{put_in}

without-first : (ns : List ℕ) → without 0 ns ≡ drop 1 ns
unfolding without
without-first [] = refl
without-first (n ∷ ns) = refl

-- The count is the first length times the count of an item.
pub count-first : (ns : List ℕ) → 0 < length ns → count ns ≡ get_or ns 0 0 * count (without 0 ns)
unfolding count without
count-first [] h = absurd (omega arith)
count-first (n ∷ ns) h = refl

-- The items stand after each other, each row by row.
pub index-first : (ns : List ℕ) (i j : ℕ) → 0 < length ns → j < count (without 0 ns)
    → index ns (put_in 0 i (place (without 0 ns) j)) ≡ i * count (without 0 ns) + j
unfolding index without put_in
index-first [] i j h l = absurd (omega arith)
index-first (n ∷ ns) i j h l = ap (λ x. i * count ns + x) (index-place ns j l)

-- What stands after the first axis.
pub first_inner : (s : Shape) → s.rank ≤ max_rank → 0 < s.rank → count (without 0 (counted s)) ≤ max_count
    → (around_of s 0).inner ≡ count (without 0 (counted s))
unfolding around_of
first_inner s h l k =
    let e : count (without 0 (counted s)) ≡ count (drop 1 (counted s)) = ap count (without-first (counted s)) in
    rw (le-leb s.rank max_rank h, lt-ltb 0 s.rank l) (omega arith)
