-- Paper 01, "The array": a place, the order row by row, and a place's successor.
use Rattle.std.specs.Prelude.{ℕ, suc, ◌+◌, ◌*◌, ◌-◌, ◌/◌, ◌%◌, List, [], ◌∷◌, ◌++◌, Bool, true, false, not, cond, ◌&&◌, length, take, replicate, ltb}
use Rattle.shape.specs.declared.Shape.{Shape}
use Rattle.shape.specs.declared.Place.{Place}
use Rattle.shape.specs.Shape.{max_rank, counted, count, good_shape}

-- A place lies in a shape if it has one position for each axis, below the axis's length.
unfoldable pub inside : List ℕ → List ℕ → Bool
inside [] [] = true
inside [] (i ∷ p) = false
inside (n ∷ ns) [] = false
inside (n ∷ ns) (i ∷ p) = ltb i n && inside ns p

-- The order is row by row, the last axis fastest: where a place stands in it, and which place stands at j.
unfoldable pub index : List ℕ → List ℕ → ℕ
index [] p = 0
index (n ∷ ns) [] = 0
index (n ∷ ns) (i ∷ p) = i * count ns + index ns p

unfoldable pub place : List ℕ → ℕ → List ℕ
place [] j = []
place (n ∷ ns) j = j / count ns ∷ place ns (j % count ns)

-- The all-zero place marked as the end.
abbrev pub end_place : Place
end_place = record { positions = replicate max_rank 0; end = true }

-- A place that is given back: its positions past the rank are 0.
abbrev pub place_at : List ℕ → Place
place_at p = record { positions = p ++ replicate (max_rank - length p) 0; end = false }

-- The place that stands next, where p is a place of the shape, not marked, and not the last; else the end.
-- Positions past the rank are not read.
unfoldable pub successor : Place → Shape → Place
successor p s =
    let at : List ℕ = take s.rank p.positions in
    let next : ℕ = suc (index (counted s) at) in
    cond
    (not p.end && (good_shape s && (inside (counted s) at && ltb next (count (counted s)))))
    (place_at (place (counted s) next))
    end_place
