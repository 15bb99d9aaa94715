-- A transposition by strides: how far apart in R the elements stand that are neighbours along an axis of the result.
use Rattle.std.specs.Prelude.{ℕ, ◌+◌, ◌*◌, ◌<◌, ◌≡◌, List, [], ◌∷◌, length, get_or, set, replicate, ℤ, pos}
use Rattle.shape.specs.Shape.{count}
use Rattle.shape.specs.Place.{place}
use Rattle.meaning.specs.Array.{tab}

-- A place's positions times the strides, added up.
unfoldable pub dot : List ℕ → List ℕ → ℕ
dot [] ws = 0
dot (i ∷ p) [] = 0
dot (i ∷ p) (w ∷ ws) = i * w + dot p ws

-- The strides of lengths in their order row by row.
unfoldable pub strides : List ℕ → List ℕ
strides [] = []
strides (n ∷ ns) = count ns ∷ strides ns

-- Axes with the strides ws go to the axes ts of r: those sent together add up.
unfoldable pub sent_strides : ℕ → List ℕ → List ℕ → List ℕ
sent_strides r [] ws = replicate r 0
sent_strides r (t ∷ ts) [] = replicate r 0
sent_strides r (t ∷ ts) (w ∷ ws) = set (sent_strides r ts ws) t (get_or (sent_strides r ts ws) t 0 + w)

-- n elements that stand w apart, from the first on, lie in m elements.
abbrev pub LineIn : ℕ → ℕ → ℕ → Type 0
LineIn n w m = (i : ℕ) → i < n → i * w < m

-- n elements of r that stand w apart, from the first on.
unfoldable pub strided : ℕ → ℕ → List ℤ → List ℤ
strided n w r = tab n (λ i. get_or r (i * w) (pos 0))

-- The elements of r, place by place of some lengths, by strides.
unfoldable pub walked : List ℕ → List ℕ → List ℤ → List ℤ
walked ns ws r = tab (count ns) (λ j. get_or r (dot (place ns j) ws) (pos 0))

-- Such a walk over m elements into a buffer of its count, which is not 0.
pub record Walk (ns ws : List ℕ) (m room : ℕ) : Type 0 where
  pub axes : length ws ≡ length ns
  pub some : 0 < room
  pub whole : room ≡ count ns
  pub reach : (j : ℕ) → j < room → dot (place ns j) ws < m
