-- Where a transposition sends R's axes.
use Rattle.std.specs.Prelude.{ℕ, ◌≤◌, ◌≡◌, List, map, Bool, true, ◌&&◌, length, take, ℤ, ◌-ℤ◌}
use Rattle.shape.specs.declared.Shape.{Shape}
use Rattle.shape.specs.Shape.{max_rank, count, shape_of}
use Rattle.meaning.specs.Array.{Operand, Array, array_of, at, build}
use Rattle.meaning.specs.Terms.{within, from_zero, every}
use Rattle.meaning.specs.Primitives.{axes_to, sent_lengths, brought_back, all_occur}

-- An operand, and the axes to which its axes go.
pub record Route : Type 0 where
  pub operand : Operand
  pub to : List ℕ

abbrev pub route : Operand → List ℕ → Route
route R ts = record { operand = R; to = ts }

-- The axes to which R's are sent, of a list as the code holds it, which may be longer.
abbrev pub sent_axes : Operand → List ℕ → List ℕ
sent_axes R to = take R.shape.rank to

-- DOMAIN of 26: each element names one of n axes, and all of 0 to the largest occur.
abbrev pub in_domain : ℤ → ℕ → List ℤ → Bool
in_domain G n xs = every (λ z. within (z -ℤ G) n) xs && all_occur (map (from_zero G) xs)

-- The elements of an array whose axes are sent to ts.
abbrev pub sent_elements : List ℕ → Array → List ℤ
sent_elements ts a = (build (sent_lengths ts a.lengths) (λ p. at a (brought_back ts p))).elements

-- R's axes go to no more axes, `axes` in all, and one goes to each.
pub record Transposes (R : Operand) (axes : ℕ) (to : List ℕ) : Type 0 where
  pub long : length to ≡ max_rank
  pub axes-are : axes ≡ axes_to (sent_axes R to)
  pub few : axes_to (sent_axes R to) ≤ R.shape.rank
  pub each : all_occur (sent_axes R to) ≡ true

-- What is known where nothing is refused: the result's shape, and that there is room for as many elements.
pub record Moves (s : Route) (shape : Shape) (room : ℕ) : Type 0 where
  pub shape_is : shape ≡ shape_of (sent_lengths s.to (array_of s.operand).lengths)
  pub room_is : room ≡ count (sent_lengths s.to (array_of s.operand).lengths)
