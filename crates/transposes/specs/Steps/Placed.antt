-- Elements of R written to a buffer place by place, in whatever order.
use Rattle.std.specs.Prelude.{ℕ, ◌+◌, ◌*◌, ◌<◌, ◌≡◌, List, [], ◌∷◌, length, get_or, ℤ, pos}
use Rattle.shape.specs.Shape.{count}
use Rattle.transposes.specs.declared.Axis.{Axis}

-- A place along axes, by how far it stands from their first: d elements of R, and e of the result.
pub data Spot : List Axis → ℕ → ℕ → Type 0 where
  here : {d e : ℕ} → d ≡ 0 → e ≡ 0 → Spot [] d e
  further : {a : Axis} {rest : List Axis} {d e : ℕ} (i c f : ℕ) → i < a.length → Spot rest c f → d ≡ i * a.stride + c → e ≡ i * a.step + f
      → Spot (a ∷ rest) d e

-- There are such places, and all lie in r's m elements, and in a buffer of some room.
pub record Reach (axes : List Axis) (m room : ℕ) : Type 0 where
  pub some : (d : ℕ) × (e : ℕ) × Spot axes d e
  pub lie : (d e : ℕ) → Spot axes d e → (d < m) × (e < room)

-- T has r's elements at their places.
abbrev pub Wanted : List Axis → List ℤ → List ℤ → Type 0
Wanted axes r T = (d e : ℕ) → Spot axes d e → get_or T e (pos 0) ≡ get_or r d (pos 0)

-- The buffer agrees with T at the places.
abbrev pub Agrees : List Axis → List ℤ → List ℤ → Type 0
Agrees axes T out = (d e : ℕ) → Spot axes d e → get_or out e (pos 0) ≡ get_or T e (pos 0)

-- The buffer agrees with T wherever it did before.
abbrev pub Kept : List ℤ → List ℤ → List ℤ → Type 0
Kept T out last = (q : ℕ) → get_or out q (pos 0) ≡ get_or T q (pos 0) → get_or last q (pos 0) ≡ get_or T q (pos 0)

-- r's elements are at their places and nothing else has changed, said without their order: the buffer agrees with every T that has them
-- there, at their places and wherever it did before.
pub record Placed (axes : List Axis) (r out last : List ℤ) : Type 0 where
  pub room : length last ≡ length out
  pub each : (T : List ℤ) → Wanted axes r T → Kept T out last × Agrees axes T last

-- Axes of lengths ns and strides ws that stand row by row in the buffer.
unfoldable pub row_axes : List ℕ → List ℕ → List Axis
row_axes [] ws = []
row_axes (n ∷ ns) [] = []
row_axes (n ∷ ns) (w ∷ ws) = record { length = n; stride = w; step = count ns } ∷ row_axes ns ws

-- What blocks along an axis and others need, which have `size` places.
pub record Blocked (near : Axis) (ns ws : List ℕ) (size m room : ℕ) : Type 0 where
  pub axes : length ws ≡ length ns
  pub some : 0 < length ns
  pub size_is : size ≡ count ns
  pub reach : Reach (near ∷ row_axes ns ws) m room
