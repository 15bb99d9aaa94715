-- Paper 01, "The words of demand 3".
use Rattle.std.specs.Prelude.{ℕ, ◌+◌, ◌≤◌, ◌<◌, ◌≡◌, List, [], ◌∷◌, map, true, cond, length, get_or, ℤ, pos, ◌+ℤ◌, ◌-ℤ◌}
use Rattle.shape.specs.Shape.{max_rank, counted, count}
use Rattle.meaning.specs.Array.{Operand, array_of, good_form}
use Rattle.meaning.specs.Terms.{rank, is_list, is_single, as_vector, int_same, within}
use Rattle.meaning.specs.Primitives.{backwards}
use Rattle.meaning.specs.Reply.{Reply, is_origin, meaning_of}

-- An array there is a good shape with a buffer that is not shorter than its count. (A shape has a length for each of max_rank axes.)
pub record IsArray (r : Operand) : Type 0 where
  pub lengths : length r.shape.lens ≡ max_rank
  pub form : good_form r ≡ true

-- G is 0 or 1.
abbrev pub IsOrigin : ℤ → Type 0
IsOrigin G = is_origin G ≡ true

-- An axis is a K with k from 0 to rank - 1.
abbrev pub IsAxis : ℤ → ℤ → Operand → Type 0
IsAxis G K r = within (K -ℤ G) (rank (array_of r)) ≡ true

-- Under 14 and 25 a scalar has the axis K = G.
abbrev pub IsTurnAxis : ℤ → ℤ → Operand → Type 0
IsTurnAxis G K r = within (K -ℤ G) (rank (as_vector (array_of r))) ≡ true

-- An output buffer is long enough if it has room for the result's count.
abbrev pub IsLong : ℤ → ℤ → ℤ → Operand → Operand → List ℤ → Type 0
IsLong n G K L R out = count (meaning_of n G K L R).lengths ≤ length out

-- A call that follows another takes the shape and elements that the other gave. Buffers are values here, so no later call writes them.
abbrev pub given : Reply → Operand
given a = record { shape = a.shape; buffer = a.out }

-- To succeed is to answer 0.
abbrev pub Succeeds : Reply → Type 0
Succeeds a = a.number ≡ 0

-- Two results are the same if rank, counted lengths and the first count elements in their order are equal.
pub record Same (a b : Operand) : Type 0 where
  pub rank : a.shape.rank ≡ b.shape.rank
  pub lengths : counted a.shape ≡ counted b.shape
  pub elements : (array_of a).elements ≡ (array_of b).elements

-- An operand that is a list of these elements.
pub record Lists (l : Operand) (xs : List ℤ) : Type 0 where
  pub form : good_form l ≡ true
  pub list : is_list (array_of l) ≡ true
  pub elements : (array_of l).elements ≡ xs

-- A single, a scalar or a vector of one element, whose element is a.
pub record IsSingle (l : Operand) (a : ℤ) : Type 0 where
  pub form : good_form l ≡ true
  pub single : is_single (array_of l) ≡ true
  pub element : get_or (array_of l).elements 0 (pos 0) ≡ a

-- ts has nothing but each of 0 to r - 1, once.
pub record Permutes (r : ℕ) (ts : List ℕ) : Type 0 where
  pub size : length ts ≡ r
  pub below : (i : ℕ) → i < r → get_or ts i 0 < r
  pub each : (j : ℕ) → j < r → (i : ℕ) × (i < r) × (get_or ts i 0 ≡ j)
  pub once : (i j : ℕ) → i < r → j < r → get_or ts i 0 ≡ get_or ts j 0 → i ≡ j

-- L sends axis i to its element i less G.
abbrev pub Sends : ℤ → Operand → List ℕ → Type 0
Sends G l ts = Lists l (map (λ t. G +ℤ pos t) ts)

-- A transposition that permutes all axes of an array of rank r is 26 whose L is such a list, or 15 (where L is not looked at).
pub data Transposition (G : ℤ) (r : ℕ) : Type 0 where
  by15 : Operand → Transposition G r
  by26 : (l : Operand) (ts : List ℕ) → Sends G l ts → Permutes r ts → Transposition G r

module _ {G : ℤ} {r : ℕ} where
  -- The call's number.
  abbrev pub primitive_of : Transposition G r → ℤ
  primitive_of (by15 l) = pos 15
  primitive_of (by26 l ts s p) = pos 26

  -- Its L.
  abbrev pub left_operand_of : Transposition G r → Operand
  left_operand_of (by15 l) = l
  left_operand_of (by26 l ts s p) = l

  -- Where it sends each axis; 15 sends axis i to rank - 1 - i.
  abbrev pub axes_of : Transposition G r → List ℕ
  axes_of (by15 l) = backwards r
  axes_of (by26 l ts s p) = ts

-- Element i is the axis to which us sends the axis to which ts sends i.
unfoldable pub sent_on : List ℕ → List ℕ → List ℕ
sent_on ts us = map (λ t. get_or us t 0) ts

-- How many elements of a list, one for each place of an array, are x.
unfoldable pub occurs : ℤ → List ℤ → ℕ
occurs x [] = 0
occurs x (y ∷ ys) = cond (int_same x y) 1 0 + occurs x ys

-- As often: as many places of a hold each number as places of b.
abbrev pub AsOften : Operand → Operand → Type 0
AsOften a b = (x : ℤ) → occurs x (array_of a).elements ≡ occurs x (array_of b).elements
