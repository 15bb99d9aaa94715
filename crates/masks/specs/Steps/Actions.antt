-- What a mask l does to an axis of length n: 27 keeps the positions at its ones, 28 puts the positions in order to its ones. Which of them it is, a
-- Bool says: `expands`.
use Rattle.std.specs.Prelude.{ℕ, ◌≤◌, ◌<◌, ◌≡◌, List, [], ◌∷◌, Bool, true, false, cond, ◌||◌, length, get_or, set, take, replicate, eqb, ℤ, pos}
use Rattle.shape.specs.declared.Shape.{Shape}
use Rattle.shape.specs.Shape.{max_count, counted, count, shape_of}
use Rattle.meaning.specs.Array.{Array, good_form}
use Rattle.meaning.specs.Refusal.{Rule, ◌unless◌}
use Rattle.meaning.specs.Refusal.Refusal.{LENGTH, DOMAIN}
use Rattle.meaning.specs.Terms.{axis, along, every, is_bit, int_same, ones}
use Rattle.meaning.specs.Primitives.{Meaning, compress, expand}
use Rattle.answer.specs.Answer.{lent}

abbrev pub action_number : Bool → ℕ
action_number false = 27
action_number true = 28

unfoldable pub masking : Bool → ℤ → ℤ → Array → Array → Meaning
masking false G K L R = compress G K L R
masking true G K L R = expand G K L R

-- A scalar R is read as a vector of one: its shape. Only 28 repeats its element.
unfoldable pub vector_shape : Shape → Shape
vector_shape s = cond (eqb s.rank 0) (shape_of (1 ∷ [])) s

abbrev pub repeats : Bool → ℕ → Bool
repeats false rank = false
repeats true rank = eqb rank 0

-- Whether the mask fits the axis, and what it can meet: which of the two wins, `precedence` says.
unfoldable pub mask_fits : Bool → Bool → List ℤ → ℕ → Bool
mask_fits false repeated l n = eqb (length l) 1 || eqb n 1 || eqb (length l) n
mask_fits true repeated l n = repeated || eqb (length (ones l)) n

abbrev pub mask_rules : Bool → Bool → List ℤ → ℕ → List Rule
mask_rules expands repeated l n = LENGTH unless mask_fits expands repeated l n ∷ DOMAIN unless every is_bit l ∷ []

-- In 27 one element serves the whole axis.
unfoldable pub mask_of : Bool → List ℤ → ℕ → List ℤ
mask_of false l n = cond (eqb (length l) 1) (replicate n (get_or l 0 (pos 0))) l
mask_of true l n = l

-- A mask with an element for each position: whether it suits the axis, how many positions the result has, whether position i of the result
-- takes a position of R, and which.
unfoldable pub suits : Bool → List ℤ → ℕ → Bool
suits false mask n = eqb n 1 || eqb (length mask) n
suits true mask n = eqb (length (ones mask)) n

unfoldable pub width : Bool → List ℤ → ℕ
width false mask = length (ones mask)
width true mask = length mask

abbrev pub one_at : List ℤ → ℕ → Bool
one_at mask i = int_same (get_or mask i (pos 0)) (pos 1)

unfoldable pub takes_at : Bool → List ℤ → ℕ → Bool
takes_at false mask i = true
takes_at true mask i = one_at mask i

unfoldable pub taken : Bool → List ℤ → ℕ → ℕ → ℕ
taken false mask n i = cond (eqb n 1) 0 (get_or (ones mask) i 0)
taken true mask n i = length (ones (take i mask))

-- The element at a place of the result.
abbrev pub mask_element : Bool → Bool → List ℤ → Array → ℕ → List ℕ → ℤ
mask_element expands repeated l a k p =
    cond (takes_at expands (mask_of expands l (axis a k)) (get_or p k 0))
    (along a k (λ i. cond repeated 0 (taken expands (mask_of expands l (axis a k)) (axis a k) i)) p) (pos 0)

-- What is known of an operand, its axis and the mask where nothing is refused: the result has m positions on the axis, `total` elements in all.
pub record Masked (expands : Bool) (repeated : Bool) (l : List ℤ) (s : Shape) (axis m total : ℕ) (r : List ℤ) (room : ℕ) : Type 0 where
  pub form : good_form (lent s r) ≡ true
  pub has : axis < s.rank
  pub whole : count (set (counted s) axis m) ≡ total
  pub small : total ≤ max_count
  pub space : total ≤ room
  pub wide : m ≡ width expands (mask_of expands l (get_or (counted s) axis 0))
  pub fitting : repeated ≡ false → suits expands (mask_of expands l (get_or (counted s) axis 0)) (get_or (counted s) axis 0) ≡ true
  pub alone : repeated ≡ true → (expands ≡ true) × (counted s ≡ 1 ∷ [])
