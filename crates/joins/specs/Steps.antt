-- What the contracts of private functions cite: 22 on the flat lists of its operands.
use Rattle.std.specs.Prelude.{ℕ, suc, ◌+◌, ◌-◌, ◌*◌, ◌/◌, ◌%◌, ◌≤◌, ◌<◌, ◌≡◌, List, [], ◌∷◌, Bool, cond, ◌&&◌, length, get_or, set, drop, eqb, leb, ltb, ℤ, pos}
use Rattle.shape.specs.declared.Shape.{Shape}
use Rattle.shape.specs.Shape.{max_count, counted, count, shape_of, without}
use Rattle.meaning.specs.Array.{Operand, Array}
use Rattle.meaning.specs.Terms.{from_zero, same_lengths}
use Rattle.meaning.specs.Primitives.{side}
use Rattle.meaning.specs.Steps.{side_at}
use Rattle.answer.specs.Answer.{WellFormed}

-- The shape of the higher rank; two scalars as vectors of one.
abbrev pub higher_shape : Shape → Shape → Shape
higher_shape ls rs = cond (ltb ls.rank rs.rank) rs (cond (eqb ls.rank 0) (shape_of (1 ∷ [])) ls)

-- What two operands of good form are joined along: the higher shape and the axis that K names.
pub record Joins (G K : ℤ) (L R : Operand) (hs : Shape) (k : ℕ) : Type 0 where
  pub left : WellFormed L.shape L.buffer
  pub right : WellFormed R.shape R.buffer
  pub higher : hs ≡ higher_shape L.shape R.shape
  pub axis : k ≡ from_zero G K

-- The length that an operand counts as along axis k, beside the higher rank.
abbrev pub extent_of : Shape → ℕ → ℕ → ℕ
extent_of s rank k = cond (eqb s.rank rank) (get_or s.lens k 0) 1

-- The test of an operand's other lengths.
abbrev pub agree : List ℕ → ℕ → Array → Bool
agree ns k a = same_lengths (side ns k a).others (without k ns)

-- What an operand gives along an axis or to each block: so many of its positions or elements, or a scalar's one so often.
pub record Given : Type 0 where
  pub scalar : Bool
  pub width : ℕ
  pub elements : List ℤ

-- Along axis k, beside the higher rank.
abbrev pub run_of : ℕ → ℕ → Operand → Given
run_of rank k o = record { scalar = eqb o.shape.rank 0; width = extent_of o.shape rank k; elements = o.buffer }

-- And to each block, where c elements stand after a position.
abbrev pub widened : ℕ → Given → Given
widened c a = record { scalar = a.scalar; width = a.width * c; elements = a.elements }

-- As many elements as are read of an operand that gives n.
abbrev pub sized : Bool → ℕ → ℕ
sized scalar n = cond scalar 1 n

-- The run of block o lies in the operand.
pub record RunFits (a : Given) (o : ℕ) : Type 0 where
  pub small : o * a.width + a.width ≤ max_count
  pub has : sized a.scalar (o * a.width + a.width) ≤ length a.elements

-- The runs of so many blocks lie in the operand, and the blocks, with the runs from `first` on, in a buffer with some room.
pub record RunsFit (a : Given) (first size outer room : ℕ) : Type 0 where
  pub some : 0 < outer
  pub within : first + a.width ≤ size
  pub small : outer * size ≤ max_count
  pub space : outer * size ≤ room
  pub has : sized a.scalar (outer * a.width) ≤ length a.elements

-- Element j of blocks of so many elements, where each has an operand's run from `first` on, and a buffer has the others.
abbrev pub runs_at : Given → ℕ → ℕ → List ℤ → ℕ → ℤ
runs_at a first size out j =
    cond (leb first (j % size) && ltb (j % size) (first + a.width)) (side_at a.scalar a.elements (j / size * a.width + (j % size - first)))
    (get_or out j (pos 0))

-- Element j of blocks that have v elements of f and then w of g.
abbrev pub joined_at : ℕ → ℕ → (ℕ → ℤ) → (ℕ → ℤ) → ℕ → ℤ
joined_at v w f g j = cond (ltb (j % (v + w)) v) (f (j / (v + w) * v + j % (v + w))) (g (j / (v + w) * w + (j % (v + w) - v)))

-- The same of two operands' runs.
abbrev pub joined : Given → Given → ℕ → ℤ
joined a b = joined_at a.width b.width (side_at a.scalar a.elements) (side_at b.scalar b.elements)

-- The same of what two operands give along axis k of the higher shape.
abbrev pub joined_along : Shape → ℕ → Given → Given → ℕ → ℤ
joined_along hs k a b = joined (widened (count (drop (suc k) (counted hs))) a) (widened (count (drop (suc k) (counted hs))) b)

-- An operand has the elements that it gives.
abbrev pub Gives : Given → Shape → ℕ → Type 0
Gives a hs k = sized a.scalar (count (set (counted hs) k a.width)) ≤ length a.elements

-- What is known of the operands and the output buffer where nothing is refused.
pub record Joinable (a b : Given) (hs : Shape) (k total room : ℕ) : Type 0 where
  pub count-is : total ≡ count (set (counted hs) k (a.width + b.width))
  pub small : total ≤ max_count
  pub space : total ≤ room
  pub left : Gives a hs k
  pub right : Gives b hs k
