-- What the contracts of private functions cite: 31 on the flat elements.
use Rattle.std.specs.Prelude.{ℕ, ◌+◌, ◌*◌, ◌/◌, ◌%◌, ◌≤◌, ◌<◌, ◌≡◌, List, true, false, cond, eqb, length, get_or, set, ℤ, pos, ◌-ℤ◌}
use Rattle.shape.specs.declared.Around.{Around}
use Rattle.shape.specs.Shape.{max_count, counted, count, without}
use Rattle.meaning.specs.Array.{Operand, array_of}
use Rattle.meaning.specs.Terms.{negative, within, from_zero}
use Rattle.copying.specs.Steps.{source}
use Rattle.answer.specs.Answer.{WellFormed}

-- Numbers that name positions of an axis, from an origin on.
pub record Named : Type 0 where
  pub origin : ℤ
  pub numbers : List ℤ

-- L's elements.
abbrev pub chosen_by : ℤ → Operand → Named
chosen_by G L = record { origin = G; numbers = (array_of L).elements }

-- The position that number i names.
abbrev pub position_at : Named → ℕ → ℕ
position_at p i = from_zero p.origin (get_or p.numbers i (pos 0))

-- Each number names a position of an axis of length n.
pub record Positions (p : Named) (n : ℕ) : Type 0 where
  pub inside : (i : ℕ) → i < length p.numbers → within (get_or p.numbers i (pos 0) -ℤ p.origin) n ≡ true

-- Number i names one, whatever the axis's length.
pub record Known (p : Named) (i : ℕ) : Type 0 where
  pub has : i < length p.numbers
  pub above : negative (get_or p.numbers i (pos 0) -ℤ p.origin) ≡ false

-- What is known of R and the axis k that K names where 31 refuses nothing of its own.
pub record Chosen (G K : ℤ) (R : Operand) (k : ℕ) : Type 0 where
  pub right : WellFormed R.shape R.buffer
  pub axis : k ≡ from_zero G K

-- The result's lengths, by L's rank and the count of its elements: a scalar removes axis k, a vector replaces it.
abbrev pub selected_lengths : ℕ → ℕ → ℕ → List ℕ → List ℕ
selected_lengths rank m k ns = cond (eqb rank 0) (without k ns) (set ns k m)

-- What is known of the chosen positions, the axis, R and the output buffer where nothing is refused.
pub record Chooses (p : Named) (k total : ℕ) (R : Operand) (room : ℕ) : Type 0 where
  pub has : k < R.shape.rank
  pub positions : Positions p (get_or (counted R.shape) k 0)
  pub count-is : total ≡ count (set (counted R.shape) k (length p.numbers))
  pub small : total ≤ max_count
  pub space : total ≤ room

-- The blocks around an axis lie in a buffer of m elements, and the chosen rows of each in one with some room.
pub record BlocksFit (p : Named) (a : Around) (m room : ℕ) : Type 0 where
  pub positions : Positions p a.length
  pub some : 0 < a.outer
  pub source : a.outer * (a.length * a.inner) ≤ m
  pub space : a.outer * (length p.numbers * a.inner) ≤ room

-- The chosen rows, of c elements each, lie in a block of m elements, and all of them in a buffer with some room.
pub record RowsFit (p : Named) (c m room : ℕ) : Type 0 where
  pub known : (i : ℕ) → i < length p.numbers → Known p i
  pub source : (i : ℕ) → i < length p.numbers → position_at p i * c + c ≤ m
  pub space : length p.numbers * c ≤ room

-- Element j of all blocks' chosen rows, and of one block's.
abbrev pub blocks_at : Named → Around → List ℤ → ℕ → ℤ
blocks_at p a r j = get_or r (source (length p.numbers) a.length a.inner (position_at p) j) (pos 0)

abbrev pub rows_at : Named → ℕ → List ℤ → ℕ → ℤ
rows_at p c r j = get_or r (position_at p (j / c) * c + j % c) (pos 0)
