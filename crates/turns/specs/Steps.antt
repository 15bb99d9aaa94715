-- What the contracts of private functions cite: a turn of the lines along an axis, on the flat elements.
use Rattle.std.specs.Prelude.{ℕ, ◌+◌, ◌-◌, ◌*◌, ◌/◌, ◌%◌, ◌≤◌, ◌<◌, max, ◌≡◌, List, true, get_or, ℤ, pos, ◌+ℤ◌}
use Rattle.shape.specs.declared.Shape.{Shape}
use Rattle.shape.specs.Shape.{count_of}
use Rattle.meaning.specs.Array.{good_form}
use Rattle.meaning.specs.Terms.{modulo}
use Rattle.copying.specs.Steps.{source}
use Rattle.answer.specs.Answer.{lent}
use Rattle.turns.specs.declared.Turn.{Turn}
use Rattle.turns.specs.declared.Turn.TheVariants.{Back, By}

-- The position that position i of an axis of length n takes.
unfoldable pub turn_position : Turn → ℕ → ℕ → ℕ
turn_position Back n i = n - 1 - i
turn_position (By z) n i = modulo (pos i +ℤ z) n

-- What is known of an operand, its axis and the output buffer where nothing is refused.
pub record Turns (s : Shape) (axis total : ℕ) (r : List ℤ) (room : ℕ) : Type 0 where
  pub form : good_form (lent s r) ≡ true
  pub count-is : total ≡ count_of s
  pub space : total ≤ room
  pub has : axis < max 1 s.rank

-- Blocks of so many elements lie in a buffer of m elements, and in one with some room.
pub record Lie (outer size m room : ℕ) : Type 0 where
  pub some : 0 < outer
  pub source : outer * size ≤ m
  pub space : outer * size ≤ room

-- Element j of blocks of n rows of c elements, turned.
abbrev pub turned_at : Turn → List ℤ → ℕ → ℕ → ℕ → ℤ
turned_at turn r n c j = get_or r (source n n c (turn_position turn n) j) (pos 0)

-- Element j of a block of n rows backwards.
abbrev pub back_at : List ℤ → ℕ → ℕ → ℕ → ℤ
back_at r n c j = get_or r ((n - 1 - j / c) * c + j % c) (pos 0)

-- Element j of blocks, each cut and its two parts exchanged.
abbrev pub cut_blocks : List ℤ → ℕ → ℕ → ℕ → ℤ
cut_blocks r size cut j = get_or r (j / size * size + (j % size + cut) % size) (pos 0)

-- A group of blocks is shifted down by what stands before the cut, or up by what stands from it on; that part of a block is then brought by itself.
pub data Shifts (size from to before after : ℕ) : Type 0 where
  down : to ≡ 0 → before ≡ 0 → from + after ≡ size → Shifts size from to before after
  up : from ≡ 0 → after ≡ 0 → to + before ≡ size → Shifts size from to before after
