-- The leading item as a part of R's buffer: where it starts and how many elements it has. So C gets it, and not as a slice.
use Rattle.std.specs.Prelude.{ℕ, zero, suc, ◌*◌, List, take, drop, ℤ}
use Rattle.shape.specs.Shape.{count}
use Rattle.meaning.specs.Array.{Operand}
use Rattle.meaning.specs.Terms.{from_zero}
use Rattle.meaning.specs.Item.{item_refusal, item_lengths}
use Rattle.items.specs.declared.Part.{Part}

-- The elements of a part.
abbrev pub part_in : Part → List ℤ → List ℤ
part_in p b = take p.length (drop p.start b)

-- An empty part at the front for a refusal.
unfoldable pub settle_part : ℕ → ℕ → ℕ → Part
settle_part zero i size = record { start = i * size; length = size }
settle_part (suc n) i size = record { start = 0; length = 0 }

-- The leading item's part.
unfoldable pub item_part : Operand → ℤ → ℤ → Part
item_part R G i = settle_part (item_refusal R G i) (from_zero G i) (count (item_lengths R))
