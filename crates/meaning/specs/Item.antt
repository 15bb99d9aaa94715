-- Paper 01: the leading item and its sister call.
use Rattle.std.specs.Prelude.{ℕ, zero, suc, ◌*◌, List, [], ◌∷◌, take, drop, ℤ, ◌-ℤ◌}
use Rattle.shape.specs.declared.Shape.{Shape}
use Rattle.shape.specs.Shape.{count, shape_of, scalar, without}
use Rattle.meaning.specs.Array.{Operand, array_of, good_form}
use Rattle.meaning.specs.Refusal.{◌when◌, ◌unless◌, precedence, winner}
use Rattle.meaning.specs.Refusal.Refusal.{FORM, ORIGIN, RANK, INDEX}
use Rattle.meaning.specs.Terms.{axis, is_scalar, within, from_zero}
use Rattle.meaning.specs.Reply.{is_origin}

-- Both refuse alike.
unfoldable pub item_refusal : Operand → ℤ → ℤ → ℕ
item_refusal R G i =
    winner (precedence 0)
    (FORM unless good_form R
    ∷ ORIGIN unless is_origin G
    ∷ RANK when is_scalar (array_of R)
    ∷ INDEX unless within (i -ℤ G) (axis (array_of R) 0)
    ∷ [])

-- The item's lengths are R's without the first axis; its elements are a part of the buffer.
abbrev pub item_lengths : Operand → List ℕ
item_lengths R = without 0 (array_of R).lengths

-- The number and the shape that the sister call gives, and the part; on a refusal the scalar shape and an empty part.
pub record Item : Type 0 where
  pub number : ℕ
  pub shape : Shape
  pub part : List ℤ

-- By the refusal's number; 0 gives the item.
unfoldable pub settle_item : ℕ → List ℕ → ℕ → List ℤ → Item
settle_item zero ns i buffer = record { number = 0; shape = shape_of ns; part = take (count ns) (drop (i * count ns) buffer) }
settle_item (suc n) ns i buffer = record { number = suc n; shape = scalar; part = [] }

-- Leading item: item i less G of R's first axis, and what the sister call gives of it.
unfoldable pub leading_item : Operand → ℤ → ℤ → Item
leading_item R G i = settle_item (item_refusal R G i) (item_lengths R) (from_zero G i) R.buffer
