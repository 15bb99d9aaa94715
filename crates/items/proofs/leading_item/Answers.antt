use Rattle.std.proofs.Common.{arith, ◌≡◌, ◌∙◌, List, length, ◌+◌, ◌≤◌, ℤ}
use mathlib.Core.Path.{ap, ap₂}
use native.Mathlib.Nat.{add-sub_cancel_left}
use mir.Syntax.{w32}
use mir.Val.{SFits, to_z, of_z}
use Rattle.shape.specs.declared.Shape.{Shape}
use Rattle.signed.proofs.Reading.{read32}
use Rattle.meaning.specs.Array.{Operand}
use Rattle.meaning.specs.Item.{leading_item}
use Rattle.answer.specs.Answer.{lent}
use Rattle.items.specs.declared.Part.{Part}
use Rattle.items.specs.Part.{part_in, item_part}
use Rattle.items.proofs.Given.{part-elements, part-inside}
use Rattle.items.proofs.leading_item.Goals as goal

-- The part of an operand, of numbers read from locals, as the operand is seen.
module _ (R : Operand) (G i : ℤ) (f : SFits w32 G) (h : SFits w32 i) (p : Part) (e : p ≡ item_part R (to_z w32 (of_z w32 G)) (to_z w32 (of_z w32 i)))
    (s : Shape) (b : List ℤ) (v : lent s b ≡ R) where
  part-is : p ≡ item_part R G i
  part-is = e ∙ ap₂ (item_part R) (read32 G f) (read32 i h)

  inside : p.start + p.length ≤ length b
  inside = rw (part-is, ap (λ (o : Operand). length o.buffer) v) (part-inside R G i)

  item-is : part_in p b ≡ (leading_item R G i).part
  item-is = ap₂ (λ (x : Part) (o : Operand). part_in x o.buffer) part-is v ∙ part-elements R G i

pub overflow_add-result : goal.overflow_add-result
overflow_add-result c = omega (arith, inside _ _ _ c.ranges.g c.ranges.i _ c.leading_part-part.ensures _ _ c.r.view_is, c.r.told)

pub offset_bounds-r-inside-part : goal.offset_bounds-r-inside-part
offset_bounds-r-inside-part c = omega (arith, inside _ _ _ c.ranges.g c.ranges.i _ c.leading_part-part.ensures _ _ c.r.view_is, c.r.told)

pub slice_bounds-result-end : goal.slice_bounds-result-end
slice_bounds-result-end c = omega (arith, inside _ _ _ c.ranges.g c.ranges.i _ c.leading_part-part.ensures _ _ c.r.view_is, c.r.told)

pub returns : goal.returns
returns c = rw add-sub_cancel_left (item-is _ _ _ c.ranges.g c.ranges.i _ c.leading_part-part.ensures _ _ c.r.view_is)
