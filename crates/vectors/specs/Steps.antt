-- What the contracts of private functions cite: elements that are repeated, lengths as elements, and a shape made of lengths.
use Rattle.std.specs.Prelude.{ℕ, ◌%◌, List, length, get_or, ℤ, pos, cond, leb, Result, Ok, Err}
use Rattle.shape.specs.declared.Shape.{Shape}
use Rattle.shape.specs.Shape.{max_rank, shape_of}
use Rattle.answer.specs.declared.refusal.Refusal as code
use Rattle.answer.specs.declared.refusal.Refusal.TheVariants as coded

-- Some elements again and again: element j of them, 0 where there are none.
unfoldable pub cycled : List ℤ → ℕ → ℤ
cycled xs j = get_or xs (j % length xs) (pos 0)

-- A length as an element; 0 for one that is too large to be an element.
abbrev pub element_of : ℕ → ℤ
element_of n = cond (leb n 2147483647) (pos n) (pos 0)

-- The shape of some lengths, and LIMIT for more of them than a shape has.
abbrev pub shape_or_limit : List ℕ → Result Shape code.Refusal
shape_or_limit ns = cond (leb (length ns) max_rank) (Ok (shape_of ns)) (Err coded.Limit)
