-- What the private functions' contracts cite: what is left of a line, and what was taken from it.
use Rattle.std.specs.Prelude.{◌≡◌, ℕ, Bool, List, [], take, ℤ, Option, Some, None}
use Rattle.std.specs.Borrow.{Bor}
use Rattle.std.proofs.Math.Option as maybe
use Rattle.shape.specs.declared.Shape.{Shape}
use Rattle.shape.specs.Shape.{count, counted}
use Rattle.meaning.specs.Array.{Array}
use Rattle.sheet_line.specs.declared.Head as Found
use Rattle.sheet_line.specs.Numbers.{and_then, Begun, ended, numbers}
use Rattle.sheet_line.specs.Call.{Reader, give, Head}

-- The numbers that are left of a line; none are after the last number.
abbrev pub left : Option (Bor (List ℕ)) → maybe.Option (List ℤ)
left None = maybe.some []
left (Some bytes) = numbers bytes.now

-- What the code has found.
abbrev pub found : {A : Type 0} → Option A → maybe.Option A
found None = maybe.none
found (Some a) = maybe.some a

-- What it has taken: a value, and the rest is read from what is left.
abbrev pub with_rest : {A : Type 0} → maybe.Option (List ℤ) → Option A → maybe.Option (A × List ℤ)
with_rest after None = maybe.none
with_rest after (Some a) = and_then after (give a)

-- The same of a magnitude: with its sign it makes a number, where it fits.
abbrev pub with_sign : Bool → maybe.Option (List ℤ) → Option ℕ → maybe.Option (ℤ × List ℤ)
with_sign negative after r = and_then (found r) (λ n. and_then (ended (Begun.magnitude negative n)) (λ z. and_then after (give z)))

-- To read p from what was left before is to take this.
pub record Takes {A : Type 0} (p : Reader A) (before after : maybe.Option (List ℤ)) (r : Option A) : Type 0 where
  pub is : and_then before p ≡ with_rest after r

abbrev pub head_of : Found.Head → Head
head_of h = record { primitive = h.primitive; origin = h.origin; k = h.k }

-- The array that a shape and a buffer hold.
abbrev pub held_in : List ℤ → Shape → Array
held_in buffer s = record { lengths = counted s; elements = take (count (counted s)) buffer }
