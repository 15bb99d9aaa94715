-- Paper 01, "The sheet program": the call that a line says.
use Rattle.std.specs.Prelude.{ℕ, zero, suc, min, true, false, cond, List, [], ◌∷◌, ◌++◌, length, drop, ℤ, pos, negsuc, nat_le}
use Rattle.std.specs.Prelude as code
use Rattle.std.proofs.Math.Option.{Option, none, some}
use Rattle.shape.specs.Shape.{max_rank, count, shape_of}
use Rattle.meaning.specs.Array.{Array}
use Rattle.sheet_line.specs.declared.Call as Read
use Rattle.sheet_line.specs.Numbers.{and_then, numbers}

infixr 4 ◌then◌
-- The longest line, in bytes, without its newline.
abbrev pub max_line : ℕ
max_line = 16384

-- The program holds so many elements for each operand: the largest length and count on a line.
abbrev pub max_held : ℕ
max_held = 1024

-- A reader takes a value off the front of a list of numbers and leaves the rest, or finds none.
abbrev pub Reader : Type 0 → Type 0
Reader A = List ℤ → Option (A × List ℤ)

-- A value, and nothing is taken.
abbrev pub give : {A : Type 0} → A → Reader A
give a zs = some (a, zs)

-- No value.
abbrev pub fail : {A : Type 0} → Reader A
fail zs = none

-- One reader and then another, which may depend on the first's value.
abbrev pub ◌then◌ : {A B : Type 0} → Reader A → (A → Reader B) → Reader B
(p then q) zs = and_then (p zs) (λ t. q t.0 t.1)

-- The next number.
abbrev pub next_number : Reader ℤ
next_number [] = none
next_number (z ∷ zs) = some (z, zs)

-- A number from 0 to m.
abbrev pub up_to : ℕ → ℤ → Reader ℕ
up_to m (pos n) = cond (nat_le n m) (give n) fail
up_to m (negsuc k) = fail

-- The next number, from 0 to m.
unfoldable pub natural : ℕ → Reader ℕ
natural m = next_number then up_to m

-- So many values, one after the other.
unfoldable pub many : {A : Type 0} → Reader A → ℕ → Reader (List A)
many p zero = give []
many p (suc n) = p then λ a. many p n then λ rest. give (a ∷ rest)

-- An operand as rank, lengths, elements, where there is room for so many elements.
unfoldable pub operand : ℕ → Reader Array
operand limit =
    natural max_rank then λ rank. many (natural max_held) rank then λ ns.
    cond (nat_le (count ns) limit) (many next_number (count ns) then λ zs. give (record { lengths = ns; elements = zs })) fail

-- Primitive, origin G and axis number K.
pub record Head : Type 0 where
  pub primitive : ℤ
  pub origin : ℤ
  pub k : ℤ

unfoldable pub head : Reader Head
head = next_number then λ n. next_number then λ G. next_number then λ K. give (record { primitive = n; origin = G; k = K })

-- A line's call.
pub record Call : Type 0 where
  pub head : Head
  pub left : Array
  pub right : Array

-- Order: primitive, origin, axis, then L and R.
unfoldable pub call : ℕ → ℕ → Reader Call
call room_l room_r =
    head then λ h. operand room_l then λ L. operand room_r then λ R.
    give (record { head = h; left = L; right = R })

-- No number is left over.
abbrev pub all_read : {A : Type 0} → A × List ℤ → Option A
all_read (a, []) = some a
all_read (a, z ∷ zs) = none

-- The call that all the numbers of a line say.
unfoldable pub call_of : ℕ → ℕ → List ℤ → Option Call
call_of room_l room_r zs = and_then (call room_l room_r zs) all_read

-- The call that a line says, where there is room for so many elements of L and of R; none, and the line is bad.
unfoldable pub line_call : ℕ → ℕ → List ℕ → Option Call
line_call room_l room_r line = cond (nat_le (length line) max_line) (and_then (numbers line) (call_of room_l room_r)) none

-- What is answered to a line: nothing to a bad one.
abbrev pub read_of : Option Call → code.Option Read.Call
read_of (some c) = code.Some (record {
  primitive = c.head.primitive;
  origin = c.head.origin;
  k = c.head.k;
  left = shape_of c.left.lengths;
  right = shape_of c.right.lengths;
})
read_of none = code.None

-- The elements of a line's operands.
abbrev pub left_of : Option Call → List ℤ
left_of (some c) = c.left.elements
left_of none = []

abbrev pub right_of : Option Call → List ℤ
right_of (some c) = c.right.elements
right_of none = []

-- Elements at the front of a buffer whose other elements stay.
abbrev pub front {ℓ} : {A : Type ℓ} → List A → List A → List A
front xs buffer = xs ++ drop (length xs) buffer

-- A buffer takes as many elements as it has, and no more than the program holds.
abbrev pub room : List ℤ → ℕ
room buffer = min max_held (length buffer)
