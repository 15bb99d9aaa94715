-- Paper 01, "The primitives": the terms that its sentences share.
use Rattle.std.specs.Prelude.{ℕ, zero, suc, ◌-◌, ◌%◌, List, [], ◌∷◌, Bool, true, false, cond, ◌&&◌, ◌||◌, length, get_or, set, replicate, eqb, leb, ltb, ℤ}
use Rattle.std.specs.Prelude.{pos, negsuc, nat_abs, ◌-ℤ◌}
use Rattle.meaning.specs.Array.{Array, at}

-- The rank: how many lengths there are.
abbrev pub rank : Array → ℕ
rank a = length a.lengths

-- The length of axis k.
abbrev pub axis : Array → ℕ → ℕ
axis a k = get_or a.lengths k 0

-- Rank 0 is a scalar, rank 1 a vector.
abbrev pub is_scalar : Array → Bool
is_scalar a = eqb (rank a) 0

-- "List" means rank 0 or 1.
abbrev pub is_list : Array → Bool
is_list a = leb (rank a) 1

-- "Single" means a scalar or a vector of one element.
abbrev pub is_single : Array → Bool
is_single a = is_list a && eqb (length a.elements) 1

-- A scalar that is read as an array of n lengths of 1.
abbrev pub as_rank : ℕ → Array → Array
as_rank n a = cond (is_scalar a) (record { lengths = replicate n 1; elements = a.elements }) a

-- A scalar R under an axis-taking primitive is read as a vector of one.
abbrev pub as_vector : Array → Array
as_vector = as_rank 1

-- A whole number is negative; negsuc m is -1 - m.
unfoldable pub negative : ℤ → Bool
negative (pos m) = false
negative (negsuc m) = true

-- Two whole numbers are the same.
unfoldable pub int_same : ℤ → ℤ → Bool
int_same (pos a) (pos b) = eqb a b
int_same (negsuc a) (negsuc b) = eqb a b
int_same (pos a) (negsuc b) = false
int_same (negsuc a) (pos b) = false

-- A number is from 0 to n - 1.
unfoldable pub within : ℤ → ℕ → Bool
within (pos i) n = ltb i n
within (negsuc m) n = false

-- What a number z names, counted from zero: the axis k where z is K, or a position where z is an element. It is z less G, a difference of whole
-- numbers, which never wraps. It is read only where `within` holds of that difference: there it is not negative, and the absolute value is it.
abbrev pub from_zero : ℤ → ℤ → ℕ
from_zero G z = nat_abs (z -ℤ G)

-- z mod n, never negative, for n above 0.
unfoldable pub modulo : ℤ → ℕ → ℕ
modulo (pos m) n = m % n
modulo (negsuc m) n = n - suc (m % n)

-- Each element of a list passes a test.
unfoldable pub every : {A : Type 0} → (A → Bool) → List A → Bool
every test [] = true
every test (x ∷ xs) = test x && every test xs

-- Two lists of lengths are the same.
unfoldable pub same_lengths : List ℕ → List ℕ → Bool
same_lengths [] [] = true
same_lengths [] (n ∷ ns) = false
same_lengths (m ∷ ms) [] = false
same_lengths (m ∷ ms) (n ∷ ns) = eqb m n && same_lengths ms ns

-- A place with position i put in as axis k.
unfoldable pub put_in : ℕ → ℕ → List ℕ → List ℕ
put_in zero i p = i ∷ p
put_in (suc k) i [] = i ∷ []
put_in (suc k) i (j ∷ p) = j ∷ put_in k i p

-- Along axis k, position i takes position f i of the array; the other positions of the place stay.
unfoldable pub along : Array → ℕ → (ℕ → ℕ) → List ℕ → ℤ
along a k f p = at a (set p k (f (get_or p k 0)))

-- f 0 ⊕ f 1 ⊕ .. ⊕ f (n - 1), and e for none.
unfoldable pub gather : {A : Type 0} → (A → A → A) → A → ℕ → (ℕ → A) → A
gather ◌⊕◌ e zero f = e
gather ◌⊕◌ e (suc n) f = ◌⊕◌ (f zero) (gather ◌⊕◌ e n (λ i. f (suc i)))

-- 0 and 1.
abbrev pub is_bit : ℤ → Bool
is_bit x = int_same x (pos 0) || int_same x (pos 1)

-- The positions of the ones of a mask, the first of which counts as i.
unfoldable pub ones_from : ℕ → List ℤ → List ℕ
ones_from i [] = []
ones_from i (x ∷ xs) = cond (int_same x (pos 1)) (i ∷ ones_from (suc i) xs) (ones_from (suc i) xs)

abbrev pub ones : List ℤ → List ℕ
ones = ones_from 0

-- The first position that holds x, or the count exactly if no position does.
unfoldable pub first_at : ℤ → List ℤ → ℕ
first_at x [] = 0
first_at x (y ∷ ys) = cond (int_same x y) 0 (suc (first_at x ys))
