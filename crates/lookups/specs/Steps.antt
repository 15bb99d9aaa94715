-- What the contracts of private functions cite: what is written for an element that is looked for, a search, and a hash table with chains.
use Rattle.std.specs.Prelude.{ℕ, ◌+◌, ◌*◌, ◌/◌, ◌%◌, ◌≤◌, ◌<◌, ◌≡◌, List, Bool, false, cond, ltb, length, get_or, ℤ, pos, negsuc, Option, MatchOption}
use Rattle.shape.specs.Shape.{max_count}
use Rattle.meaning.specs.Terms.{int_same, from_zero, first_at}
use Rattle.copying.specs.Steps.{filled}

-- What is written for an element whose first position among n is at: whether there is one, or the position counted from a first number.
unfoldable pub entry : Bool → ℕ → ℕ → ℕ → ℤ
entry bits first n at = cond bits (cond (ltb at n) (pos 1) (pos 0)) (pos (first + at))

-- The same for element j of r, looked for in l.
abbrev pub entries : Bool → ℕ → List ℤ → List ℤ → ℕ → ℤ
entries bits first l r j = entry bits first (length l) (first_at (get_or r j (pos 0)) l)

-- What is known where each element of r is looked for in l and what is written for it has so much room.
pub record Looks (first : ℕ) (l r : List ℤ) (room : ℕ) : Type 0 where
  pub origin : first ≤ 1
  pub small : length l ≤ max_count
  pub space : length r ≤ room

-- The first n elements of r are done.
pub record Entered (bits : Bool) (first : ℕ) (l r out₀ out : List ℤ) (n : ℕ) : Type 0 where
  pub some : n ≤ length r
  pub done : out ≡ filled (entries bits first l r) n out₀

-- All are.
abbrev pub AllEntered : Bool → ℕ → List ℤ → List ℤ → List ℤ → List ℤ → Type 0
AllEntered bits first l r out₀ out = out ≡ filled (entries bits first l r) (length r) out₀

-- What a search for x finds: the first position that holds it, or nothing.
abbrev pub Finds : ℤ → List ℤ → Option ℕ → Type 0
Finds x l r = MatchOption r (length l ≡ first_at x l) (λ i. (i ≡ first_at x l) × (i < length l))

-- The first n elements were passed over: none of them is x.
pub record Passed (x : ℤ) (l : List ℤ) (n : ℕ) : Type 0 where
  pub inside : n ≤ length l
  pub none : (i : ℕ) → i < n → int_same x (get_or l i (pos 0)) ≡ false

-- How many buckets a table has.
abbrev pub buckets : ℕ
buckets = 65536

-- The bucket of a value, by the value counted from the least. Nothing rests on which it is.
unfoldable pub hash_of : ℤ → ℕ
hash_of x = from_zero (negsuc 2147483647) x * 2654435769 / 65536 % buckets

-- The first position, from one on, of a value of bucket h, or a number past the list where there is none.
pub record Next (l : List ℤ) (h from q : ℕ) : Type 0 where
  pub after : from ≤ q
  pub same : q < length l → hash_of (get_or l q (pos 0)) ≡ h
  pub least : (j : ℕ) → from ≤ j → j < length l → hash_of (get_or l j (pos 0)) ≡ h → q ≤ j

-- After each position from i on links has the next of its chain.
abbrev pub Links : List ℤ → List ℕ → ℕ → Type 0
Links l links i = (p : ℕ) → i ≤ p → p < length l → Next l (hash_of (get_or l p (pos 0))) (p + 1) (get_or links p 0)

-- The positions from i on are in chains: each bucket's first in heads, and the others in links.
pub record Linked (l : List ℤ) (heads links : List ℕ) (i : ℕ) : Type 0 where
  pub head : (h : ℕ) → h < buckets → Next l h i (get_or heads h 0)
  pub link : Links l links i

-- No position is: each bucket has a number past the list.
pub record Empty (l : List ℤ) (heads links : List ℕ) : Type 0 where
  pub small : length l ≤ max_count
  pub heads-long : length heads ≡ buckets
  pub links-long : length links ≡ max_count
  pub none : (h : ℕ) → h < buckets → length l ≤ get_or heads h 0

-- All are.
pub record Table (l : List ℤ) (heads links : List ℕ) : Type 0 where
  pub small : length l ≤ max_count
  pub linked : Linked l heads links 0

-- A position of x's chain, not past x's first position, or a number past the list.
pub record OnChain (l : List ℤ) (x : ℤ) (p : ℕ) : Type 0 where
  pub before : first_at x l < length l → p ≤ first_at x l
  pub same : p < length l → hash_of (get_or l p (pos 0)) ≡ hash_of x
