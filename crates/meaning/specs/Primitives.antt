-- Paper 01, "The primitives", in its order: when each refuses, the lengths of its result, and the element at each place.
-- FORM, ORIGIN, LIMIT and SPACE are the same for all and stand in Reply. A type shows what a primitive looks at: G is the origin, K the axis number.
-- k means K - G, the axis counted from zero (`from_zero` in Terms).
use Rattle.std.specs.Prelude.{ℕ, suc, ◌+◌, ◌-◌, ◌%◌, min, max, List, [], ◌∷◌, map, Bool, false, not, cond, ◌&&◌, ◌||◌, length, get_or, set, take, replicate}
use Rattle.std.specs.Prelude.{eqb, ltb, ℤ, pos, nat_abs, ◌+ℤ◌, ◌-ℤ◌}
use Rattle.shape.specs.Place.{index, inside}
use Rattle.meaning.specs.Array.{Array, at, tab}
use Rattle.meaning.specs.Refusal.{Rule, ◌when◌, ◌unless◌}
use Rattle.meaning.specs.Refusal.Refusal.{RANK, AXIS, LENGTH, DOMAIN, INDEX}
use Rattle.shape.specs.Shape.{without}
use Rattle.meaning.specs.Terms.{rank, axis, is_scalar, is_list, as_rank, as_vector, negative, int_same, within, from_zero, modulo, every, same_lengths}
use Rattle.meaning.specs.Terms.{put_in, along, is_bit, ones, first_at}

-- What a primitive gives: when it refuses, and its result, place by place.
pub record Meaning : Type 0 where
  pub refusals : List Rule
  pub lengths : List ℕ
  pub element : List ℕ → ℤ

-- 11 shape: the vector of R's lengths.
unfoldable pub lengths_of : Array → Meaning
lengths_of R = record {
  refusals = [];
  lengths = rank R ∷ [];
  element = λ p. pos (axis R (get_or p 0 0));
}

-- 12 ravel: R's elements as a vector.
unfoldable pub ravel : Array → Meaning
ravel R = record {
  refusals = [];
  lengths = length R.elements ∷ [];
  element = λ p. get_or R.elements (get_or p 0 0) (pos 0);
}

-- 13 interval: R is a list (else RANK) of one element (else LENGTH); N below 0 is DOMAIN, above the largest count LIMIT by the shape rule; result
-- G to G + N - 1.
unfoldable pub interval : ℤ → Array → Meaning
interval G R =
    let N : ℤ = get_or R.elements 0 (pos 0) in
    record {
      refusals = RANK unless is_list R ∷ LENGTH unless eqb (length R.elements) 1 ∷ DOMAIN when negative N ∷ [];
      lengths = nat_abs N ∷ [];
      element = λ p. G +ℤ pos (get_or p 0 0);
    }

-- 14 reverse: position i on axis k takes n - 1 - i, n its length. A scalar returns as a scalar.
unfoldable pub reverse : ℤ → ℤ → Array → Meaning
reverse G K R =
    let k : ℕ = from_zero G K in
    let n : ℕ = axis R k in
    record {
      refusals = AXIS unless within (K -ℤ G) (rank (as_vector R)) ∷ [];
      lengths = R.lengths;
      element = along R k (λ i. n - 1 - i);
    }

-- R's axis i goes to result axis t, the element i of ts. The lengths of the axes sent to axis j:
unfoldable pub sent_to : ℕ → List ℕ → List ℕ → List ℕ
sent_to j [] ns = []
sent_to j (t ∷ ts) [] = []
sent_to j (t ∷ ts) (n ∷ ns) = cond (eqb t j) (n ∷ sent_to j ts ns) (sent_to j ts ns)

-- The smallest of some lengths.
unfoldable pub smallest : List ℕ → ℕ
smallest [] = 0
smallest (n ∷ []) = n
smallest (n ∷ (m ∷ ns)) = min n (smallest (m ∷ ns))

-- The result has the axes 0 to the largest of ts.
unfoldable pub axes_to : List ℕ → ℕ
axes_to [] = 0
axes_to (t ∷ ts) = max (suc t) (axes_to ts)

-- Axes sent together give the diagonal, of the smallest of their lengths.
unfoldable pub sent_lengths : List ℕ → List ℕ → List ℕ
sent_lengths ts ns = tab (axes_to ts) (λ j. smallest (sent_to j ts ns))

-- Result place p holds R's element at the place whose position on axis i is p's on axis t.
unfoldable pub brought_back : List ℕ → List ℕ → List ℕ
brought_back [] p = []
brought_back (t ∷ ts) p = get_or p t 0 ∷ brought_back ts p

-- 15 transpose: axes in reverse order, so that axis i goes to rank - 1 - i.
unfoldable pub backwards : ℕ → List ℕ
backwards r = tab r (λ i. r - 1 - i)

unfoldable pub transpose : Array → Meaning
transpose R =
    let ts : List ℕ = backwards (rank R) in
    record {
      refusals = [];
      lengths = sent_lengths ts R.lengths;
      element = λ p. at R (brought_back ts p);
    }

-- 21 reshape: L is a list of lengths; below 0 is DOMAIN; more of them than the largest rank is LIMIT by the shape rule. Element i is R's element i mod
-- count(R); from an empty R into a result with elements, zeros.
unfoldable pub reshape : Array → Array → Meaning
reshape L R =
    let ns : List ℕ = map nat_abs L.elements in
    record {
      refusals = RANK unless is_list L ∷ DOMAIN unless every (λ z. not (negative z)) L.elements ∷ [];
      lengths = ns;
      element = λ p. get_or R.elements (index ns p % length R.elements) (pos 0);
    }

-- 22: an operand beside lengths ns of the higher rank: its length along axis k, its other lengths, and its element at a place of that rank.
pub record Side : Type 0 where
  pub extent : ℕ
  pub others : List ℕ
  pub element : List ℕ → ℤ

-- A scalar is repeated to length 1 along k. One rank less counts as length 1 there.
unfoldable pub side : List ℕ → ℕ → Array → Side
side ns k a =
    cond (is_scalar a) (record { extent = 1; others = without k ns; element = λ p. at a [] })
    (cond (eqb (suc (rank a)) (length ns)) (record { extent = 1; others = a.lengths; element = λ p. at a (without k p) })
    (record { extent = axis a k; others = without k a.lengths; element = at a }))

-- The lengths of the higher rank, against which K is read; two scalars as vectors of one.
unfoldable pub higher : Array → Array → List ℕ
higher L R = cond (ltb (rank L) (rank R)) R.lengths (as_vector L).lengths

-- Ranks that fit: equal, one apart, or one of them a scalar's.
unfoldable pub ranks_fit : Array → Array → Bool
ranks_fit L R = is_scalar L || is_scalar R || eqb (rank L) (rank R) || eqb (suc (rank L)) (rank R) || eqb (suc (rank R)) (rank L)

-- 22 catenate, L before R: other ranks are RANK, other lengths LENGTH.
unfoldable pub catenate : ℤ → ℤ → Array → Array → Meaning
catenate G K L R =
    let k : ℕ = from_zero G K in
    let ns : List ℕ = higher L R in
    let l : Side = side ns k L in
    let r : Side = side ns k R in
    record {
      refusals =
          RANK unless ranks_fit L R
          ∷ AXIS unless within (K -ℤ G) (length ns)
          ∷ LENGTH unless (same_lengths l.others (without k ns) && same_lengths r.others (without k ns))
          ∷ [];
      lengths = set ns k (l.extent + r.extent);
      element = λ p. cond (ltb (get_or p k 0) l.extent) (l.element p) (r.element (set p k (get_or p k 0 - l.extent)));
    }

-- 23: positive takes from the front, negative from the end: where position i of the result stands on an axis of length n.
unfoldable pub taken_from : ℤ → ℕ → ℕ → ℤ
taken_from z n i = cond (negative z) (pos (n + i) +ℤ z) (pos i)

unfoldable pub taken_place : List ℤ → List ℕ → List ℕ → List ℤ
taken_place [] ns p = []
taken_place (z ∷ zs) [] p = []
taken_place (z ∷ zs) (n ∷ ns) [] = []
taken_place (z ∷ zs) (n ∷ ns) (i ∷ p) = taken_from z n i ∷ taken_place zs ns p

-- Positions outside R hold 0.
unfoldable pub at_or_zero : Array → List ℤ → ℤ
at_or_zero a q = cond (every (λ z. not (negative z)) q && inside a.lengths (map nat_abs q)) (at a (map nat_abs q)) (pos 0)

-- 23 take: L is a list with one number for each axis of R, else LENGTH; a scalar R is first read as an array of that many lengths of 1
-- (above the largest rank is LIMIT by the shape rule). The result length is the size of the number without its sign.
unfoldable pub takes : Array → Array → Meaning
takes L R =
    let r : Array = as_rank (length L.elements) R in
    record {
      refusals = RANK unless is_list L ∷ LENGTH unless eqb (length L.elements) (rank r) ∷ [];
      lengths = map nat_abs L.elements;
      element = λ p. at_or_zero r (taken_place L.elements r.lengths p);
    }

-- 24: the larger of 0 and the length less the number's size (m - n is 0 where n is larger).
unfoldable pub dropped_lengths : List ℤ → List ℕ → List ℕ
dropped_lengths [] ns = []
dropped_lengths (z ∷ zs) [] = []
dropped_lengths (z ∷ zs) (n ∷ ns) = (n - nat_abs z) ∷ dropped_lengths zs ns

-- Positive drops from the front, negative from the end.
unfoldable pub dropped_place : List ℤ → List ℕ → List ℕ
dropped_place [] p = []
dropped_place (z ∷ zs) [] = []
dropped_place (z ∷ zs) (i ∷ p) = cond (negative z) i (i + nat_abs z) ∷ dropped_place zs p

-- 24 drop: L as in 23.
unfoldable pub drops : Array → Array → Meaning
drops L R =
    let r : Array = as_rank (length L.elements) R in
    record {
      refusals = RANK unless is_list L ∷ LENGTH unless eqb (length L.elements) (rank r) ∷ [];
      lengths = dropped_lengths L.elements r.lengths;
      element = λ p. at r (dropped_place L.elements p);
    }

-- 25 rotate: L is a list of one amount a, else LENGTH. Position i takes (i + a) mod n, never negative; length 0 is unchanged, since it has
-- no position; a scalar returns as a scalar.
unfoldable pub rotate : ℤ → ℤ → Array → Array → Meaning
rotate G K L R =
    let k : ℕ = from_zero G K in
    let n : ℕ = axis R k in
    let a : ℤ = get_or L.elements 0 (pos 0) in
    record {
      refusals =
          RANK unless is_list L ∷ AXIS unless within (K -ℤ G) (rank (as_vector R)) ∷ LENGTH unless eqb (length L.elements) 1 ∷ [];
      lengths = R.lengths;
      element = along R k (λ i. modulo (pos i +ℤ a) n);
    }

-- j occurs in ts.
unfoldable pub occurs_in : List ℕ → ℕ → Bool
occurs_in [] j = false
occurs_in (t ∷ ts) j = eqb t j || occurs_in ts j

-- All of 0 to the largest occur.
unfoldable pub all_occur : List ℕ → Bool
all_occur ts = every (occurs_in ts) (tab (axes_to ts) (λ j. j))

-- 26 transpose by L: L is a list with one element for each axis of R, else LENGTH.
-- Less G, each is 0 to rank - 1, and all of 0 to the largest occur, else DOMAIN.
unfoldable pub transpose_by : ℤ → Array → Array → Meaning
transpose_by G L R =
    let ts : List ℕ = map (from_zero G) L.elements in
    record {
      refusals =
          RANK unless is_list L
          ∷ LENGTH unless eqb (length L.elements) (rank R)
          ∷ DOMAIN unless (every (λ z. within (z -ℤ G) (rank R)) L.elements && all_occur ts)
          ∷ [];
      lengths = sent_lengths ts R.lengths;
      element = λ p. at R (brought_back ts p);
    }

-- 27 compress: L is a list of 0 and 1, else DOMAIN. One element in L serves the whole axis; an axis of length 1 is repeated to L's count;
-- otherwise count and length agree, else LENGTH. Positions at 1 remain. A scalar R gives a vector.
unfoldable pub compress : ℤ → ℤ → Array → Array → Meaning
compress G K L R =
    let k : ℕ = from_zero G K in
    let r : Array = as_vector R in
    let n : ℕ = axis r k in
    let c : ℕ = length L.elements in
    let mask : List ℤ = cond (eqb c 1) (replicate n (get_or L.elements 0 (pos 0))) L.elements in
    record {
      refusals =
          RANK unless is_list L
          ∷ AXIS unless within (K -ℤ G) (rank r)
          ∷ LENGTH unless (eqb c 1 || eqb n 1 || eqb c n)
          ∷ DOMAIN unless every is_bit L.elements
          ∷ [];
      lengths = set r.lengths k (length (ones mask));
      element = along r k (λ i. cond (eqb n 1) 0 (get_or (ones mask) i 0));
    }

-- 28 expand: L is a list of 0 and 1, else DOMAIN; one element is one place and is not repeated. The axis positions go in order to the ones,
-- zeros to the rest. The ones number the axis length, else LENGTH; only a scalar R is repeated.
unfoldable pub expand : ℤ → ℤ → Array → Array → Meaning
expand G K L R =
    let k : ℕ = from_zero G K in
    let r : Array = as_vector R in
    let mask : List ℤ = L.elements in
    record {
      refusals =
          RANK unless is_list L
          ∷ AXIS unless within (K -ℤ G) (rank r)
          ∷ DOMAIN unless every is_bit mask
          ∷ LENGTH unless (is_scalar R || eqb (length (ones mask)) (axis r k))
          ∷ [];
      lengths = set r.lengths k (length mask);
      element = λ p.
          cond (int_same (get_or mask (get_or p k 0) (pos 0)) (pos 1))
          (along r k (λ i. cond (is_scalar R) 0 (length (ones (take i mask)))) p)
          (pos 0);
    }

-- 29 index of: L has rank 1, else RANK. Each element of R gives G plus the first position holding it in L, or G plus L's count
-- exactly if no position does. R's shape.
unfoldable pub index_of : ℤ → Array → Array → Meaning
index_of G L R = record {
  refusals = RANK unless eqb (rank L) 1 ∷ [];
  lengths = R.lengths;
  element = λ p. G +ℤ pos (first_at (at R p) L.elements);
}

-- 30 member: L's shape; 1 exactly where L's element occurs in R, else 0.
unfoldable pub member : Array → Array → Meaning
member L R = record {
  refusals = [];
  lengths = L.lengths;
  element = λ p. cond (ltb (first_at (at L p) R.elements) (length R.elements)) (pos 1) (pos 0);
}

-- 31 select: R has an axis, else RANK; L is a list of positions, each less G within axis k, else INDEX.
-- A vector L replaces the axis, a scalar L removes it.
unfoldable pub select : ℤ → ℤ → Array → Array → Meaning
select G K L R =
    let k : ℕ = from_zero G K in
    let chosen : ℕ → ℕ = λ i. from_zero G (get_or L.elements i (pos 0)) in
    record {
      refusals =
          RANK when is_scalar R
          ∷ RANK unless is_list L
          ∷ AXIS unless within (K -ℤ G) (rank R)
          ∷ INDEX unless every (λ z. within (z -ℤ G) (axis R k)) L.elements
          ∷ [];
      lengths = cond (is_scalar L) (without k R.lengths) (set R.lengths k (length L.elements));
      element = cond (is_scalar L) (λ p. at R (put_in k (chosen 0) p)) (along R k chosen);
    }
