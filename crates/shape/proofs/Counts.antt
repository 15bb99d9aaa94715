-- The count of a shape: one axis more, the product held at a limit, and a good shape by its count.
use mathlib.Core.Path.{◌≡◌, refl, sym, ap, ◌∙◌}
use mathlib.Core.List.{List, [], ◌∷◌, ◌++◌}
use mathlib.Core.Bool.{Bool, true, false, cond, and-false}
use Prim.Native.Nat.{ℕ, zero, suc, ◌+◌, ◌*◌, ◌≤◌, ◌<◌, min}
use native.Mathlib.Decide.{dec_le}
use native.Mathlib.Nat.{mul_assoc, mul_comm, zero-mul, mul-zero, min-eq_left, min-eq_right, le-mul_of_pos_right}
use native.Mathlib.Omega.{arith}
use borrow.Author.Tests.{le-leb, lt-leb}
use lib.Dec.{leb}
use lib.ListN.{length, get_or, take, drop, replicate}
use Rattle.std.proofs.lemmas.List.{take_more}
use Rattle.shape.proofs.Bools.{both, and-true}
use Rattle.shape.proofs.Rule.{rule-rank, rule-high, rule-count}
use Rattle.shape.specs.declared.Shape.{Shape}
use Rattle.shape.specs.Shape.{max_rank, max_count, counted, count, small, shape_rule, good_shape, count_of, held}

count-snoc : (ns : List ℕ) (n : ℕ) → count (ns ++ (n ∷ [])) ≡ count ns * n
unfolding count
count-snoc [] n = omega arith
count-snoc (m ∷ ns) n = ap (λ (x : ℕ). m * x) (count-snoc ns n) ∙ sym (mul_assoc m (count ns) n)

pub small-snoc : (ns : List ℕ) (n : ℕ) → small ns ≡ true → n ≤ max_count → small (ns ++ (n ∷ [])) ≡ true
unfolding small
small-snoc [] n e h = rw (le-leb n max_count h)
small-snoc (m ∷ ns) n e h =
    let t = both (leb m max_count) (small ns) e in
    and-true _ _ t.0 (small-snoc ns n t.1 h)

-- A factor of a product that is not 0 is not 0, and is at most the product.
pub factor : (a b c : ℕ) → c ≡ a * b → 0 < c → (0 < a) × (0 < b) × (a ≤ c) × (b ≤ c)
factor zero b c e h = absurd (omega (arith, zero-mul b))
factor (suc a) zero c e h = absurd (omega (arith, mul-zero (suc a)))
factor (suc a) (suc b) c e h =
    let p : 0 < suc a = omega arith in
    let q : 0 < suc b = omega arith in
    (p, q, omega (arith, le-mul_of_pos_right (suc a) q), omega (arith, le-mul_of_pos_right (suc b) p, mul_comm (suc a) (suc b)))

-- So is the count of the axes from one on.
pub count-drop : (k : ℕ) (ns : List ℕ) → 0 < count ns → (0 < count (drop k ns)) × (count (drop k ns) ≤ count ns)
unfolding count
count-drop zero ns h = (h, omega arith)
count-drop (suc k) [] h = (h, omega arith)
count-drop (suc k) (n ∷ ns) h =
    let f = factor n (count ns) (n * count ns) refl h in
    let r = count-drop k ns f.1 in
    (r.0, omega (arith, f.3, r.1))

-- Lengths of 1.
pub count_ones : (n : ℕ) → count (replicate n 1) ≡ 1
unfolding count
count_ones zero = refl
count_ones (suc n) = ap (λ x. 1 * x) (count_ones n)

-- One length above the limit is enough.
pub small-not : (ns : List ℕ) (k : ℕ) → k < length ns → max_count < get_or ns k 0 → small ns ≡ false
unfolding small
small-not [] k l h = absurd (omega arith)
small-not (n ∷ ns) zero l h = rw (lt-leb n max_count h)
small-not (n ∷ ns) (suc k) l h = rw (small-not ns k (omega arith) h) (and-false (leb n max_count))

-- A product held at a limit on the way is the product held at the limit: a zero after it still counts.
min-mul : (a n c : ℕ) → min (min a c * n) c ≡ min (a * n) c
min-mul a zero c = simp mul-zero
min-mul a (suc n) c = by (dec_le a c)
  where
    by : Dec (a ≤ c) → min (min a c * suc n) c ≡ min (a * suc n) c
    by (yes h) = rw (min-eq_left h)
    by (no h) =
        rw (min-eq_right {n = c} {m = a} (omega arith))
        (omega (arith, le-mul_of_pos_right {m = suc n} a (omega arith), le-mul_of_pos_right {m = suc n} c (omega arith)))

module _ (s : Shape) where
  pub count-bad : good_shape s ≡ false → count_of s ≡ suc max_count
  unfolding count_of
  count-bad e = rw e

  pub count-high-rank : max_rank < s.rank → count_of s ≡ suc max_count
  count-high-rank h = count-bad (rule-high s.rank (counted s) h)

  pub count-long-axis : small (counted s) ≡ false → count_of s ≡ suc max_count
  unfolding count_of shape_rule
  count-long-axis e = rw (e, and-false (leb s.rank max_rank))

  pub count_held : s.rank ≤ max_rank → small (counted s) ≡ true → count_of s ≡ min (count (counted s)) (suc max_count)
  unfolding count_of shape_rule
  count_held h e = rw (le-leb s.rank max_rank h, e) (by (dec_le (count (counted s)) max_count))
    where
      by : Dec (count (counted s) ≤ max_count)
          → cond (leb (count (counted s)) max_count) (count (counted s)) (suc max_count) ≡ min (count (counted s)) (suc max_count)
      by (yes l) = rw (le-leb _ max_count l) (omega arith)
      by (no l) = rw (lt-leb (count (counted s)) max_count (omega arith)) (omega arith)

  pub good-rank : good_shape s ≡ true → s.rank ≤ max_rank
  good-rank e = rule-rank s.rank (counted s) e

  -- A shape is good if its count is within the limit.
  pub count-good : good_shape s ≡ true → count_of s ≤ max_count
  unfolding count_of
  count-good e = rw e (rule-count s.rank (counted s) e)

  pub count-of : good_shape s ≡ true → count_of s ≡ count (counted s)
  unfolding count_of
  count-of e = rw e

  pub good-count : count_of s ≤ max_count → good_shape s ≡ true
  good-count h = by (good_shape s) refl
    where
      by : (b : Bool) → good_shape s ≡ b → good_shape s ≡ true
      by true e = e
      by false e = absurd (omega (arith, count-bad e))

  pub bad-count : max_count < count_of s → good_shape s ≡ false
  bad-count h = by (good_shape s) refl
    where
      by : (b : Bool) → good_shape s ≡ b → good_shape s ≡ false
      by true e = absurd (omega (arith, count-good e))
      by false e = e

-- One axis more, the count held at the limit.
pub held_more : (ns : List ℕ) (i total : ℕ) → i < length ns → total ≡ held (count (take i ns))
    → min (total * get_or ns i 0) (suc max_count) ≡ held (count (take (i + 1) ns))
held_more ns i total l e = rw (e, take_more ns i 0 l, count-snoc (take i ns)) (min-mul (count (take i ns)) (get_or ns i 0) (suc max_count))
