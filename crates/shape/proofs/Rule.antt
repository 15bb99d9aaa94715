-- The shape rule, taken apart and put together.
use mathlib.Core.Path.{◌≡◌, refl}
use mathlib.Core.List.{List, [], ◌∷◌}
use mathlib.Core.Bool.{true, false, ◌&&◌}
use Prim.Native.Nat.{ℕ, zero, suc, ◌≤◌, ◌<◌}
use native.Mathlib.Omega.{arith}
use native.Mathlib.Nat.{le_of_suc-le-suc, not-suc-le-zero, mul-le-mul_left, mul-le-mul_right}
use borrow.Author.Tests.{le-leb, lt-leb, leb-true}
use lib.Dec.{leb}
use lib.ListN.{length, get_or, set, take}
use lib.Seq.{get_or-take}
use Rattle.shape.specs.Shape.{max_rank, max_count, count, small, shape_rule}
use Rattle.shape.proofs.Bools.{both}

pub small_at : (ns : List ℕ) (i : ℕ) → small ns ≡ true → i < length ns → get_or ns i 0 ≤ max_count
unfolding small
small_at [] i h l = absurd (not-suc-le-zero l)
small_at (n ∷ ns) zero h l = leb-true n max_count (both (leb n max_count) (small ns) h).0
small_at (n ∷ ns) (suc i) h l = small_at ns i (both (leb n max_count) (small ns) h).1 (le_of_suc-le-suc l)

pub small-from : (ns : List ℕ) → ((i : ℕ) → i < length ns → get_or ns i 0 ≤ max_count) → small ns ≡ true
unfolding small
small-from [] h = refl
small-from (n ∷ ns) h = rw (le-leb n max_count (h 0 (omega arith))) (small-from ns (λ i l. h (suc i) (omega arith)))

module _ (r : ℕ) (ns : List ℕ) where
  pub rule : r ≤ max_rank → small ns ≡ true → count ns ≤ max_count → shape_rule r ns ≡ true
  unfolding shape_rule
  rule a b c = rw (le-leb r max_rank a, b) (le-leb (count ns) max_count c)

  pub rule-rank : shape_rule r ns ≡ true → r ≤ max_rank
  unfolding shape_rule
  rule-rank h = leb-true r max_rank (both (leb r max_rank) (small ns && leb (count ns) max_count) h).0

  -- More lengths than a shape has.
  pub rule-high : max_rank < r → shape_rule r ns ≡ false
  unfolding shape_rule
  rule-high h = rw (lt-leb r max_rank h)

  pub rule-small : shape_rule r ns ≡ true → small ns ≡ true
  unfolding shape_rule
  rule-small h = (both (small ns) (leb (count ns) max_count) (both (leb r max_rank) (small ns && leb (count ns) max_count) h).1).0

  pub rule-count : shape_rule r ns ≡ true → count ns ≤ max_count
  unfolding shape_rule
  rule-count h =
      leb-true (count ns) max_count (both (small ns) (leb (count ns) max_count) (both (leb r max_rank) (small ns && leb (count ns) max_count) h).1).1

-- A length that counts.
pub rule-length : (r : ℕ) (lens : List ℕ) (k : ℕ) → shape_rule r (take r lens) ≡ true → length (take r lens) ≡ r → k < r → get_or lens k 0 ≤ max_count
rule-length r lens k g e h = rw (get_or-take r lens k 0 h) at (small_at (take r lens) k (rule-small r (take r lens) g) (omega arith))

-- The rule of a vector.
pub vector-rule : (n : ℕ) → n ≤ max_count → shape_rule 1 (n ∷ []) ≡ true
unfolding small count
vector-rule n h = rule 1 (n ∷ []) (omega arith) (rw (le-leb n max_count h)) (omega arith)

-- An axis that becomes shorter keeps the rule.
small-shorter : (ns : List ℕ) (k n : ℕ) → n ≤ get_or ns k 0 → small ns ≡ true → small (set ns k n) ≡ true
unfolding small
small-shorter [] k n h s = s
small-shorter (m ∷ ns) zero n h s =
    let b = both (leb m max_count) (small ns) s in
    rw (le-leb n max_count (omega (arith, leb-true m max_count b.0))) b.1
small-shorter (m ∷ ns) (suc k) n h s =
    let b = both (leb m max_count) (small ns) s in
    rw b.0 (small-shorter ns k n h b.1)

count-shorter : (ns : List ℕ) (k n : ℕ) → n ≤ get_or ns k 0 → count (set ns k n) ≤ count ns
unfolding count
count-shorter [] k n h = omega arith
count-shorter (m ∷ ns) zero n h = mul-le-mul_right (count ns) h
count-shorter (m ∷ ns) (suc k) n h = mul-le-mul_left m (count-shorter ns k n h)

pub shorter-rule : (r : ℕ) (ns : List ℕ) (k n : ℕ) → n ≤ get_or ns k 0 → shape_rule r ns ≡ true → shape_rule r (set ns k n) ≡ true
shorter-rule r ns k n h s =
    rule r (set ns k n) (rule-rank r ns s) (small-shorter ns k n h (rule-small r ns s)) (omega (arith, count-shorter ns k n h, rule-count r ns s))
