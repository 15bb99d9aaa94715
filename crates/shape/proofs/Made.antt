-- The shape that is made of lengths, and the shape rule by its count.
use mathlib.Core.Path.{◌≡◌, refl, sym, ap, ap₂, ◌∙◌}
use mathlib.Core.List.{List}
use Prim.Native.Nat.{ℕ, ◌≤◌, ◌<◌}
use native.Mathlib.Decide.{dec_le}
use mathlib.Core.Bool.{true}
use native.Mathlib.Omega.{arith}
use borrow.Author.Tests.{le-leb, lt-ltb}
use lib.ListN.{length, take, set}
use lib.Seq.{take_at}
use Rattle.shape.specs.declared.Shape.{Shape}
use Rattle.shape.specs.Shape.{max_rank, counted, count, count_of, good_shape, shape_of, shape_rule, made_of, with_length, without, without_axis}
use Rattle.shape.proofs.Counts.{count-of}
use Rattle.shape.proofs.Rule.{rule-rank, rule-high}

-- What of_lengths makes, where the first lengths are ns.
pub made-is : (ns : List ℕ) (r : ℕ) (lens : List ℕ) → r ≤ max_rank → take r lens ≡ ns → made_of r lens ≡ shape_of ns
made-is ns r lens h e = rw (le-leb r max_rank h) (ap shape_of e)

pub made_counted : (ns : List ℕ) → counted (shape_of ns) ≡ ns
made_counted ns = take_at ns _ (length ns) refl

-- A shape that stands for lengths: it has their rank and, if no more than the limit, the lengths themselves.
pub record Stands (s : Shape) (ns : List ℕ) : Type 0 where
  pub rank : s.rank ≡ length ns
  pub lengths : s.rank ≤ max_rank → counted s ≡ ns

pub made-stands : (s : Shape) (ns : List ℕ) → s ≡ shape_of ns → Stands s ns
made-stands s ns e = record { rank = ap (λ t. t.rank) e; lengths = λ h. ap counted e ∙ made_counted ns }

module _ {s : Shape} {ns : List ℕ} (h : Stands s ns) where
  -- Both keep the shape rule or neither does.
  pub stands-rule : good_shape s ≡ shape_rule (length ns) ns
  stands-rule = by (dec_le s.rank max_rank)
    where
      by : Dec (s.rank ≤ max_rank) → good_shape s ≡ shape_rule (length ns) ns
      by (yes l) = ap₂ shape_rule h.rank (h.lengths l)
      by (no l) = rule-high s.rank (counted s) (omega arith) ∙ sym (rule-high (length ns) ns (omega (arith, h.rank)))

  pub stands-count : good_shape s ≡ true → count_of s ≡ count ns
  stands-count g = count-of s g ∙ ap count (h.lengths (rule-rank s.rank (counted s) g))

  -- What `of_lengths` makes of its own lengths.
  pub stands-made : good_shape s ≡ true → made_of s.rank s.lens ≡ shape_of ns
  stands-made g = let l = rule-rank s.rank (counted s) g in made-is ns s.rank s.lens l (h.lengths l)

-- Another length of axis k, where there is such an axis and where there is none.
module _ (s : Shape) (k n : ℕ) where
  pub with-length-is : s.rank ≤ max_rank → k < s.rank → with_length s k n ≡ shape_of (set (counted s) k n)
  unfolding with_length
  with-length-is h l = rw (le-leb s.rank max_rank h, lt-ltb k s.rank l)

-- The shape without axis k.
module _ (s : Shape) (k : ℕ) where
  pub without-axis-is : s.rank ≤ max_rank → k < s.rank → without_axis s k ≡ shape_of (without k (counted s))
  unfolding without_axis
  without-axis-is h l = rw (le-leb s.rank max_rank h, lt-ltb k s.rank l)
