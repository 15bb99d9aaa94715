-- What stands around an axis, with rank and axis open.
use mathlib.Core.Path.{◌≡◌, refl, sym, ap, ap₂, ◌∙◌}
use mathlib.Core.List.{List}
use Prim.Native.Nat.{ℕ, suc, ◌+◌, ◌*◌, ◌-◌, ◌≤◌, ◌<◌}
use native.Mathlib.Omega.{arith}
use borrow.Author.Tests.{le-leb, lt-ltb}
use lib.ListN.{length, get_or, take, drop, set, length-set}
use lib.Seq.{take-take, get_or-take, length-take-le, take-set-le, drop-set-lt, get_or-set_same}
use Rattle.shape.specs.declared.Shape.{Shape}
use Rattle.shape.specs.declared.Around.{Around}
use Rattle.shape.specs.Shape.{max_rank, max_count, counted, count, held, around_of}
use Rattle.shape.proofs.Axis.{count-axis}
use Rattle.shape.proofs.Counts.{factor}
use Rattle.shape.proofs.Shifted.{rest_after}

-- What the default is.
pub all-zero : (o n i : ℕ) → (o ≡ 0) × ((n ≡ 0) × (i ≡ 0))
    → ◌≡◌ {A = Around} (record { outer = o; length = n; inner = i }) (record { outer = 0; length = 0; inner = 0 })
all-zero o n i h = rw (h.0, h.1.0, h.1.1)

module _ (s : Shape) (k : ℕ) (h : s.rank ≤ max_rank) (l : k < s.rank) where
  around-in : around_of s k ≡ record {
    outer =
        held (count (take k (counted s)));
    length = get_or (counted s) k 0;
    inner = held (count (drop (suc k) (counted s)));
  }
  unfolding around_of
  around-in = rw (le-leb s.rank max_rank h, lt-ltb k s.rank l)

  pub around-is : (o i : ℕ) → o ≡ held (count (take k s.lens)) → i ≡ held (count (take (s.rank - (k + 1)) (drop (k + 1) s.lens)))
      → record { outer = o; length = get_or s.lens k 0; inner = i } ≡ around_of s k
  around-is o i eo ei =
      rw (eo, ei, ← rest_after s.lens k s.rank l, ← take-take k s.rank s.lens (omega arith), ← get_or-take s.rank s.lens k 0 l) (sym around-in)

-- The count of the lengths with m at axis k.
pub count_set : (ns : List ℕ) (k m : ℕ) → k < length ns → count (set ns k m) ≡ count (take k ns) * m * count (drop (suc k) ns)
count_set ns k m l =
    rw (take-set-le k ns k m (omega arith), get_or-set_same ns k m 0 l, drop-set-lt (suc k) ns k m (omega arith))
    at (count-axis (set ns k m) k (rw length-set l))

-- The counts around axis k of a result that has m positions there, and elements.
pub record Parts (s : Shape) (k m total : ℕ) : Type 0 where
  pub outer-is : (around_of s k).outer ≡ count (take k (counted s))
  pub length-is : (around_of s k).length ≡ get_or (counted s) k 0
  pub inner-is : (around_of s k).inner ≡ count (drop (suc k) (counted s))
  pub made : count (set (counted s) k m) ≡ total
  pub whole : (around_of s k).outer * m * (around_of s k).inner ≡ total
  pub source : (around_of s k).outer * (around_of s k).length * (around_of s k).inner ≡ count (counted s)
  pub outer-some : 0 < (around_of s k).outer
  pub inner-some : 0 < (around_of s k).inner
  pub some : 0 < m
  pub rows-small : (around_of s k).outer * m ≤ total
  pub outer-small : (around_of s k).outer ≤ total
  pub inner-small : (around_of s k).inner ≤ total
  pub small : m ≤ total

pub parts : (s : Shape) (k m total : ℕ) → s.rank ≤ max_rank → length s.lens ≡ max_rank → k < s.rank → count (set (counted s) k m) ≡ total → 0 < total
    → total ≤ max_count
    → Parts s k m total
parts s k m total h long l e p q =
    let ns : List ℕ = counted s in
    let kl : k < length ns = rw (length-take-le s.rank s.lens (omega arith)) l in
    let o : ℕ = count (take k ns) in
    let c : ℕ = count (drop (suc k) ns) in
    let w : total ≡ o * m * c = sym e ∙ count_set ns k m kl in
    let f = factor (o * m) c total w p in
    let g = factor o m (o * m) refl f.0 in
    let eo : (around_of s k).outer ≡ o = ap (λ (a : Around). a.outer) (around-in s k h l) ∙ omega (arith, f.2, g.2) in
    let ec : (around_of s k).inner ≡ c = ap (λ (a : Around). a.inner) (around-in s k h l) ∙ omega (arith, f.3) in
    let en : (around_of s k).length ≡ get_or ns k 0 = ap (λ (a : Around). a.length) (around-in s k h l) in
    record {
      outer-is = eo;
      length-is = en;
      inner-is = ec;
      made = e;
      whole = ap₂ (λ x y. x * m * y) eo ec ∙ sym w;
      source = rw (eo, en, ec) (sym (count-axis ns k kl));
      outer-some = rw eo g.0;
      inner-some = rw ec f.1;
      some = g.1;
      rows-small = rw eo f.2;
      outer-small = rw eo (omega (arith, f.2, g.2));
      inner-small = rw ec f.3;
      small = omega (arith, f.2, g.3);
    }
