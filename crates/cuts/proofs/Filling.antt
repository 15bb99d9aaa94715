-- A result's elements by the windows up to the last axis that is not taken whole.
use Prim.Native.Nat.{ℕ, ◌≤◌, ◌<◌}
use native.Mathlib.Omega.{arith}
use mathlib.Core.Path.{◌≡◌, refl, sym, ap, ◌∙◌}
use mathlib.Core.List.{List, []}
use lib.ListN.{length, take, drop, replicate, drop_of_length-le}
use lib.Seq.{take-take, length-take-le}
use lib.IntN.{ℤ, pos}
use Rattle.meaning.specs.Array.{tab}
use Rattle.meaning.proofs.Tab.{tab-ext, tab-same}
use Rattle.copying.specs.Runs.{copied}
use Rattle.copying.proofs.Runs.{tab-is}
use Rattle.cuts.specs.declared.Axis.{Axis}
use Rattle.cuts.specs.declared.CutKind.{CutKind}
use Rattle.cuts.specs.Steps.{cut_lengths, table_of, cut_at, Fitting, Nonempty, Parts}
use Rattle.cuts.proofs.Building.{lengths-long, drop_same}
use Rattle.std.specs.Prelude.{slice_index}
use Rattle.cuts.proofs.Tables.{cut-empty, cut-front, table_fits}
use Rattle.cuts.proofs.Cutting.{cut-nothing}

pub fill_none : (out : List ℤ) (g : ℕ → ℤ) → length out ≡ 0 → out ≡ tab (length out) g
fill_none out g e = tab-is out (pos 0) (length out) g refl (λ i l. absurd (omega arith))

-- From an empty R.
pub fill-zeros : (t : List Axis) (r out last : List ℤ) → length r ≡ 0 → last ≡ replicate (length out) (pos 0) → last ≡ tab (length out) (cut_at t r)
fill-zeros t r out last e q =
    let none : [] ≡ r = sym (drop_of_length-le r {i = 0} (omega arith)) in
    q ∙ tab-same (length out) (pos 0) (cut_at t r) (λ i l. sym (ap (λ x. cut_at t x i) none) ∙ cut-empty t i)

-- What is known of a cut with elements.
module _ {kind : CutKind} {lens res : List ℕ} {l : List ℤ} {n m : ℕ} (p : Parts kind lens res l n m) (source-some : 0 < n) (some : 0 < m) where
  abbrev ns : List ℕ
  ns = take (length l) lens

  long : length ns ≡ length l
  long = length-take-le (length l) lens (omega (arith, p.long, p.high))

  pub fill-some : Nonempty kind lens l
  fill-some = record {
    high = p.high;
    long = p.long;
    some = omega (arith, source-some, p.source);
    small = omega (arith, p.source, p.small);
    result = omega (arith, some, p.result);
    limit = omega (arith, p.result, p.limit);
  }

  -- There are as many lengths of the result as of R.
  pub res-long : length res ≡ length l
  res-long = ap length p.made ∙ lengths-long kind l ns (sym long) ∙ long

  -- Its first u axes, up to the last that is not taken whole.
  module _ {u : ℕ} (below : u ≤ length (take (length res) lens))
      (tail : (k : ℕ) → u ≤ k → k < length (take (length res) lens) → slice_index (take (length res) lens) k ≡ slice_index res k) where
    tail-is : drop u ns ≡ drop u (cut_lengths kind l ns)
    tail-is =
        let all : length (take (length res) lens) ≡ length res = length-take-le (length res) lens (omega (arith, res-long, p.long, p.high)) in
        (rw res-long at (drop_same u (take (length res) lens) res all tail)) ∙ ap (drop u) p.made

    few : u ≤ length ns
    few = rw res-long at below

    pub front-fits : Fitting (take u (table_of kind l ns)) n m
    front-fits = let f = fill-some in rw (p.source, p.result) (table_fits kind u l ns (sym long) few f.result f.some tail-is)

    pub front-cut : (r : List ℤ) {last : List ℤ} → last ≡ tab m (cut_at (take u (table_of kind l ns)) r) → last ≡ tab m (cut_at (table_of kind l ns) r)
    front-cut r q = q ∙ tab-ext m _ _ (λ j k. cut-front kind u l ns r j (sym long) tail-is (omega (arith, p.result)))

    -- A table of all of them has the first u.
    module _ (table : List Axis) (t : take (length l) table ≡ table_of kind l ns) where
      front : take u table ≡ take u (table_of kind l ns)
      front = sym (take-take u (length l) table (omega (arith, few, long))) ∙ ap (take u) t

      pub fill-fits : Fitting (take u table) n m
      fill-fits = rw front front-fits

      pub fill-cut : (r : List ℤ) {last : List ℤ} → last ≡ tab m (cut_at (take u table) r) → last ≡ tab m (cut_at (table_of kind l ns) r)
      fill-cut r q = front-cut r (q ∙ ap (λ x. tab m (cut_at x r)) front)

-- Where there are none of them it is a copy.
pub fill-copy : {kind : CutKind} {lens res : List ℕ} {l : List ℤ} (r out : List ℤ) → Parts kind lens res l (length r) (length out) → 0 < length r
    → 0 < length out → {u : ℕ} → u ≤ length (take (length res) lens)
    → ((k : ℕ) → u ≤ k → k < length (take (length res) lens) → slice_index (take (length res) lens) k ≡ slice_index res k) → u ≡ 0
    → {last : List ℤ} → last ≡ copied r out → last ≡ tab (length out) (cut_at (table_of kind l (take (length l) lens)) r)
fill-copy {kind} {lens} {l = l} r out p a b {u} below tail e q =
    let t : List Axis = table_of kind l (take (length l) lens) in
    let none : length (take u t) ≡ 0 = ap (λ x. length (take x t)) e in
    front-cut p a b below tail r (cut-nothing (take u t) r out none (front-fits p a b below tail) q)
