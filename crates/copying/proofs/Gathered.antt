-- Rows that are gathered in several turns, each by a part of the positions: the law that serves every caller.
use mathlib.Core.Path.{◌≡◌, refl, sym, ap, ap₂, ◌∙◌}
use mathlib.Core.List.{List, [], ◌∷◌, ◌++◌}
use mathlib.Core.Logic.{⊎_elim}
use mathlib.Core.Bool.{Bool, true, cond, and-false}
use Prim.Native.Nat.{ℕ, suc, ◌+◌, ◌-◌, ◌*◌, ◌/◌, ◌%◌, ◌≤◌, ◌<◌}
use native.Mathlib.Nat.{mod-lt, zero-add, eq-or-lt_of_le}
use native.Mathlib.Decide.{dec_lt}
use native.Mathlib.Omega.{arith}
use borrow.Author.Tests.{le-leb, lt-leb, lt-ltb, le-ltb}
use lib.Dec.{leb, ltb}
use lib.ListN.{length, get_or, set, take, drop, get_or-append}
use lib.Seq.{drop_at, get_or-take, get_or-set_same, get_or-set_other}
use borrow.Rule.Slice.PartMut.{mid_len}
use lib.IntN.{ℤ, pos}
use Rattle.shape.proofs.Bools.{and-true}
use Rattle.shape.proofs.Counts.{factor}
use Rattle.shape.proofs.Places.{row_in}
use Rattle.meaning.specs.Array.{tab}
use Rattle.meaning.specs.Terms.{every}
use Rattle.meaning.proofs.Tab.{length-tab, get_or-tab, tab-ext}
use Rattle.copying.specs.declared.AxisBlocks.{AxisBlocks}
use Rattle.copying.specs.Steps.{source}
use Rattle.copying.specs.Gather.{gathers, gathered_at, gathered}
use Rattle.copying.specs.Gather.{PositionsNoted, BlocksLie}
use Rattle.copying.specs.Steps.{filled}
use Rattle.copying.proofs.Runs.{filled_none, length-filled}
use Rattle.copying.proofs.Parts.{filled_on}
use Rattle.copying.proofs.Gathering.{gathers-by}

-- Element j where the rows before `first` are gathered.
abbrev pub up_to : (ℕ → ℕ) → AxisBlocks → List ℤ → List ℤ → ℕ → ℕ → ℤ
up_to φ b r out₀ first j =
    cond (ltb (j / b.inner % b.made) first) (get_or r (source b.made b.taken b.inner φ j) (pos 0)) (get_or out₀ j (pos 0))

pub record GatheredTo (φ : ℕ → ℕ) (b : AxisBlocks) (r out₀ out : List ℤ) (first : ℕ) : Type 0 where
  pub within : first ≤ b.made
  pub long : length out ≡ length out₀
  pub done : out ≡ filled (up_to φ b r out₀ first) (b.outer * (b.made * b.inner)) out₀

every-by : (test : ℕ → Bool) (l : List ℕ) → ((i : ℕ) → i < length l → test (get_or l i 0) ≡ true) → every test l ≡ true
unfolding every
every-by test [] h = refl
every-by test (x ∷ l) h = and-true (test x) (every test l) (h 0 (omega arith)) (every-by test l (λ i k. h (suc i) (omega arith)))

-- Row i of the result takes row φ i.
module _ (φ : ℕ → ℕ) (b : AxisBlocks) (r out₀ : List ℤ) (k : BlocksLie b (length r) (length out₀)) (low : (i : ℕ) → i < b.made → φ i < b.taken) where
  abbrev total : ℕ
  total = b.outer * (b.made * b.inner)

  -- None of them, and all.
  pub gathered_none : GatheredTo φ b r out₀ out₀ 0
  gathered_none = record {
    within = omega arith;
    long = refl;
    done = filled_none (up_to φ b r out₀ 0) out₀
        ∙ filled_on (up_to φ b r out₀ 0) 0 total out₀ (omega (arith, k.room)) (λ j l. rw (le-ltb ((0 + j) / b.inner % b.made) 0 (omega arith)))
        ∙ ap (λ n. filled (up_to φ b r out₀ 0) n out₀) (zero-add total);
  }

  pub gathered-all : {out : List ℤ} → GatheredTo φ b r out₀ out b.made
      → out ≡ filled (λ j. get_or r (source b.made b.taken b.inner φ j) (pos 0)) total out₀
  gathered-all g =
      g.done
      ∙ ap (λ x. x ++ drop total out₀)
      (tab-ext total _ _
      (λ j h.
      let some : 0 < b.made = (factor b.made b.inner _ refl (row_in b.outer (b.made * b.inner) j h).0).0 in
      rw (lt-ltb (j / b.inner % b.made) b.made (mod-lt (j / b.inner) some))))

  -- The rows of a part of the positions more.
  module _ {out : List ℤ} {first : ℕ} (g : GatheredTo φ b r out₀ out first) (at : List ℕ) (fits : first + length at ≤ b.made)
      (same : (q : ℕ) → q < length at → get_or at q 0 ≡ φ (first + q)) where
    asked : gathers at first b (length r) (length out) ≡ true
    asked =
        gathers-by at first b _ _ k.small k.source (omega (arith, g.long, k.room)) fits
        ∙ every-by (λ x. ltb x b.taken) at (λ q h. lt-ltb (get_or at q 0) b.taken (rw (same q h) (low (first + q) (omega arith))))

    held : (j : ℕ) → j < total → get_or out j (pos 0) ≡ up_to φ b r out₀ first j
    held j h =
        ap (λ x. get_or x j (pos 0)) g.done
        ∙ get_or-append (tab total (up_to φ b r out₀ first)) (drop total out₀) (pos 0) j (omega (arith, length-tab total (up_to φ b r out₀ first)))
        ∙ get_or-tab total (up_to φ b r out₀ first) j (pos 0) h

    element : (j : ℕ) → j < total → gathered_at at first b r out j ≡ up_to φ b r out₀ (first + length at) j
    element j h = by (j / b.inner % b.made) refl (held j h) (dec_lt _ first) (dec_lt _ (first + length at))
      where
        by : (i : ℕ) → j / b.inner % b.made ≡ i → get_or out j (pos 0) ≡ up_to φ b r out₀ first j → Dec (i < first) → Dec (i < first + length at)
            → gathered_at at first b r out j ≡ up_to φ b r out₀ (first + length at) j
        by i e w (yes p) d = rw (w, e, lt-leb first i p, lt-ltb i first p, lt-ltb i (first + length at) (omega arith))
        by i e w (no p) (yes q) =
            let there : first + (i - first) ≡ i = omega arith in
            rw (e, le-leb first i (omega arith), lt-ltb i (first + length at) q, same (i - first) (omega arith), there)
        by i e w (no p) (no q) =
            rw (w, e, le-ltb i (first + length at) (omega arith), and-false (leb first i), le-ltb i first (omega arith))

    gathered-more : GatheredTo φ b r out₀ (gathered at first b r out) (first + length at)
    unfolding gathered
    gathered-more =
        let rest : drop total out ≡ drop total out₀ =
        ap (drop total) g.done ∙ drop_at (tab total (up_to φ b r out₀ first)) (drop total out₀) total (length-tab total (up_to φ b r out₀ first)) in
        let all : gathered at first b r out ≡ filled (up_to φ b r out₀ (first + length at)) total out₀ =
        rw asked (ap₂ (λ x y. x ++ y) (tab-ext total _ (up_to φ b r out₀ (first + length at)) element) rest) in
        record { within = fits; long = ap length all ∙ length-filled _ total out₀ k.room; done = all }

  -- The same by the first n of the positions that are noted.
  pub gathered_next : {out : List ℤ} {first : ℕ} → GatheredTo φ b r out₀ out first → (at : List ℕ) (n : ℕ) → n ≤ length at → first + n ≤ b.made
      → PositionsNoted (λ q. φ (first + q)) n at → {last : List ℤ} → last ≡ gathered (take (n - 0) at) first b r out
      → GatheredTo φ b r out₀ last (first + n)
  gathered_next {out} {first} g at n room fits same e =
      let z : n - 0 ≡ n = omega arith in
      let long : length (take (n - 0) at) ≡ n = mid_len 0 n at room ∙ z in
      rw e
      (rw long at (gathered-more g (take (n - 0) at) (omega arith) (λ q h. get_or-take (n - 0) at q 0 (omega arith) ∙ same q (omega arith))))

-- Positions that are noted one after another: one more.
pub noted_more : (f : ℕ → ℕ) (at : List ℕ) (i v : ℕ) → i < length at → v ≡ f i → PositionsNoted f i at → PositionsNoted f (i + 1) (set at i v)
noted_more f at i v room e h q l =
    ⊎_elim
    (λ w. ap (λ x. get_or (set at i v) x 0) w ∙ get_or-set_same at i v 0 room ∙ e ∙ ap f (sym w))
    (λ w. get_or-set_other at i q v 0 (λ x. omega arith) ∙ h q w)
    (eq-or-lt_of_le (let m : q ≤ i = omega arith in m))
