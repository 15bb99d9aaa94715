-- The runs of the blocks, by the counts around the axis.
use mathlib.Core.Path.{◌≡◌, sym, ap, ◌∙◌}
use mathlib.Core.List.{List}
use Prim.Native.Nat.{ℕ, suc, ◌+◌, ◌*◌, ◌≤◌, ◌<◌}
use native.Mathlib.Nat.{mul_assoc}
use native.Mathlib.Omega.{arith}
use lib.ListN.{length, set, drop}
use lib.Seq.{length-take-le}
use lib.IntN.{ℤ}
use Rattle.shape.specs.declared.Shape.{Shape}
use Rattle.shape.specs.declared.Around.{Around}
use Rattle.shape.specs.Shape.{max_rank, max_count, counted, count, around_of}
use Rattle.shape.proofs.Places.{row_fits}
use Rattle.shape.proofs.Surround.{Parts, parts, count_set}
use Rattle.copying.specs.Steps.{filled}
use Rattle.joins.specs.Steps.{Given, widened, joined, runs_at, joined_along, RunsFit, Joinable}
use Rattle.joins.proofs.Blocks.{both_runs}

-- A result that has elements, and what the program finds around the axis.
module _ {a b : Given} {hs : Shape} {k total room : ℕ} (j : Joinable a b hs k total room)
    (high : hs.rank ≤ max_rank) (has : k < hs.rank) (long : length hs.lens ≡ max_rank) (n : total ≡ 0 → ⊥) {w : Around} (e : w ≡ around_of hs k) where
  around : Parts hs k (a.width + b.width) total
  around = parts hs k (a.width + b.width) total high long has (sym j.count-is) (omega arith) j.small

  inner : w.inner ≡ count (drop (suc k) (counted hs))
  inner = ap (λ (v : Around). v.inner) e ∙ around.inner-is

  -- As many elements as all blocks take of an operand, and as they have.
  all : (x : ℕ) → w.outer * (x * w.inner) ≡ count (set (counted hs) k x)
  all x =
      let c : ℕ = count (drop (suc k) (counted hs)) in
      let ranked : length (counted hs) ≡ hs.rank = length-take-le hs.rank hs.lens (omega arith) in
      rw (e, around.outer-is, around.inner-is) (sym (mul_assoc _ x c) ∙ sym (count_set (counted hs) k x (omega arith)))

  whole : w.outer * (a.width * w.inner + b.width * w.inner) ≡ total
  whole = ap (λ (v : Around). v.outer * (a.width * v.inner + b.width * v.inner)) e ∙ omega (arith, around.whole)

  abbrev size : ℕ
  size = a.width * w.inner + b.width * w.inner

  outer-some : 0 < w.outer
  outer-some = rw e around.outer-some

  pub into-left : RunsFit (widened w.inner a) 0 size w.outer room
  into-left = record {
    some = outer-some;
    within = omega arith;
    small = omega (arith, whole, j.small);
    space = omega (arith, whole, j.space);
    has = rw (all a.width) j.left;
  }

  pub into-right : RunsFit (widened w.inner b) (a.width * w.inner) size w.outer room
  into-right = record {
    some = outer-some;
    within = omega arith;
    small = omega (arith, whole, j.small);
    space = omega (arith, whole, j.space);
    has = rw (all b.width) j.right;
  }

  pub into-small : size ≤ max_count
  into-small = omega (arith, whole, j.small, row_fits 0 w.outer size outer-some)

  -- What both calls leave.
  pub into-out : (out half last : List ℤ) → half ≡ filled (runs_at (widened w.inner a) 0 size out) (w.outer * size) out
      → last ≡ filled (runs_at (widened w.inner b) (a.width * w.inner) size half) (w.outer * size) half
      → last ≡ filled (joined_along hs k a b) total out
  into-out out half last p q =
      let x = widened w.inner a in
      let y = widened w.inner b in
      q
      ∙ ap (λ o. filled (runs_at y x.width size o) (w.outer * size) o) p
      ∙ both_runs x y out w.outer
      ∙ ap (λ m. filled (joined x y) m out) whole
      ∙ ap (λ c. filled (joined (widened c a) (widened c b)) total out) inner
