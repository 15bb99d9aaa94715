-- Runs of one size, written one after another: the loops over rows and over blocks.
use mathlib.Core.Path.{◌≡◌, refl, sym, ap, ◌∙◌}
use mathlib.Core.List.{List}
use Prim.Native.Nat.{ℕ, ◌+◌, ◌*◌, ◌≤◌, ◌<◌}
use native.Mathlib.Nat.{mul-le-mul_right, zero-mul}
use native.Mathlib.Omega.{arith}
use lib.ListN.{length, set, drop}
use lib.Seq.{drop_at}
use lib.IntN.{ℤ, pos}
use Rattle.meaning.specs.Array.{tab}
use Rattle.meaning.proofs.Tab.{length-tab}
use Rattle.copying.proofs.Runs.{filled_none, filled-whole, filled-one, length-filled}
use Rattle.copying.specs.Steps.{filled}

-- Run q of m lies inside n elements.
pub run_inside : (size at q m n : ℕ) → at ≡ q * size → q < m → m * size ≤ n → at + size ≤ n
run_inside size at q m n e h room = omega (arith, mul-le-mul_right {m = q + 1} {n = m} size (omega arith))

-- q runs stand in front.
pub record Written (g : ℕ → ℤ) (size : ℕ) (out₀ out : List ℤ) (to q : ℕ) : Type 0 where
  pub at : to ≡ q * size
  pub long : length out ≡ length out₀
  pub filling : out ≡ filled g to out₀

pub written_none : (g : ℕ → ℤ) (size : ℕ) (out₀ : List ℤ) → Written g size out₀ out₀ 0 0
written_none g size out₀ = record { at = sym (zero-mul size); long = refl; filling = filled_none g out₀ }

module _ {g : ℕ → ℤ} {size : ℕ} {out₀ out : List ℤ} {to q : ℕ} (w : Written g size out₀ out to q) where
  pub written-front : (m : ℕ) → q ≡ m → out ≡ filled g (m * size) out₀
  written-front m e = w.filling ∙ ap (λ x. filled g x out₀) (w.at ∙ ap (λ x. x * size) e)

  pub written-rest : drop to out ≡ drop to out₀
  written-rest = ap (drop to) w.filling ∙ drop_at (tab to g) (drop to out₀) to (length-tab to g)

  pub written-whole : (m : ℕ) → q ≡ m → length out₀ ≡ m * size → out ≡ tab (m * size) g
  written-whole m e room = written-front m e ∙ filled-whole g (m * size) out₀ (omega arith)

  pub written-room : (m : ℕ) → q < m → m * size ≤ length out₀ → to + size ≤ length out₀
  written-room m h room = run_inside size to q m (length out₀) w.at h room

  pub written-more : {next : List ℤ} → to + size ≤ length out₀ → next ≡ filled g (to + size) out₀ → Written g size out₀ next (to + size) (q + 1)
  written-more room e = record { at = omega (arith, w.at); long = ap length e ∙ length-filled g (to + size) out₀ room; filling = e }

-- Where n runs more go, all at once: to the part to .. e, up to run q'.
pub record MoreRuns (g : ℕ → ℤ) (size : ℕ) (out₀ out : List ℤ) (to q n e q' : ℕ) : Type 0 where
  pub written : Written g size out₀ out to q
  pub end : e ≡ to + n * size
  pub room : e ≤ length out₀
  pub all : q' ≡ q + n

pub run-next : {g : ℕ → ℤ} {size : ℕ} {out₀ out : List ℤ} {to q : ℕ} → Written g size out₀ out to q → to + size ≤ length out₀
    → MoreRuns g size out₀ out to q 1 (to + size) (q + 1)
run-next w room = record { written = w; end = omega arith; room = room; all = refl }

pub written-run : {g : ℕ → ℤ} {size : ℕ} {out₀ out next : List ℤ} {to q n e q' : ℕ} → MoreRuns g size out₀ out to q n e q'
    → next ≡ filled g (to + n * size) out₀ → Written g size out₀ next e q'
written-run {g} {size} {out₀} {e = e} d f =
    let there = f ∙ ap (λ x. filled g x out₀) (sym d.end) in
    let after = ap (λ x. x * size) d.all in
    record { at = omega (arith, d.end, d.written.at, after); long = ap length there ∙ length-filled g e out₀ d.room; filling = there }

-- A run of one element.
pub written_one : {g : ℕ → ℤ} {out₀ out : List ℤ} {to q : ℕ} (w : Written g 1 out₀ out to q) → to < length out₀ → (v : ℤ) → v ≡ g to
    → Written g 1 out₀ (set out to v) (to + 1) (q + 1)
written_one {g = g} {out₀ = out₀} {to = to} w room v e =
    written-more w (omega arith) (ap (λ x. set x to v) w.filling ∙ filled-one g (pos 0) v to out₀ room e)
