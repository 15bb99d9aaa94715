-- How often a number occurs in a list.
use mathlib.Core.Path.{◌≡◌, sym, ap, ◌∙◌}
use mathlib.Core.Bool.{cond}
use Prim.Native.Nat.{ℕ, zero, suc, ◌+◌}
use lib.IntN.{ℤ}
use Rattle.meaning.specs.Array.{tab}
use Rattle.meaning.specs.Terms.{int_same, gather}
use Rattle.meaning.proofs.Tab.{tab-none, tab-suc}
use Rattle.laws.specs.Words.{occurs}
use Rattle.laws.proofs.Sum.{OneToOne, Below, numbers-add, sum, sum-permuted}

occurs-tab : (x : ℤ) (n : ℕ) (f : ℕ → ℤ) → occurs x (tab n f) ≡ sum n (λ i. cond (int_same x (f i)) 1 0)
unfolding occurs gather
occurs-tab x zero f = rw (tab-none f)
occurs-tab x (suc n) f = rw (tab-suc n f) (ap (◌+◌ (cond (int_same x (f zero)) 1 0)) (occurs-tab x n (λ i. f (suc i))))

-- A list whose elements are those of another at permuted places has each number as often.
pub occurs-permuted : (x : ℤ) {n m : ℕ} {σ τ : ℕ → ℕ} → OneToOne (Below n) (Below m) σ τ → (g : ℕ → ℤ)
    → occurs x (tab n (λ i. g (σ i))) ≡ occurs x (tab m g)
occurs-permuted x {n} {m} o g = occurs-tab x n _ ∙ sum-permuted numbers-add o (λ i. cond (int_same x (g i)) 1 0) ∙ sym (occurs-tab x m g)
