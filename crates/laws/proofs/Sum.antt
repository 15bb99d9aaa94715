-- Sums over the numbers below n, in any commutative monoid: the order of the summands does not matter.
use mathlib.Core.Path.{◌≡◌, refl, sym, ap, ap₂, ◌∙◌}
use mathlib.Core.Bool.{cond}
use Prim.Native.Nat.{ℕ, zero, suc, ◌+◌, ◌<◌}
use native.Mathlib.Nat.{zero-lt-suc, not-suc-le-zero, zero-add, add_comm, add_assoc}
use native.Mathlib.Decide.{ℕ_discrete}
use native.Mathlib.Omega.{arith}
use borrow.Author.Tests.{eq-eqb, ne_eqb}
use lib.Dec.{eqb, eqb-zero-suc, eqb-suc-zero, eqb-suc-suc}
use Rattle.meaning.specs.Terms.{gather}

-- σ takes what is P to what is Q, one to one: τ goes back.
pub record OneToOne {A B : Type 0} (P : A → Type 0) (Q : B → Type 0) (σ : A → B) (τ : B → A) : Type 0 where
  pub there : (x : A) → P x → Q (σ x)
  pub back : (y : B) → Q y → P (τ y)
  pub there_back : (x : A) → P x → τ (σ x) ≡ x
  pub back-there : (y : B) → Q y → σ (τ y) ≡ y

abbrev pub Below : ℕ → ℕ → Type 0
Below n i = i < n

-- What putting values together meets, from a start value e.
pub record Monoid {A : Type 0} (◌⊕◌ : A → A → A) (e : A) : Type 0 where
  pub start : (a : A) → ◌⊕◌ e a ≡ a
  pub swap : (a b : A) → ◌⊕◌ a b ≡ ◌⊕◌ b a
  pub group : (a b c : A) → ◌⊕◌ (◌⊕◌ a b) c ≡ ◌⊕◌ a (◌⊕◌ b c)

pub numbers-add : Monoid ◌+◌ 0
numbers-add = record { start = zero-add; swap = add_comm; group = add_assoc }

abbrev pub sum : ℕ → (ℕ → ℕ) → ℕ
sum = gather ◌+◌ 0

sum-ext : {A : Type 0} (◌⊕◌ : A → A → A) (e : A) (n : ℕ) (f g : ℕ → A) → ((i : ℕ) → i < n → f i ≡ g i) → gather ◌⊕◌ e n f ≡ gather ◌⊕◌ e n g
unfolding gather
sum-ext ◌⊕◌ e zero f g h = refl
sum-ext ◌⊕◌ e (suc n) f g h = ap₂ ◌⊕◌ (h zero (zero-lt-suc n)) (sum-ext ◌⊕◌ e n (λ i. f (suc i)) (λ i. g (suc i)) (λ i l. h (suc i) (omega arith)))

module _ {A : Type 0} {◌⊕◌ : A → A → A} {e : A} (m : Monoid ◌⊕◌ e) where
  sum-none : (n : ℕ) (f : ℕ → A) → ((i : ℕ) → i < n → f i ≡ e) → gather ◌⊕◌ e n f ≡ e
  unfolding gather
  sum-none zero f h = refl
  sum-none (suc n) f h = ap₂ ◌⊕◌ (h zero (zero-lt-suc n)) (sum-none n (λ i. f (suc i)) (λ i l. h (suc i) (omega arith))) ∙ m.start e

  four : (a b c d : A) → ◌⊕◌ (◌⊕◌ a b) (◌⊕◌ c d) ≡ ◌⊕◌ (◌⊕◌ a c) (◌⊕◌ b d)
  four a b c d =
      m.group a b (◌⊕◌ c d)
      ∙ ap (◌⊕◌ a) (sym (m.group b c d) ∙ ap (λ x. ◌⊕◌ x d) (m.swap b c) ∙ m.group c b d)
      ∙ sym (m.group a c (◌⊕◌ b d))

  sum_both : (n : ℕ) (f g : ℕ → A) → gather ◌⊕◌ e n (λ i. ◌⊕◌ (f i) (g i)) ≡ ◌⊕◌ (gather ◌⊕◌ e n f) (gather ◌⊕◌ e n g)
  unfolding gather
  sum_both zero f g = sym (m.start e)
  sum_both (suc n) f g = ap (◌⊕◌ (◌⊕◌ (f zero) (g zero))) (sum_both n (λ i. f (suc i)) (λ i. g (suc i))) ∙ four _ _ _ _

  sum-swap : (n k : ℕ) (f : ℕ → ℕ → A) → gather ◌⊕◌ e n (λ i. gather ◌⊕◌ e k (f i)) ≡ gather ◌⊕◌ e k (λ j. gather ◌⊕◌ e n (λ i. f i j))
  unfolding gather
  sum-swap zero k f = sym (sum-none k (λ j. e) (λ j l. refl))
  sum-swap (suc n) k f =
      ap (◌⊕◌ (gather ◌⊕◌ e k (f zero))) (sum-swap n k (λ i. f (suc i))) ∙ sym (sum_both k (f zero) (λ j. gather ◌⊕◌ e n (λ i. f (suc i) j)))

  -- Only the summand at k counts.
  sum_one : (n k : ℕ) (f : ℕ → A) → k < n → gather ◌⊕◌ e n (λ i. cond (eqb i k) (f i) e) ≡ f k
  unfolding gather
  sum_one zero k f h = absurd (not-suc-le-zero h)
  sum_one (suc n) zero f h =
      ap₂ ◌⊕◌ (ap (λ b. cond b (f zero) e) (eq-eqb 0 0 refl)) (sum-none n _ (λ i l. ap (λ b. cond b (f (suc i)) e) (eqb-suc-zero i)))
      ∙ m.swap (f zero) e ∙ m.start (f zero)
  sum_one (suc n) (suc k) f h =
      ap₂ ◌⊕◌ (ap (λ b. cond b (f zero) e) (eqb-zero-suc k))
      (sum-ext ◌⊕◌ e n _ _ (λ i l. ap (λ b. cond b (f (suc i)) e) (eqb-suc-suc i k)) ∙ sum_one n k (λ i. f (suc i)) (omega arith))
      ∙ m.start (f (suc k))

  -- A sum does not change when its summands are taken in another order.
  pub sum-permuted : {n k : ℕ} {σ τ : ℕ → ℕ} → OneToOne (Below n) (Below k) σ τ → (g : ℕ → A) → gather ◌⊕◌ e n (λ i. g (σ i)) ≡ gather ◌⊕◌ e k g
  sum-permuted {n} {k} {σ} {τ} o g =
      sum-ext ◌⊕◌ e n _ _ (λ i l. sym (sum_one k (σ i) g (o.there i l)))
      ∙ sum-swap n k (λ i j. cond (eqb j (σ i)) (g j) e)
      ∙ sum-ext ◌⊕◌ e k _ _
      (λ j h. sum-ext ◌⊕◌ e n _ (λ i. cond (eqb i (τ j)) (g j) e) (λ i l. ap (λ b. cond b (g j) e) (same i j l h (ℕ_discrete j (σ i))))
      ∙ sum_one n (τ j) (λ i. g j) (o.back j h))
    where
      same : (i j : ℕ) → i < n → j < k → Dec (j ≡ σ i) → eqb j (σ i) ≡ eqb i (τ j)
      same i j l h (yes r) = eq-eqb j (σ i) r ∙ sym (eq-eqb i (τ j) (sym (o.there_back i l) ∙ ap τ (sym r)))
      same i j l h (no f) = ne_eqb j (σ i) f ∙ sym (ne_eqb i (τ j) (λ r. f (sym (o.back-there j h) ∙ ap σ (sym r))))
