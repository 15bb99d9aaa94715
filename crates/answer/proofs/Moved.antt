-- A move along an axis of a lent operand, on the elements as they are lent.
use mathlib.Core.Path.{◌≡◌, refl, sym, ap₂, ◌∙◌}
use mathlib.Core.List.{List}
use mathlib.Core.Bool.{Bool, true, cond}
use Prim.Native.Nat.{ℕ, ◌/◌, ◌%◌, ◌<◌}
use native.Mathlib.Nat.{mod-lt}
use native.Mathlib.Omega.{arith}
use lib.ListN.{get_or, set, take}
use lib.Seq.{get_or-take}
use lib.IntN.{ℤ, pos}
use Rattle.shape.specs.declared.Shape.{Shape}
use Rattle.shape.specs.Shape.{counted, count, around_of}
use Rattle.shape.proofs.Bools.{cond_same}
use Rattle.shape.proofs.Surround.{Parts}
use Rattle.meaning.specs.Array.{Array, array_of, tab, build}
use Rattle.meaning.specs.Terms.{rank, along}
use Rattle.meaning.proofs.Tab.{tab-ext}
use Rattle.copying.proofs.Blocks.{source-lt, along-source}
use Rattle.copying.specs.Steps.{source}
use Rattle.answer.specs.Answer.{lent}
use Rattle.answer.proofs.Lent.{Lent}

-- Position i of the m positions that the result has on axis k takes φ i where t i, else 0.
pub along-where : (s : Shape) (b : List ℤ) (k m total : ℕ) (t : ℕ → Bool) (φ : ℕ → ℕ) → Lent s b → k < s.rank → Parts s k m total
    → ((i : ℕ) → i < m → t i ≡ true → φ i < (around_of s k).length)
    → (build (set (counted s) k m) (λ p. cond (t (get_or p k 0)) (along (array_of (lent s b)) k φ p) (pos 0))).elements
    ≡ tab total (λ j. cond (t (j / (around_of s k).inner % m)) (get_or b (source m (around_of s k).length (around_of s k).inner φ j) (pos 0)) (pos 0))
along-where s b k m total t φ g l p h =
    let a : Array = array_of (lent s b) in
    let ns : List ℕ = counted s in
    let kl : k < rank a = omega (arith, g.rank_is) in
    let n : ℕ = (around_of s k).length in
    let o : ℕ = (around_of s k).outer in
    let c : ℕ = (around_of s k).inner in
    along-source a k m t φ kl (λ i q w. rw (← p.length-is) (h i q w))
    ∙ ap₂ (λ x f. tab x f) p.made refl
    ∙ tab-ext total _ _
    (λ j q.
    ap₂ (λ x y. cond (t (j / y % m)) (get_or (take (count ns) b) (source m x y φ j) (pos 0)) (pos 0)) (sym p.length-is) (sym p.inner-is)
    ∙ cond_same (pos 0) (t (j / c % m))
    (λ w.
    get_or-take (count ns) b (source m n c φ j) (pos 0)
    (rw (← p.source) (source-lt o m n c j φ (h _ (mod-lt (j / c) p.some) w) p.inner-some p.some (rw p.whole q)))))

-- The same where every position does.
pub along-lent : (s : Shape) (b : List ℤ) (k m total : ℕ) (φ : ℕ → ℕ) → Lent s b → k < s.rank → Parts s k m total
    → ((i : ℕ) → i < m → φ i < (around_of s k).length)
    → (build (set (counted s) k m) (along (array_of (lent s b)) k φ)).elements
    ≡ tab total (λ j. get_or b (source m (around_of s k).length (around_of s k).inner φ j) (pos 0))
along-lent s b k m total φ g l p h = along-where s b k m total (λ i. true) φ g l p (λ i q w. h i q)
