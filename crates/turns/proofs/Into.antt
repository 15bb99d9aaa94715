-- From what the code leaves in the output buffer to the meaning of a turn, with the move of the positions open.
use mathlib.Core.Path.{◌≡◌, refl, sym, ap, ap₂, subst, ◌∙◌}
use mathlib.Core.List.{List, ◌++◌}
use Prim.Native.Nat.{ℕ, ◌*◌, ◌-◌, ◌≤◌, ◌<◌}
use native.Mathlib.Nat.{sub-zero}
use native.Mathlib.Omega.{arith}
use lib.ListN.{length, get_or, take, drop, set}
use lib.Seq.{length-take-le, set-get_or, set_out}
use lib.IntN.{ℤ, pos}
use Rattle.shape.specs.declared.Shape.{Shape}
use Rattle.shape.specs.declared.Around.{Around}
use Rattle.shape.specs.Shape.{counted, count, count_of, around_of}
use Rattle.shape.proofs.Axis.{in-length}
use Rattle.shape.proofs.Surround.{Parts, parts}
use Rattle.meaning.specs.Array.{Array, array_of, at, tab, build}
use Rattle.meaning.specs.Terms.{along}
use Rattle.meaning.proofs.Arrays.{build-ext, build-at, none_made}
use Rattle.copying.specs.Runs.{copied}
use Rattle.copying.proofs.Runs.{copied-fits}
use Rattle.copying.specs.Steps.{filled, source}
use Rattle.answer.specs.Answer.{lent}
use Rattle.answer.proofs.Lent.{Lent}
use Rattle.answer.proofs.Moved.{along-lent}

-- What is known around an axis of an array with elements, as the program found it.
pub record Surrounds (s : Shape) (k : ℕ) (w : Around) : Type 0 where
  pub has : k < s.rank
  pub some : 0 < w.length
  pub outer-some : 0 < w.outer
  pub whole : w.outer * (w.length * w.inner) ≡ count (counted s)
  pub parts : Parts s k w.length (count (counted s))

pub surrounds : {s : Shape} {r : List ℤ} {k : ℕ} {w : Around} → Lent s r → k < s.rank → 0 < count_of s → w ≡ around_of s k → Surrounds s k w
surrounds {s} {r} {k} {w} g l h e =
    let c : ℕ = count (counted s) in
    let same : (m : ℕ) → m ≡ get_or (counted s) k 0 → count (set (counted s) k m) ≡ c =
    λ m q. ap (λ x. count (set (counted s) k x)) q ∙ ap count (set-get_or (counted s) k 0) in
    let own : (m : ℕ) → m ≡ get_or (counted s) k 0 → Parts s k m c =
    λ m q. parts s k m c g.high g.long l (same m q) (omega (arith, g.count-is)) g.count_small in
    let n : w.length ≡ get_or (counted s) k 0 = ap (λ v. v.length) e ∙ (own (get_or (counted s) k 0) refl).length-is in
    let p : Parts s k w.length c = own w.length n in
    record {
      has = l;
      some = p.some;
      outer-some = rw e p.outer-some;
      whole = ap (λ v. v.outer * (w.length * v.inner)) e ∙ omega (arith, p.whole);
      parts = p;
    }

-- What the output buffer then holds, for a move φ.
abbrev turned_into : Shape → List ℤ → List ℤ → ℕ → (ℕ → ℕ) → List ℤ
turned_into s r out k φ = (build (counted s) (along (array_of (lent s r)) k φ)).elements ++ drop (count (counted s)) out

module _ {s : Shape} {r : List ℤ} (g : Lent s r) (out : List ℤ) (k : ℕ) where
  abbrev a : Array
  a = array_of (lent s r)

  -- A scalar has one place, which nothing moves.
  scalar-still : s.rank ≡ 0 → (φ : ℕ → ℕ) → build (counted s) (along a k φ) ≡ a
  unfolding along
  scalar-still z φ =
      build-ext (counted s) _ (at a) (λ p i. ap (at a) (set_out p k _ (omega (arith, in-length (counted s) p i, g.rank_is)))) ∙ build-at a g.whole

  pub into-scalar : (φ : ℕ → ℕ) {n : ℕ} {last : List ℤ} → s.rank ≡ 0 → n ≡ count_of s → n ≤ length out → last ≡ copied (take (n - 0) r) out
      → last ≡ turned_into s r out k φ
  into-scalar φ {n} z e h q =
      let m : n ≡ count (counted s) = e ∙ g.count-is in
      let len : length (take (n - 0) r) ≡ n = rw (sub-zero n) (length-take-le n r (omega (arith, g.room))) in
      q ∙ copied-fits (take (n - 0) r) out (omega arith)
      ∙ ap₂ (λ x i. x ++ drop i out) (ap (λ i. take i r) (sub-zero n ∙ m) ∙ sym (ap (λ b. b.elements) (scalar-still z φ))) (len ∙ m)

  -- Nothing to turn.
  pub into-none : (φ : ℕ → ℕ) → count_of s ≡ 0 → out ≡ turned_into s r out k φ
  into-none φ e = let z : count (counted s) ≡ 0 = sym g.count-is ∙ e in none_made (counted s) _ _ out z z

  -- A move that looks at the axis's length, by what the program found around the axis.
  pub into-blocks : (w : Around) → w ≡ around_of s k → Surrounds s k w → (φ : ℕ → ℕ → ℕ) {last : List ℤ}
      → ((i : ℕ) → i < w.length → φ w.length i < w.length)
      → last ≡ filled (λ j. get_or r (source w.length w.length w.inner (φ w.length) j) (pos 0)) (w.outer * w.length * w.inner) out
      → last ≡ turned_into s r out k (φ (get_or (counted s) k 0))
  into-blocks w e v φ b q =
      let n : ℕ = w.length in
      let total : ℕ = count (counted s) in
      let here : ℕ → ℤ = λ j. get_or r (source n n w.inner (φ n) j) (pos 0) in
      let same : n ≡ get_or (counted s) k 0 = ap (λ u. u.length) e ∙ v.parts.length-is in
      let lengths : set (counted s) k n ≡ counted s = ap (set (counted s) k) same ∙ set-get_or (counted s) k 0 in
      let made : (build (counted s) (along a k (φ n))).elements ≡ tab total here =
      ap (λ ns. (build ns (along a k (φ n))).elements) (sym lengths)
      ∙ along-lent s r k n total (φ n) g v.has v.parts (λ i l. subst (λ (u : Around). φ n i < u.length) e (b i l))
      ∙ ap (λ (u : Around). tab total (λ j. get_or r (source n u.length u.inner (φ n) j) (pos 0))) (sym e) in
      q ∙ ap (λ t. filled here t out) (omega (arith, v.whole)) ∙ ap (λ x. x ++ drop total out) (sym made) ∙ ap (λ m. turned_into s r out k (φ m)) same
