-- 11, 12, 13 and 21: what they ask, and what they give.
use mathlib.Core.Path.{◌≡◌, refl, sym, ap, ◌∙◌}
use mathlib.Core.List.{List, [], ◌∷◌, ◌++◌, map}
use mathlib.Core.Bool.{Bool, not, cond, ◌&&◌}
use Prim.Native.Nat.{ℕ, ◌≤◌}
use native.Mathlib.Omega.{arith}
use lib.Dec.{eqb}
use lib.ListN.{length, drop, get_or}
use lib.Seq.{length-take-le}
use Rattle.shape.proofs.Rule.{rule-length}
use Rattle.signed.proofs.Reading.{element-is}
use lib.IntN.{ℤ, pos, nat_abs, ◌+ℤ◌}
use Rattle.std.specs.List.{list_all}
use Rattle.shape.specs.declared.Shape.{Shape}
use Rattle.shape.specs.Shape.{count, count_of, shape_of}
use Rattle.shape.proofs.Counts.{count-of, count-good}
use Rattle.shape.proofs.Places.{index-place}
use Rattle.meaning.specs.Array.{Operand, Array, array_of, good_form, tab, build}
use Rattle.meaning.specs.Refusal.{number, precedence}
use Rattle.meaning.specs.Refusal.Refusal.{RANK, LENGTH, DOMAIN}
use Rattle.meaning.specs.Terms.{int_same, is_list, negative, every}
use Rattle.meaning.specs.Primitives.{Meaning, lengths_of, ravel, interval, reshape}
use Rattle.meaning.specs.Reply.{primitives, named, reply}
use Rattle.meaning.proofs.Arrays.{form-shape, form-whole}
use Rattle.meaning.proofs.Tab.{tab-ext, tab-get_or}
use Rattle.copying.specs.Steps.{filled}
use Rattle.copying.specs.Runs.{copied}
use Rattle.copying.proofs.Runs.{copied-fits}
use Rattle.answer.specs.Answer.{lent, early, own, Replied}
use Rattle.answer.proofs.Lent.{Lent, axis-is, FineOne, early-fine}
use Rattle.answer.proofs.Order.{early_of, Names, own_first, early-replied, Ready}
use Rattle.answer.proofs.Early.{early-read}
use Rattle.answer.proofs.Exits.{exit}
use Rattle.answer.specs.Refused.{asked, answered}
use Rattle.answer.specs.declared.refusal.Refusal as code
use Rattle.std.specs.Prelude.{Result, Err}
use Rattle.std.specs.Result.{IsErrAnd}
use mir.Syntax.{w32}
use mir.Val.{SFits, to_z, of_z}
use Rattle.vectors.specs.Steps.{cycled, element_of}
use Rattle.vectors.proofs.Vector.{Vector, vector-stands, vector-counted}

module _ (G K : ℤ) (L R : Operand) where
  pub shape-names : Names 11 1 G K L R (lengths_of (array_of R))
  unfolding primitives named int_same lengths_of precedence
  shape-names = record { number = refl; arity = refl; meaning = refl; own = refl }

  pub ravel-names : Names 12 1 G K L R (ravel (array_of R))
  unfolding primitives named int_same ravel precedence
  ravel-names = record { number = refl; arity = refl; meaning = refl; own = refl }

  pub interval-names : Names 13 1 G K L R (interval G (array_of R))
  unfolding primitives named int_same interval precedence
  interval-names = record { number = refl; arity = refl; meaning = refl; own = refl }

  pub reshape-names : Names 21 2 G K L R (reshape (array_of L) (array_of R))
  unfolding primitives named int_same reshape precedence
  reshape-names = record { number = refl; arity = refl; meaning = refl; own = refl }

-- The number whose interval 13 gives.
abbrev pub ends : Array → ℤ
ends a = get_or a.elements 0 (pos 0)

-- A test of each element, as an iterator asks it.
pub every_all : {A : Type 0} (test : A → Bool) (l : List A) → every test l ≡ list_all test l
unfolding every
every_all test [] = refl
every_all test (x ∷ l) = ap (λ t. test x && t) (every_all test l)

-- What they ask, in turn.
pub shape-own : (a : Array) → own 11 (lengths_of a).refusals ≡ 0
unfolding lengths_of precedence
shape-own a = own_first 11 _ refl

pub ravel-own : (a : Array) → own 12 (ravel a).refusals ≡ 0
unfolding ravel precedence
ravel-own a = own_first 12 _ refl

pub interval-own : (G : ℤ) (a : Array) → own 13 (interval G a).refusals
    ≡ cond (not (is_list a)) (number RANK) (cond (not (eqb (length a.elements) 1)) (number LENGTH) (cond (negative (ends a)) (number DOMAIN) 0))
unfolding interval precedence
interval-own G a = own_first 13 _ refl

pub reshape-own : (l r : Array) → own 21 (reshape l r).refusals
    ≡ cond (not (is_list l)) (number RANK) (cond (not (every (λ z. not (negative z)) l.elements)) (number DOMAIN) 0)
unfolding reshape precedence
reshape-own l r = own_first 21 _ refl

-- 11, of an operand that is opened: the vector that it gives, and all that is known where it refused nothing.
module _ {s : Shape} {r : List ℤ} where
  pub shape-vector : Lent s r → Vector (lengths_of (array_of (lent s r))) s.rank (λ i. pos (get_or s.lens i 0))
  unfolding lengths_of
  shape-vector g = record { lengths = ap (λ n. n ∷ []) g.rank_is; element = λ i l. ap pos (axis-is s r i l) }

  pub shape-ready : {G : ℤ} → FineOne G s r → (K : ℤ) (L : Operand)
      → Ready 11 1 G K L (lent s r) (lengths_of (array_of (lent s r))) (shape_of (s.rank ∷ []))
  shape-ready {G} f K L =
      record { names = shape-names G K L (lent s r); fine = f.none; none = shape-own _; stands = vector-stands (shape-vector f.operand) refl }

  -- Its elements are the lengths.
  pub lengths-put : Lent s r → (n : ℕ) {last : List ℤ} → n ≡ s.rank → last ≡ tab n (λ i. element_of (get_or s.lens i 0))
      → last ≡ tab n (λ i. pos (get_or s.lens i 0))
  lengths-put g n e q =
      q ∙ tab-ext n _ _
      (λ i l.
      let small = rule-length s.rank s.lens i g.good (length-take-le s.rank s.lens (omega (arith, g.high, g.long))) (omega arith) in
      element-is (get_or s.lens i 0) (omega (arith, small)))

-- 12, of an operand that stays closed: n is the count of its elements.
module _ (R : Operand) {n : ℕ} (e : n ≡ length (array_of R).elements) where
  abbrev a : Array
  a = array_of R

  pub ravel-vector : Vector (ravel (array_of R)) n (λ i. get_or (array_of R).elements i (pos 0))
  unfolding ravel
  ravel-vector = record { lengths = ap (λ k. k ∷ []) (sym e); element = λ i l. refl }

  -- What the copy leaves.
  pub ravel-copied : (out : List ℤ) → n ≤ length out → copied (array_of R).elements out ≡ filled (λ i. get_or (array_of R).elements i (pos 0)) n out
  ravel-copied out h =
      copied-fits a.elements out (omega arith)
      ∙ ap (λ x. x ++ drop (length a.elements) out) (sym (tab-get_or a.elements (pos 0)))
      ∙ ap (λ k. filled (λ i. get_or a.elements i (pos 0)) k out) (sym e)

  module _ (G : ℤ) (z : early (good_form R) G ≡ 0) where
    pub ravel-ready : (K : ℤ) (L : Operand) → Ready 12 1 G K L R (ravel (array_of R)) (shape_of (n ∷ []))
    ravel-ready K L = record { names = ravel-names G K L R; fine = z; none = ravel-own (array_of R); stands = vector-stands ravel-vector refl }

    pub ravel-count : n ≡ count_of (shape_of (n ∷ []))
    ravel-count =
        let f = (early-fine G (good_form R) z).forms in
        let g = form-shape R f in
        vector-counted n (omega (arith, e, form-whole R f, count-of R.shape g, count-good R.shape g))

-- 13: n is the number whose interval it gives.
module _ (R : Operand) {n : ℕ} (e : n ≡ nat_abs (ends (array_of R))) (G : ℤ) (z : early (good_form R) G ≡ 0) where
  pub interval-vector : Vector (interval G (array_of R)) n (λ i. G +ℤ pos i)
  unfolding interval
  interval-vector =
      record { lengths = ap (λ k. k ∷ []) (sym e); element = λ i l. refl }

  pub interval-ready : own 13 (interval G (array_of R)).refusals ≡ 0 → {s : Shape} → s ≡ shape_of (n ∷ []) → (K : ℤ) (L : Operand)
      → Ready 13 1 G K L R (interval G (array_of R)) s
  interval-ready o q K L = record { names = interval-names G K L R; fine = z; none = o; stands = vector-stands interval-vector q }

-- The lengths and the elements that 21 gives.
pub reshape-lengths : (l r : Array) → (reshape l r).lengths ≡ map nat_abs l.elements
unfolding reshape
reshape-lengths l r = refl

pub reshape-out : (l r : Array) (out : List ℤ) {n : ℕ} → n ≡ count (reshape l r).lengths → filled (cycled r.elements) n out
    ≡ (build (reshape l r).lengths (reshape l r).element).elements ++ drop (count (reshape l r).lengths) out
unfolding reshape build cycled
reshape-out l r out e =
    let ns : List ℕ = map nat_abs l.elements in
    rw e (ap (λ x. x ++ drop (count ns) out) (tab-ext (count ns) _ _ (λ j h. ap (cycled r.elements) (sym (index-place ns j h)))))
