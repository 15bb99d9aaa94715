-- 22: an operand beside the lengths of the higher rank.
use mathlib.Core.Path.{◌≡◌, refl, sym, ap, ap₂, subst, ◌∙◌}
use mathlib.Core.List.{List, [], ◌∷◌}
use mathlib.Core.Bool.{Bool, true, false, cond, ◌||◌}
use Prim.Native.Nat.{ℕ, suc, max, ◌≤◌, ◌<◌}
use native.Mathlib.Decide.{dec_lt}
use native.Mathlib.Omega.{arith}
use borrow.Author.Tests.{lt-ltb, le-ltb, eq-eqb, ne_eqb, eqb-true, eqb-false}
use lib.ListN.{length, get_or, set}
use lib.Dec.{eqb}
use lib.IntN.{pos}
use Rattle.shape.specs.Shape.{count, without}
use Rattle.shape.specs.Place.{index}
use Rattle.shape.proofs.Bools.{no_way, both}
use Rattle.shape.proofs.Places.{In}
use Rattle.meaning.specs.Array.{Array, at}
use Rattle.meaning.specs.Terms.{rank, axis, is_scalar, same_lengths}
use Rattle.meaning.specs.Primitives.{Side, side, higher, ranks_fit}
use Rattle.meaning.specs.Steps.{Beside, fit, side_at}
use Rattle.meaning.specs.Steps.Beside.{scalar, less, equal}
use Rattle.meaning.proofs.Scalars.{array-as}
use Rattle.meaning.proofs.Without.{index-without, same_set, count-without}

pub same-lengths : (ns : List ℕ) → same_lengths ns ns ≡ true
unfolding same_lengths
same-lengths [] = refl
same-lengths (n ∷ ns) = rw (eq-eqb n n refl) (same-lengths ns)

pub same-is : (ms ns : List ℕ) → same_lengths ms ns ≡ true → ms ≡ ns
unfolding same_lengths
same-is [] [] h = refl
same-is [] (n ∷ ns) h = no_way h
same-is (m ∷ ms) [] h = no_way h
same-is (m ∷ ms) (n ∷ ns) h =
    let t = both (eqb m n) (same_lengths ms ns) h in
    ap₂ (λ x q. x ∷ q) (eqb-true m n t.0) (same-is ms ns t.1)

-- An operand of the higher rank, which is not a scalar's, counts as it is.
abbrev pub whole : Array → ℕ → Side
whole a k = record { extent = axis a k; others = without k a.lengths; element = at a }

-- One of a rank less counts as length 1.
abbrev pub lower : Array → ℕ → Side
lower a k = record { extent = 1; others = a.lengths; element = λ p. at a (without k p) }

-- A scalar is repeated.
abbrev pub repeated : Array → List ℕ → ℕ → Side
repeated a ns k = record { extent = 1; others = without k ns; element = λ p. at a [] }

module _ (ns : List ℕ) (k : ℕ) (a : Array) where
  pub side-whole : 0 < rank a → rank a ≡ length ns → side ns k a ≡ whole a k
  unfolding side
  side-whole h e = rw (ne_eqb (rank a) 0 (λ z. omega arith), ne_eqb (suc (rank a)) (length ns) (λ z. omega arith))

  pub side-lower : 0 < rank a → suc (rank a) ≡ length ns → side ns k a ≡ lower a k
  unfolding side
  side-lower h e = rw (ne_eqb (rank a) 0 (λ z. omega arith), eq-eqb (suc (rank a)) (length ns) e)

  pub side-scalar : rank a ≡ 0 → side ns k a ≡ repeated a ns k
  unfolding side
  side-scalar h = rw (eq-eqb (rank a) 0 h)

pub higher-left : (a b : Array) → 0 < rank a → rank b ≤ rank a → higher a b ≡ a.lengths
unfolding higher
higher-left a b h e = rw (le-ltb (rank a) (rank b) e) (ap (λ c. c.lengths) (array-as 1 a h))

pub higher-right : (a b : Array) → rank a < rank b → higher a b ≡ b.lengths
unfolding higher
higher-right a b h = rw (lt-ltb (rank a) (rank b) h)

pub higher-scalars : (a b : Array) → rank a ≡ 0 → rank b ≡ 0 → higher a b ≡ 1 ∷ []
unfolding higher
higher-scalars a b h e = rw (le-ltb (rank a) (rank b) (omega arith), eq-eqb (rank a) 0 h)

pub higher-rank : (a b : Array) → length (higher a b) ≡ max 1 (max (rank a) (rank b))
higher-rank a b = by (dec_lt (rank a) (rank b))
  where
    by : Dec (rank a < rank b) → length (higher a b) ≡ max 1 (max (rank a) (rank b))
    by (yes h) = ap length (higher-right a b h) ∙ omega arith
    by (no h) =
        elim (dec_lt 0 (rank a)) [
          | yes p ↦ ap length (higher-left a b p (omega arith))
              ∙ omega arith
          | no p ↦ ap length (higher-scalars a b (omega arith) (omega arith)) ∙ omega arith
        ]

pub beside-near : {r n : ℕ} → Beside r n → 0 < r → (r ≤ n) × (n ≤ suc r)
beside-near (scalar h) p = absurd (omega arith)
beside-near (less h e) p = (omega arith, omega arith)
beside-near (equal h e) p = (omega arith, omega arith)

pub beside-as : {r n s m : ℕ} → Beside r n → r ≡ s → n ≡ m → Beside s m
beside-as (scalar h) e f = scalar (omega arith)
beside-as (less h q) e f = less (omega arith) (omega arith)
beside-as (equal h q) e f = equal (omega arith) (omega arith)

fit-beside : (a b n : ℕ) → n ≡ max 1 (max a b) → fit a b ≡ true → Beside a n × Beside b n
fit-beside a b n e = by (eqb a 0) (eqb b 0) (eqb a b) (eqb (suc a) b) (eqb (suc b) a) refl refl refl refl refl
  where
    rest : (m : ℕ) → (m ≡ 0 → ⊥) → 0 < m
    rest m h = omega arith

    by : (p q r s t : Bool) → eqb a 0 ≡ p → eqb b 0 ≡ q → eqb a b ≡ r → eqb (suc a) b ≡ s → eqb (suc b) a ≡ t → (p || q || r || s || t) ≡ true
        → Beside a n × Beside b n
    by true true r s t ep eq er es et h = (scalar (eqb-true a 0 ep), scalar (eqb-true b 0 eq))
    by true false r s t ep eq er es et h =
        let b> = rest b (eqb-false b 0 eq) in
        (scalar (eqb-true a 0 ep), equal b> (omega (arith, eqb-true a 0 ep)))
    by false true r s t ep eq er es et h =
        let a> = rest a (eqb-false a 0 ep) in
        (equal a> (omega (arith, eqb-true b 0 eq)), scalar (eqb-true b 0 eq))
    by false false true s t ep eq er es et h =
        let a> = rest a (eqb-false a 0 ep) in
        let b> = rest b (eqb-false b 0 eq) in
        (equal a> (omega (arith, eqb-true a b er)), equal b> (omega (arith, eqb-true a b er)))
    by false false false true t ep eq er es et h =
        let a> = rest a (eqb-false a 0 ep) in
        let b> = rest b (eqb-false b 0 eq) in
        (less a> (omega (arith, eqb-true (suc a) b es)), equal b> (omega (arith, eqb-true (suc a) b es)))
    by false false false false true ep eq er es et h =
        let a> = rest a (eqb-false a 0 ep) in
        let b> = rest b (eqb-false b 0 eq) in
        (equal a> (omega (arith, eqb-true (suc b) a et)), less b> (omega (arith, eqb-true (suc b) a et)))
    by false false false false false ep eq er es et h = no_way h

pub ranks-beside : (a b : Array) → ranks_fit a b ≡ true → Beside (rank a) (length (higher a b)) × Beside (rank b) (length (higher a b))
unfolding ranks_fit
ranks-beside a b h = fit-beside (rank a) (rank b) (length (higher a b)) (higher-rank a b) h

-- The extent.
pub side-extent : (ns : List ℕ) (k : ℕ) (a : Array) → 0 < length ns → Beside (rank a) (length ns)
    → (side ns k a).extent ≡ cond (eqb (rank a) (length ns)) (axis a k) 1
side-extent ns k a n> (scalar h) = ap (λ s. s.extent) (side-scalar ns k a h) ∙ sym (rw (ne_eqb (rank a) (length ns) (λ z. omega arith)))
side-extent ns k a n> (less h e) = ap (λ s. s.extent) (side-lower ns k a h e) ∙ sym (rw (ne_eqb (rank a) (length ns) (λ z. omega arith)))
side-extent ns k a n> (equal h e) = ap (λ s. s.extent) (side-whole ns k a h e) ∙ sym (rw (eq-eqb (rank a) (length ns) e))

scalar_index : (ns : List ℕ) → length ns ≡ 0 → index ns [] ≡ 0
unfolding index
scalar_index [] h = refl
scalar_index (n ∷ ns) h = absurd (omega arith)

-- A side whose other lengths agree has its elements row by row, as an array of the higher lengths with its extent at axis k.
module _ (ns : List ℕ) (k : ℕ) (a : Array) (l : k < length ns) where
  abbrev Flat : Side → Type 0
  Flat s = (p : List ℕ) → In (set ns k s.extent) p → s.element p ≡ side_at (is_scalar a) a.elements (index (set ns k s.extent) p)

  abbrev Agrees : Side → Type 0
  Agrees s = s.others ≡ without k ns

  pub side-flat : Beside (rank a) (length ns) → Agrees (side ns k a) → Flat (side ns k a)
  unfolding at
  side-flat (scalar h) o =
      subst Flat (sym (side-scalar ns k a h))
      (λ p i. rw (eq-eqb (rank a) 0 h) (ap (λ x. get_or a.elements x (pos 0)) (scalar_index a.lengths h)))
  side-flat (less h e) o =
      let q : a.lengths ≡ without k ns = subst Agrees (side-lower ns k a h e) o in
      subst Flat (sym (side-lower ns k a h e))
      (λ p i.
      rw (ne_eqb (rank a) 0 (λ z. omega arith))
      (ap (λ x. get_or a.elements x (pos 0)) (ap (λ t. index t (without k p)) q ∙ index-without ns k p l i)))
  side-flat (equal h e) o =
      let q : without k a.lengths ≡ without k ns = subst Agrees (side-whole ns k a h e) o in
      subst Flat (sym (side-whole ns k a h e))
      (λ p i.
      rw (ne_eqb (rank a) 0 (λ z. omega arith))
      (ap (λ t. get_or a.elements (index t p) (pos 0)) (same_set a.lengths ns k e l q)))

  -- So it has as many.
  pub side-count : Beside (rank a) (length ns) → Agrees (side ns k a) → 0 < rank a → count a.lengths ≡ count (set ns k (side ns k a).extent)
  side-count (scalar h) o r = absurd (omega arith)
  side-count (less h e) o r =
      ap count (subst Agrees (side-lower ns k a h e) o) ∙ count-without ns k l ∙ ap (λ s. count (set ns k s.extent)) (sym (side-lower ns k a h e))
  side-count (equal h e) o r =
      ap count (same_set a.lengths ns k e l (subst Agrees (side-whole ns k a h e) o)) ∙ ap (λ s. count (set ns k s.extent)) (sym (side-whole ns k a h e))
