-- What a mask makes of the rows of a block, by its action.
use mathlib.Core.Path.{◌≡◌, refl, sym, ap, ap₂, ◌∙◌}
use mathlib.Core.List.{List}
use mathlib.Core.Bool.{Bool, true, false, not, cond, ◌||◌}
use Prim.Native.Nat.{ℕ, ◌*◌, ◌<◌}
use native.Mathlib.Nat.{one-mul}
use native.Mathlib.Omega.{arith}
use borrow.Author.Tests.{eqb-true, eq-eqb, ne_eqb}
use lib.ListN.{length, get_or}
use lib.Dec.{eqb}
use lib.IntN.{ℤ}
use Rattle.meaning.specs.Array.{tab}
use Rattle.meaning.specs.Terms.{ones}
use Rattle.copying.specs.declared.AxisBlocks.{AxisBlocks}
use Rattle.masks.specs.Steps.Actions.{suits, width, takes_at, taken}
use Rattle.masks.specs.Steps.Rows.{rowed, kept_rows, opened_rows, rows_of, Block, ByNotes, Opens}
use Rattle.masks.proofs.Ones.{ones_lt, one_below, full-before, full-one, full_at}

-- What the test of a constant flag tells.
pub flag_on : (n : ℕ) → (n ≡ 0 → ⊥) → not (eqb n 0) ≡ true
flag_on n h = ap not (ne_eqb n 0 h)

pub flag_off : (n : ℕ) → n ≡ 0 → not (eqb n 0) ≡ false
flag_off n h = ap not (eq-eqb n 0 h)

-- A mask that compresses an axis of any length but 1 has an element for each position.
pub mask_long : (l : List ℤ) (n : ℕ) → suits false l n ≡ true → (n ≡ 1 → ⊥) → length l ≡ n
unfolding suits
mask_long l n f o = eqb-true (length l) n (ap (λ x. x || eqb (length l) n) (sym (ne_eqb n 1 o)) ∙ f)

-- A block by its action x, of rows of d elements.
module _ {a : Bool} {l : List ℤ} {b : AxisBlocks} {from to : ℕ} (k : Block a l b from to) where
  module _ {x : Bool} (h : a ≡ x) where
    use-fits : suits x l b.taken ≡ true
    use-fits = ap (λ y. suits y l b.taken) (sym h) ∙ k.fitting

    use-ready : (n : ℕ) → b.taken ≡ n → {d : ℕ} → b.inner ≡ d → (from ≡ n * d) × (to ≡ width x l * d)
    use-ready n o q = (k.source ∙ ap₂ (λ y z. y * z) o q, k.room ∙ ap₂ (λ y z. y * z) (k.wide ∙ ap (λ y. width y l) h) q)

    use-block : (r : List ℤ) {d : ℕ} → b.inner ≡ d → tab (width x l * d) (rows_of x l b.taken d r) ≡ tab (b.made * b.inner) (rows_of a l b.taken b.inner r)
    use-block r q = rw (k.wide, h, q)

  -- Where it expands.
  module _ (h : a ≡ true) where
    pub expand-ready : {d : ℕ} → b.inner ≡ d → (from ≡ length (ones l) * d) × (to ≡ length l * d)
    unfolding width suits
    expand-ready q = use-ready h _ (sym (eqb-true (length (ones l)) b.taken (use-fits h))) q

    pub expand-block : (r : List ℤ) {d : ℕ} → b.inner ≡ d → tab (length l * d) (opened_rows l d r) ≡ tab (b.made * b.inner) (rows_of a l b.taken b.inner r)
    unfolding width takes_at taken
    expand-block r q = use-block h r q

    pub noted-opens : {at : List ℕ} {out : List ℤ} → to ≡ length out → ByNotes l at b.inner (length out) out → Opens l at b.inner from out
    noted-opens q by =
        let e = expand-ready refl in
        record { short = by.short; notes = by.notes; source = e.0; room = sym q ∙ e.1; blank = by.blank }

  -- Where it compresses an axis of length 1.
  module _ (h : a ≡ false) (o : b.taken ≡ 1) where
    pub repeat-source : from ≡ b.inner
    repeat-source = k.source ∙ ap (λ x. x * b.inner) o ∙ one-mul b.inner

    pub repeat-block : (r : List ℤ) → tab (b.made * b.inner) (rowed (λ i. true) (λ i. 0) b.inner r) ≡ tab (b.made * b.inner) (rows_of a l b.taken b.inner r)
    unfolding takes_at taken
    repeat-block r =
        ap (λ y. tab (b.made * b.inner) (rowed (λ i. true) (λ i. cond y 0 (get_or (ones l) i 0)) b.inner r)) (sym (eq-eqb b.taken 1 o))
        ∙ ap (λ x. tab (b.made * b.inner) (rows_of x l b.taken b.inner r)) (sym h)

  -- Where it compresses any other.
  module _ (h : a ≡ false) (o : b.taken ≡ 1 → ⊥) where
    pub compress-ready : {d : ℕ} → b.inner ≡ d → (from ≡ length l * d) × (to ≡ length (ones l) * d)
    unfolding width
    compress-ready q = use-ready h _ (sym (mask_long l b.taken (use-fits h) o)) q

    pub compress-block : (r : List ℤ) {d : ℕ} → b.inner ≡ d
        → tab (length (ones l) * d) (kept_rows (ones l) d r) ≡ tab (b.made * b.inner) (rows_of a l b.taken b.inner r)
    unfolding width takes_at taken
    compress-block r {d} q =
        ap (λ y. tab (length (ones l) * d) (rowed (λ i. true) (λ i. cond y 0 (get_or (ones l) i 0)) d r)) (sym (ne_eqb b.taken 1 o)) ∙ use-block h r q

-- Where there are as many positions as before, each takes itself.
pub taken-same : (a : Bool) (l : List ℤ) (n i : ℕ) → suits a l n ≡ true → n ≡ width a l → i < n → (takes_at a l i ≡ true) × (taken a l n i ≡ i)
unfolding suits width takes_at taken
taken-same true l n i f w h =
    let full : length (ones l) ≡ length l = eqb-true (length (ones l)) n f ∙ w in
    (full-one l full i (omega arith), full-before l full i (omega arith))
taken-same false l n i f w h = (refl, by (eqb n 1) refl f)
  where
    by : (b : Bool) → eqb n 1 ≡ b → (b || eqb (length l) n) ≡ true → cond b 0 (get_or (ones l) i 0) ≡ i
    by true q g = omega (arith, eqb-true n 1 q)
    by false q g = let all = eqb-true (length l) n g in full_at l (sym (all ∙ w)) i (omega arith)

-- What is taken is a position of the axis.
pub taken-lt : (a : Bool) (l : List ℤ) (n i : ℕ) → suits a l n ≡ true → i < width a l → takes_at a l i ≡ true → taken a l n i < n
unfolding suits width takes_at taken
taken-lt true l n i f w t = omega (arith, one_below l i w t, eqb-true (length (ones l)) n f)
taken-lt false l n i f w t = by (eqb n 1) refl f
  where
    by : (b : Bool) → eqb n 1 ≡ b → (b || eqb (length l) n) ≡ true → cond b 0 (get_or (ones l) i 0) < n
    by true q g = omega (arith, eqb-true n 1 q)
    by false q g = omega (arith, ones_lt 0 l i w, eqb-true (length l) n g)
