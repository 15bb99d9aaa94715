-- An axis in the flat list of elements: blocks of rows, a row the elements after one position of the axis.
use mathlib.Core.Path.{◌≡◌, refl, sym, ap, ap₂, ◌∙◌}
use mathlib.Core.List.{List}
use mathlib.Core.Bool.{Bool, true, cond}
use Prim.Native.Nat.{ℕ, suc, ◌+◌, ◌-◌, ◌*◌, ◌/◌, ◌%◌, ◌≤◌, ◌<◌}
use native.Mathlib.Nat.{div-lt_iff_lt-mul, mod-lt, div-add-mod'}
use native.Mathlib.Omega.{arith}
use lib.ListN.{length, get_or, take, drop, set}
use lib.Arith.{digits_lt, digits_div, digits_mod}
use lib.IntN.{ℤ, pos}
use borrow.Rule.Slice.PartMut.{put_mid}
use Rattle.shape.specs.Shape.{count}
use Rattle.shape.specs.Place.{index, place}
use Rattle.shape.proofs.Bools.{cond_same}
use Rattle.shape.proofs.Places.{row_in}
use Rattle.shape.proofs.Axis.{axis-position, axis-position-lt, axis-index}
use Rattle.meaning.specs.Array.{Array, at, tab, build}
use Rattle.meaning.specs.Terms.{rank, axis, along}
use Rattle.meaning.proofs.Tab.{length-tab, get_or-tab, tab-ext, get_or_part}
use Rattle.copying.specs.Steps.{filled, source}
use Rattle.copying.proofs.Runs.{put-list}

-- Element x of row q of block o.
pub source-at : (m n c : ℕ) (φ : ℕ → ℕ) (o q x : ℕ) → q < m → x < c → source m n c φ ((o * m + q) * c + x) ≡ (o * n + φ q) * c + x
source-at m n c φ o q x h l = rw (digits_div (o * m + q) l, digits_mod (o * m + q) l, digits_div o h, digits_mod o h)

-- Element i of block o.
pub source_in : (m n c : ℕ) (φ : ℕ → ℕ) (o i : ℕ) → i < m * c → source m n c φ (o * (m * c) + i) ≡ (o * n + φ (i / c)) * c + i % c
source_in m n c φ o i h =
    let w = row_in m c i h in
    let split : i ≡ i / c * c + i % c = sym (div-add-mod' i c) in
    let e : o * (m * c) + i ≡ (o * m + i / c) * c + i % c = omega arith in
    ap (source m n c φ) e ∙ source-at m n c φ o (i / c) (i % c) w.1 (mod-lt i w.0)

-- The row of element i of block o.
pub row_of : (m c o i : ℕ) → i < m * c → (o * (m * c) + i) / c % m ≡ i / c
row_of m c o i h =
    let w = row_in m c i h in
    let e : o * (m * c) + i ≡ (o * m + i / c) * c + i % c = omega (arith, div-add-mod' i c) in
    ap (λ y. y / c % m) e ∙ ap (λ y. y % m) (digits_div (o * m + i / c) (mod-lt i w.0)) ∙ digits_mod o w.1

-- What is read lies in the source.
pub source-lt : (o m n c j : ℕ) (φ : ℕ → ℕ) → φ (j / c % m) < n → 0 < c → 0 < m → j < o * m * c → source m n c φ j < o * n * c
source-lt o m n c j φ h c> m> l =
    let q : j / c < o * m = (div-lt_iff_lt-mul c>).1 l in
    digits_lt (digits_lt ((div-lt_iff_lt-mul m>).1 q) h) (mod-lt j c>)

-- One block more: row i of block o is row φ i of the source's block o where t i, else zeros.
module _ (t : ℕ → Bool) (φ : ℕ → ℕ) (n m c : ℕ) (r : List ℤ) (o : ℕ) (low : (i : ℕ) → i < m → t i ≡ true → φ i < n) where
  -- Element i of the block, by a list that begins with the source's.
  abbrev rowed : List ℤ → ℕ → ℤ
  rowed xs i = cond (t (i / c)) (get_or xs (φ (i / c) * c + i % c) (pos 0)) (pos 0)

  -- Element j of all blocks.
  abbrev placed : ℕ → ℤ
  placed j = cond (t (j / c % m)) (get_or r (source m n c φ j) (pos 0)) (pos 0)

  block_at : (i from size : ℕ) → i < m * c → from ≡ o * (n * c) → n * c ≤ size → placed (o * (m * c) + i) ≡ rowed (take size (drop from r)) i
  block_at i from size h f s =
      let w = row_in m c i h in
      let x : i % c < c = mod-lt i w.0 in
      ap₂ (λ y z. cond (t y) (get_or r z (pos 0)) (pos 0)) (row_of m c o i h) (source_in m n c φ o i h)
      ∙ cond_same (pos 0) (t (i / c))
      (λ v.
      let inside : φ (i / c) * c + i % c < n * c = digits_lt (low (i / c) w.1 v) x in
      let same : (o * n + φ (i / c)) * c + i % c ≡ from + (φ (i / c) * c + i % c) = omega arith in
      ap (λ y. get_or r y (pos 0)) same ∙ sym (get_or_part r from size (φ (i / c) * c + i % c) (pos 0) (omega arith)))

  pub put-block : (out out₀ last : List ℤ) (from to : ℕ) → out ≡ filled placed to out₀ → to ≡ o * (m * c) → from ≡ o * (n * c)
      → last ≡ tab (m * c) (rowed (take (from + n * c - from) (drop from r)))
      → put_mid to (to + m * c - to) out last ≡ filled placed (to + m * c) out₀
  put-block out out₀ last from to f a b q =
      put-list placed (pos 0) to (m * c) (to + m * c) out out₀ last f refl (ap length q ∙ length-tab (m * c) _)
      (λ i h.
      ap (λ y. placed (y + i)) a
      ∙ block_at i from (from + n * c - from) h b (omega arith)
      ∙ sym (ap (λ y. get_or y i (pos 0)) q ∙ get_or-tab (m * c) _ i (pos 0) h))

-- The bridge: a result that is a move along axis k where t says so, else zeros, on the flat list.
module _ (a : Array) (k m : ℕ) (t : ℕ → Bool) (φ : ℕ → ℕ) (l : k < rank a) (h : (i : ℕ) → i < m → t i ≡ true → φ i < axis a k) where
  abbrev ns : List ℕ
  ns = a.lengths

  abbrev c : ℕ
  c = count (drop (suc k) a.lengths)

  moved_at : (j : ℕ) → j < count (set a.lengths k m) → t (j / c % m) ≡ true
      → get_or a.elements (index a.lengths (set (place (set a.lengths k m) j) k (φ (j / c % m)))) (pos 0)
      ≡ get_or a.elements (source m (axis a k) c φ j) (pos 0)
  moved_at j j< w =
      ap (λ x. get_or a.elements x (pos 0))
      (axis-index ns k m j l j< (φ (j / c % m)) (h _ (rw (axis-position ns k m j l j<) at (axis-position-lt ns k m j l j<)) w))

  pub along-source : (build (set a.lengths k m) (λ p. cond (t (get_or p k 0)) (along a k φ p) (pos 0))).elements
      ≡ tab (count (set a.lengths k m)) (λ j. cond (t (j / c % m)) (get_or a.elements (source m (axis a k) c φ j) (pos 0)) (pos 0))
  unfolding along build at
  along-source =
      tab-ext (count (set ns k m)) _ _
      (λ j j<.
      ap (λ x. cond (t x) (get_or a.elements (index ns (set (place (set ns k m) j) k (φ x))) (pos 0)) (pos 0)) (axis-position ns k m j l j<)
      ∙ cond_same (pos 0) (t (j / c % m)) (moved_at j j<))
