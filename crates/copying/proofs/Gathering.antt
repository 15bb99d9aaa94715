-- Rows that are gathered: one row more, one block more.
use mathlib.Core.Path.{◌≡◌, refl, sym, ap, ap₂, ◌∙◌}
use mathlib.Core.List.{List}
use mathlib.Core.Bool.{Bool, true, false, cond, ◌&&◌, and-false}
use Prim.Native.Nat.{ℕ, ◌+◌, ◌-◌, ◌*◌, ◌/◌, ◌%◌, ◌≤◌, ◌<◌}
use native.Mathlib.Nat.{mul-one, div-one, mod-one, add-zero, mul-le-mul, mul-le-mul_right, mod-lt, div-add-mod', le-div_iff_mul-le}
use native.Mathlib.Omega.{arith}
use borrow.Author.Tests.{leb-true, ltb-true, le-leb, lt-leb, lt-ltb, le-ltb}
use lib.Arith.{digits_lt, digits_div, digits_mod}
use lib.Dec.{leb, ltb}
use lib.ListN.{length, get_or, take, drop}
use lib.IntN.{ℤ, pos}
use mir.Syntax.{w64}
use mir.Val.{Fits}
use borrow.Rule.Slice.PartMut.{put_mid}
use Rattle.shape.specs.Shape.{max_count}
use Rattle.shape.proofs.Bools.{both}
use Rattle.shape.proofs.Places.{row_in, row_fits}
use Rattle.meaning.specs.Array.{tab}
use Rattle.meaning.specs.Terms.{every}
use Rattle.meaning.proofs.Every.{every-at}
use Rattle.meaning.proofs.Tab.{length-tab, get_or-tab, get_or_part}
use Rattle.copying.specs.declared.AxisBlocks.{AxisBlocks}
use Rattle.copying.specs.Runs.{copied}
use Rattle.copying.specs.Gather.{small_blocks, gathers, gathered_at}
use Rattle.copying.specs.Gather.{rows_by}
use Rattle.copying.specs.Steps.{filled}
use Rattle.copying.proofs.Runs.{put-copied}
use Rattle.copying.proofs.Parts.{put-between}
use Rattle.copying.proofs.Blocks.{source_in, row_of}
use Rattle.copying.proofs.Blockwise.{Blockwise}

-- A row of one element.
pub one-row : (at : List ℕ) (r : List ℤ) (q : ℕ) → get_or r (get_or at q 0) (pos 0) ≡ rows_by at 1 r q
one-row at r q = rw (div-one, mod-one, mul-one, add-zero)

-- One row more.
pub row_more : (at : List ℕ) (r : List ℤ) (c : ℕ) {out₀ out : List ℤ} {to q : ℕ} → Blockwise (length at) c (rows_by at c r) out₀ out to q
    → get_or at q 0 * c + c ≤ length r → to + c ≤ length out₀ → (last : List ℤ)
    → last ≡ copied (take (get_or at q 0 * c + c - get_or at q 0 * c) (drop (get_or at q 0 * c) r)) (take (to + c - to) (drop to out))
    → put_mid to (to + c - to) out last ≡ filled (rows_by at c r) (to + c) out₀
row_more at r c {out₀} {out} {to} {q} inv inside room last run =
    put-copied (rows_by at c r) to c (to + c) out out₀ last inv.done refl room r (get_or at q 0 * c) _ (pos 0) refl inside
    (λ i h. ap (λ n. rows_by at c r (n + i)) inv.at-is ∙ rw (digits_div q h, digits_mod q h)) run

-- What is known where no count is above the limit, and where rows can be gathered.
pub record Small (b : AxisBlocks) : Type 0 where
  pub outer : b.outer ≤ max_count
  pub taken : b.taken ≤ max_count
  pub made : b.made ≤ max_count
  pub inner : b.inner ≤ max_count

pub record Gathers (at : List ℕ) (first : ℕ) (b : AxisBlocks) (n m : ℕ) : Type 0 where
  pub small : Small b
  pub source : b.outer * (b.taken * b.inner) ≤ n
  pub room : b.outer * (b.made * b.inner) ≤ m
  pub fits : first + length at ≤ b.made
  pub inside : (q : ℕ) → q < length at → get_or at q 0 < b.taken

module _ {b : AxisBlocks} where
  pub small_is : small_blocks b ≡ true → Small b
  unfolding small_blocks every
  small_is e =
      let outer = both _ _ e in
      let taken = both _ _ outer.1 in
      let made = both _ _ taken.1 in
      record {
        outer = leb-true _ _ outer.0;
        taken = leb-true _ _ taken.0;
        made = leb-true _ _ made.0;
        inner = leb-true _ _ (both _ _ made.1).0;
      }

  pub small_by : Small b → small_blocks b ≡ true
  unfolding small_blocks every
  small_by s = rw (le-leb b.outer _ s.outer, le-leb b.taken _ s.taken, le-leb b.made _ s.made, le-leb b.inner _ s.inner)

  module _ {at : List ℕ} {first n m : ℕ} where
    pub gathers-is : gathers at first b n m ≡ true → Gathers at first b n m
    unfolding gathers
    gathers-is e =
        let s = both _ _ e in
        let from = both _ _ s.1 in
        let to = both _ _ from.1 in
        let fit = both _ _ to.1 in
        record {
          small = small_is s.0;
          source = leb-true _ _ from.0;
          room = leb-true _ _ to.0;
          fits = leb-true _ _ fit.0;
          inside = λ q h. ltb-true _ _ (every-at (λ x. ltb x b.taken) at 0 fit.1 q h);
        }

-- Where the blocks lie in their buffers and the rows in their blocks, the positions are left to be asked.
pub gathers-by : (at : List ℕ) (first : ℕ) (b : AxisBlocks) (n m : ℕ) → small_blocks b ≡ true → b.outer * (b.taken * b.inner) ≤ n
    → b.outer * (b.made * b.inner) ≤ m → first + length at ≤ b.made → gathers at first b n m ≡ every (λ x. ltb x b.taken) at
unfolding gathers
gathers-by at first b n m s h k f = rw (s, le-leb _ n h, le-leb _ m k, le-leb (first + length at) b.made f)

-- The product of two numbers within the limit is held, and of three.
pub product-two : {n c : ℕ} → n ≤ max_count → c ≤ max_count → Fits w64 (n * c)
product-two k l = let p = mul-le-mul k l in record { fits = omega arith }

pub product-three : {o n c : ℕ} → o ≤ max_count → n ≤ max_count → c ≤ max_count → Fits w64 (o * (n * c))
product-three h k l = let p = mul-le-mul h (mul-le-mul k l) in record { fits = omega arith }

-- Block o lies in both buffers, and the rows that it is given in it.
pub block-lies : {at : List ℕ} {first : ℕ} {b : AxisBlocks} {n m : ℕ} → Gathers at first b n m → (o : ℕ) → o < b.outer
    → (o * (b.taken * b.inner) + b.taken * b.inner ≤ n)
    × ((first * b.inner + length at * b.inner ≤ b.made * b.inner) × (o * (b.made * b.inner) + b.made * b.inner ≤ m))
block-lies {at} {first} {b} k o h = (
  omega (arith, row_fits o b.outer (b.taken * b.inner) h, k.source),
  (
    omega (arith, mul-le-mul_right {m = first + length at} {n = b.made} b.inner k.fits),
    omega (arith, row_fits o b.outer (b.made * b.inner) h, k.room),
  ),
)

-- One block more: its rows from `first` on are gathered, and the others stay.
module _ (r out₀ : List ℤ) {at : List ℕ} {first : ℕ} {b : AxisBlocks} (k : Gathers at first b (length r) (length out₀)) (o : ℕ) (h : o < b.outer) where
  abbrev c : ℕ
  c = b.inner

  abbrev size : ℕ
  size = b.taken * b.inner

  abbrev part : ℕ
  part = b.made * b.inner

  abbrev g : ℕ → ℤ
  g = gathered_at at first b r out₀

  -- Element y of the block, whose row the positions have or have not.
  abbrev has : ℕ → Bool
  has y = leb first (y / c) && ltb (y / c) (first + length at)

  element : (y : ℕ) → y < part
      → g (o * part + y) ≡ cond (has y) (get_or r ((o * b.taken + get_or at (y / c - first) 0) * c + y % c) (pos 0)) (get_or out₀ (o * part + y) (pos 0))
  element y l =
      ap₂ (λ i j. cond (leb first i && ltb i (first + length at)) (get_or r j (pos 0)) (get_or out₀ (o * part + y) (pos 0))) (row_of b.made c o y l)
      (source_in b.made b.taken c (λ i. get_or at (i - first) 0) o y l)

  stays : (y : ℕ) → y < part → has y ≡ false → g (o * part + y) ≡ get_or out₀ (o * part + y) (pos 0)
  stays y l e = element y l ∙ rw e

  stays-before : (y : ℕ) → y < first * c → y < part → g (o * part + y) ≡ get_or out₀ (o * part + y) (pos 0)
  stays-before y l u = stays y u (rw (lt-leb first (y / c) (row_in first c y l).1))

  stays_after : (y : ℕ) → (first + length at) * c ≤ y → y < part → g (o * part + y) ≡ get_or out₀ (o * part + y) (pos 0)
  stays_after y l u =
      let end : first + length at ≤ y / c = (le-div_iff_mul-le {k = c} {x = first + length at} {y = y} (row_in b.made c y u).0).1 l in
      stays y u (rw (le-ltb (y / c) (first + length at) end, and-false (leb first (y / c))))

  gathered-row : (i : ℕ) → i < length at * c
      → g (o * part + (first * c + i)) ≡ rows_by at c (take (o * size + size - o * size) (drop (o * size) r)) i
  gathered-row i l =
      let w = row_in (length at) c i l in
      let split : first * c + i ≡ (first + i / c) * c + i % c = omega (arith, div-add-mod' i c) in
      let row : (first * c + i) / c ≡ first + i / c = ap (λ y. y / c) split ∙ digits_div (first + i / c) (mod-lt i w.0) in
      let place : (first * c + i) % c ≡ i % c = ap (λ y. y % c) split ∙ digits_mod (first + i / c) (mod-lt i w.0) in
      let at-is : first + i / c - first ≡ i / c = omega arith in
      let inside : first * c + i < part = omega (arith, block-lies k o h) in
      let there : (o * b.taken + get_or at (i / c) 0) * c + i % c ≡ o * size + (get_or at (i / c) 0 * c + i % c) = omega arith in
      let low : get_or at (i / c) 0 * c + i % c < size = digits_lt (k.inside (i / c) w.1) (mod-lt i w.0) in
      element (first * c + i) inside
      ∙ rw (row, place, le-leb first (first + i / c) (omega arith), lt-ltb (first + i / c) (first + length at) (omega (arith, w.1)), at-is, there)
      (sym (get_or_part r (o * size) (o * size + size - o * size) (get_or at (i / c) 0 * c + i % c) (pos 0) (omega arith)))

  pub block_more : {out : List ℤ} → out ≡ filled g (o * part) out₀ → (last : List ℤ)
      → last ≡ tab (length at * c) (rows_by at c (take (o * size + size - o * size) (drop (o * size) r))) → (to : ℕ) → to ≡ o * part + first * c
      → put_mid to (to + length at * c - to) out last ≡ filled g (o * part + part) out₀
  block_more done last q to e =
      let lies = block-lies k o h in
      put-between g (o * part) part (first * c) (length at * c) out₀ last done (omega (arith, lies)) (omega (arith, lies))
      (λ y l. stays-before y l (omega (arith, lies)))
      (ap length q ∙ length-tab (length at * c) _)
      (λ i l. gathered-row i l ∙ sym (ap (λ ys. get_or ys i (pos 0)) q ∙ get_or-tab (length at * c) _ i (pos 0) l))
      (λ y l u. stays_after y (omega arith) u)
      to e
