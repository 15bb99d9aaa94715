-- What a result holds through the first axis of a table.
use Prim.Native.Nat.{ℕ, ◌+◌, ◌*◌, ◌-◌, ◌/◌, ◌%◌, ◌≤◌, ◌<◌}
use native.Mathlib.Nat.{mod-lt, div-add-mod', mul-le-mul_right}
use native.Mathlib.Omega.{arith}
use mathlib.Core.Path.{◌≡◌, refl, sym, ap, ap₂, ◌∙◌, subst}
use mathlib.Core.List.{List, [], ◌∷◌}
use mathlib.Core.Bool.{Bool, and-false}
use borrow.Author.Tests.{le-leb, lt-leb, lt-ltb, le-ltb}
use lib.Arith.{digits_div, digits_mod}
use lib.Dec.{leb}
use lib.ListN.{length, get_or, take, drop}
use lib.IntN.{ℤ, pos}
use Rattle.shape.proofs.Places.{row_in, row_fits}
use Rattle.meaning.specs.Array.{tab}
use Rattle.meaning.proofs.Tab.{length-tab, get_or-tab, tab-get_or, get_or_part}
use Rattle.copying.specs.Runs.{copied}
use Rattle.copying.proofs.Runs.{filled_none, length-filled, filled-whole, copied-whole, put-list, put-copied}
use Rattle.copying.proofs.Parts.{filled_on, part_room, part-long}
use Rattle.copying.specs.Steps.{filled}
use borrow.Rule.Slice.PartMut.{put_mid}
use Rattle.cuts.specs.declared.Axis.{Axis}
use Rattle.cuts.specs.Steps.{cut_at, Within, Fitting, Blank}

-- Zeros before the window and after it.
pub cut-before : (a : Axis) (rest : List Axis) (r : List ℤ) (j : ℕ) → j < a.start → cut_at (a ∷ rest) r j ≡ pos 0
unfolding cut_at
cut-before a rest r j h = rw (lt-leb a.start j h)

pub cut-after : (a : Axis) (rest : List Axis) (r : List ℤ) (j : ℕ) → a.start + a.width ≤ j → cut_at (a ∷ rest) r j ≡ pos 0
unfolding cut_at
cut-after a rest r j h = rw (le-ltb j (a.start + a.width) h, and-false (leb a.start j))

-- The part of the operand that position i of the window has.
abbrev pub part : Axis → List ℤ → ℕ → List ℤ
part a r i = take a.stride (drop (a.first + i * a.stride) r)

module _ {a : Axis} {n m : ℕ} (f : Within a n m) where
  -- Position i of the window holds what the windows of the later axes leave of its part.
  pub cut_inside : (rest : List Axis) (r : List ℤ) (i k : ℕ) → i < a.len → k < a.block
      → cut_at (a ∷ rest) r (a.start + i * a.block + k) ≡ cut_at rest (part a r i) k
  unfolding cut_at
  cut_inside rest r i k p h =
      let j : ℕ = a.start + i * a.block + k in
      let sub : j - a.start ≡ i * a.block + k = omega arith in
      let q : (j - a.start) / a.block ≡ i = ap (λ x. x / a.block) sub ∙ digits_div i h in
      let m : (j - a.start) % a.block ≡ k = ap (λ x. x % a.block) sub ∙ digits_mod i h in
      rw (q, m, le-leb a.start j (omega arith), lt-ltb j (a.start + a.width) (omega (arith, f.wide, row_fits i a.len a.block p)))

  -- The last window is one run.
  pub cut-run : (r : List ℤ) (k : ℕ) → a.stride ≡ a.block → k < a.width → cut_at (a ∷ []) r (a.start + k) ≡ get_or r (a.first + k) (pos 0)
  unfolding cut_at
  cut-run r k e h =
      let c : ℕ = a.block in
      let split : a.start + k ≡ a.start + k / c * c + k % c = omega (arith, div-add-mod' k c) in
      let l : k % c < a.stride = omega (arith, mod-lt k f.some) in
      ap (cut_at (a ∷ []) r) split
      ∙ cut_inside [] r (k / c) (k % c) (row_in a.len c k (omega (arith, f.wide))).1 (mod-lt k f.some)
      ∙ get_or_part r (a.first + k / c * a.stride) a.stride (k % c) (pos 0) l
      ∙ ap (λ x. get_or r x (pos 0)) (let s = ap (λ y. k / c * y) e in omega (arith, div-add-mod' k c))

  -- Position i lies in both buffers.
  pub cut-room : (i : ℕ) → i < a.len → (a.start + i * a.block + a.block ≤ m) × (a.first + i * a.stride + a.stride ≤ n)
  cut-room i h = (omega (arith, f.room, f.wide, row_fits i a.len a.block h), omega (arith, f.inner, row_fits i a.len a.stride h))

-- What fits a table fits its first axis and the others.
pub fits_on : {t : List Axis} {a : Axis} {rest : List Axis} {n m : ℕ} → t ≡ a ∷ rest → Fitting t n m → Within a n m × Fitting rest a.stride a.block
fits_on {n = n} {m = m} e h = subst (λ x. Fitting x n m) e h

-- Without an axis it is a copy.
pub cut-nothing : (t : List Axis) (r out : List ℤ) {last : List ℤ} → length t ≡ 0 → Fitting t (length r) (length out) → last ≡ copied r out
    → last ≡ tab (length out) (cut_at t r)
unfolding cut_at
cut-nothing [] r out l h q = q ∙ copied-whole r out h ∙ sym (tab-get_or r (pos 0)) ∙ ap (λ n. tab n (λ i. get_or r i (pos 0))) h
cut-nothing (a ∷ rest) r out l h q = absurd (omega arith)

-- How `out`, of m elements, is filled: the zeros first, then the window, as one run or part by part.
module _ {t : List Axis} {a : Axis} {rest : List Axis} (e : t ≡ a ∷ rest) (r : List ℤ) {m : ℕ} (f : Within a (length r) m) {whole : Bool}
    {out₀ : List ℤ} (z : Blank whole a m out₀) where
  abbrev g : ℕ → ℤ
  g = cut_at t r

  is : (j : ℕ) → g j ≡ cut_at (a ∷ rest) r j
  is j = ap (λ x. cut_at x r j) e

  pub cut-long : {i : ℕ} {out : List ℤ} → i ≤ a.len → out ≡ filled g (a.start + i * a.block) out₀ → length out ≡ m
  cut-long {i} h o =
      ap length o
      ∙ length-filled g (a.start + i * a.block) out₀ (omega (arith, f.room, f.wide, z.long, mul-le-mul_right {m = i} {n = a.len} a.block h))
      ∙ z.long

  zeros-first : out₀ ≡ filled g a.start out₀
  zeros-first =
      filled_none g out₀
      ∙ filled_on g 0 a.start out₀ (omega (arith, f.room, z.long))
      (λ i l. is (0 + i) ∙ cut-before a rest r (0 + i) (omega arith) ∙ sym (z.before (0 + i) (omega arith)))
      ∙ ap (λ n. filled g n out₀) (omega arith)

  zeros-last : filled g (a.start + a.width) out₀ ≡ tab m g
  zeros-last =
      let stop : ℕ = a.start + a.width in
      filled_on g stop (m - stop) out₀ (omega (arith, f.room, z.long))
      (λ i l. is (stop + i) ∙ cut-after a rest r (stop + i) (omega arith) ∙ sym (z.after (stop + i) (omega arith) (omega arith)))
      ∙ filled-whole g (stop + (m - stop)) out₀ (omega (arith, z.long))
      ∙ ap (λ k. tab k g) (omega (arith, f.room))

  -- Before position 0 and after the last.
  pub cut-begin : out₀ ≡ filled g (a.start + 0 * a.block) out₀
  cut-begin = zeros-first ∙ ap (λ n. filled g n out₀) (omega arith)

  pub cut-end : {i : ℕ} {out : List ℤ} → i ≡ a.len → out ≡ filled g (a.start + i * a.block) out₀ → out ≡ tab m g
  cut-end {i} q o = o ∙ ap (λ n. filled g n out₀) (ap (λ x. a.start + x * a.block) q ∙ omega (arith, f.wide)) ∙ zeros-last

  -- The last window.
  pub cut-last : {last : List ℤ} → length rest ≡ 0 → Fitting rest a.stride a.block
      → last ≡ copied (take (a.first + a.width - a.first) (drop a.first r)) (take (a.start + a.width - a.start) (drop a.start out₀))
      → put_mid a.start (a.start + a.width - a.start) out₀ last ≡ tab m g
  cut-last {last} l p q = by rest e p (none rest l)
    where
      none : {A : Type 0} (xs : List A) → length xs ≡ 0 → xs ≡ []
      none [] h = refl
      none (x ∷ xs) h = absurd (omega arith)

      by : (w : List Axis) → t ≡ a ∷ w → Fitting w a.stride a.block → w ≡ [] → put_mid a.start (a.start + a.width - a.start) out₀ last ≡ tab m g
      by (x ∷ w) d p n = absurd (let no : ⊥ = cc in no)
      by [] d p n =
          let wide : a.len * a.stride ≡ a.width = ap (λ x. a.len * x) p ∙ sym f.wide in
          put-copied g a.start a.width (a.start + a.width) out₀ out₀ last zeros-first refl (omega (arith, f.room, z.long)) r a.first
          (a.first + a.width) (pos 0) refl (omega (arith, f.inner)) (λ i h. ap (λ x. cut_at x r (a.start + i)) d ∙ cut-run f r i p h) q
          ∙ zeros-last

  -- A window before it: the part of position i.
  module _ {i : ℕ} {out : List ℤ} (h : i < a.len) (o : out ≡ filled g (a.start + i * a.block) out₀) where
    abbrev here : ℕ
    here = a.start + i * a.block

    abbrev there : ℕ
    there = a.first + i * a.stride

    pub into-wide : length (take (here + a.block - here) (drop here out)) ≡ a.block
    into-wide = part_room out here a.block m (cut-long (omega arith) o) (cut-room f i h).0

    pub of-wide : length (take (there + a.stride - there) (drop there r)) ≡ a.stride
    of-wide = part-long r there a.stride (cut-room f i h).1

    pub cut_step : {last : List ℤ}
        → last ≡ tab (length (take (here + a.block - here) (drop here out))) (cut_at rest (take (there + a.stride - there) (drop there r)))
        → put_mid here (here + a.block - here) out last ≡ filled g (a.start + (i + 1) * a.block) out₀
    cut_step {last} q =
        let k : there + a.stride - there ≡ a.stride = omega arith in
        let inner : last ≡ tab a.block (cut_at rest (part a r i)) = q ∙ ap₂ (λ x y. tab x (cut_at rest (take y (drop there r)))) into-wide k in
        put-list g (pos 0) here a.block _ out out₀ last o refl (ap length inner ∙ length-tab a.block _)
        (λ k s. is (here + k) ∙ cut_inside f rest r i k h s ∙ sym (ap (λ ys. get_or ys k (pos 0)) inner ∙ get_or-tab a.block _ k (pos 0) s))
        ∙ ap (λ x. filled g x out₀) (omega arith)
