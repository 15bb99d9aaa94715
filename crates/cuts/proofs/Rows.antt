-- Two axes: the first of them chooses rows, and each row has one run of the same length.
use Prim.Native.Nat.{ℕ, ◌+◌, ◌*◌, ◌-◌, ◌≤◌, ◌<◌}
use native.Mathlib.Omega.{arith}
use mathlib.Core.Path.{◌≡◌, refl, sym, ap, ◌∙◌}
use mathlib.Core.List.{List, [], ◌∷◌}
use mathlib.Core.Bool.{Bool, true, false}
use lib.ListN.{length, get_or, take, drop}
use lib.IntN.{ℤ, pos}
use borrow.Rule.Slice.PartMut.{put_mid}
use Rattle.meaning.proofs.Tab.{get_or_part}
use Rattle.copying.specs.Runs.{copied}
use Rattle.copying.proofs.Runs.{put-copied}
use Rattle.copying.proofs.Parts.{filled_on}
use Rattle.copying.specs.Steps.{filled}
use Rattle.cuts.specs.declared.Axis.{Axis}
use Rattle.cuts.specs.Steps.{cut_at, Within, Fitting, Blank}
use Rattle.cuts.proofs.Cutting.{part, cut-before, cut-after, cut_inside, cut-run, cut-room}

-- The run of row i lies in the row, and both in their buffers.
abbrev Lies : Axis → Axis → ℕ → ℕ → ℕ → Type 0
Lies a b n m i =
    (b.start + b.width ≤ a.block) × ((a.first + b.first + i * a.stride + b.width ≤ n) × (a.start + i * a.block + a.block ≤ m))

module _ {a b : Axis} (r : List ℤ) {m : ℕ} (fits : Fitting (a ∷ (b ∷ [])) (length r) m) where
  f : Within a (length r) m
  f = fits.0

  h : Within b a.stride a.block
  h = fits.1.0

  even : b.stride ≡ b.block
  even = fits.1.1

  -- Where the run of row i stands in both buffers.
  abbrev source : ℕ → ℕ
  source i = a.first + b.first + i * a.stride

  abbrev target : ℕ → ℕ
  target i = a.start + b.start + i * a.block

  row-reads : b.first + b.width ≤ a.stride
  row-reads = let wide : b.len * b.stride ≡ b.len * b.block = ap (λ x. b.len * x) even in omega (arith, h.inner, h.wide)

  row_lies : (i : ℕ) → i < a.len → Lies a b (length r) m i
  row_lies i l = (h.room, (omega (arith, row-reads, (cut-room f i l).1), (cut-room f i l).0))

  -- What row i holds.
  row-run : (i k : ℕ) → i < a.len → k < b.width → cut_at (a ∷ (b ∷ [])) r (target i + k) ≡ get_or r (source i + k) (pos 0)
  row-run i k l w =
      let there : target i + k ≡ a.start + i * a.block + (b.start + k) = omega arith in
      let read : a.first + i * a.stride + (b.first + k) ≡ source i + k = omega arith in
      ap (cut_at (a ∷ (b ∷ [])) r) there
      ∙ cut_inside f (b ∷ []) r i (b.start + k) l (omega (arith, h.room))
      ∙ cut-run h (part a r i) k even w
      ∙ get_or_part r (a.first + i * a.stride) a.stride (b.first + k) (pos 0) (omega (arith, row-reads))
      ∙ ap (λ x. get_or r x (pos 0)) read

  row_before : (i k : ℕ) → i < a.len → k < b.start → cut_at (a ∷ (b ∷ [])) r (a.start + i * a.block + k) ≡ pos 0
  row_before i k l w = cut_inside f (b ∷ []) r i k l (omega (arith, h.room)) ∙ cut-before b [] (part a r i) k w

  row-after : (i k : ℕ) → i < a.len → b.start + b.width ≤ k → k < a.block → cut_at (a ∷ (b ∷ [])) r (a.start + i * a.block + k) ≡ pos 0
  row-after i k l w v = cut_inside f (b ∷ []) r i k l v ∙ cut-after b [] (part a r i) k w

  module _ {whole : Bool} (w : whole ≡ true → b.width ≡ a.block) {out₀ : List ℤ} (z : Blank whole a m out₀) where
    abbrev g : ℕ → ℤ
    g = cut_at (a ∷ (b ∷ [])) r

    -- A row with zeros stands in a buffer of zeros.
    blank-row : (j : ℕ) → j < m → (b.width ≡ a.block → ⊥) → get_or out₀ j (pos 0) ≡ pos 0
    blank-row j l n = by whole refl
      where
        by : (t : Bool) → whole ≡ t → get_or out₀ j (pos 0) ≡ pos 0
        by true e = absurd (n (w e))
        by false e = z.between e j l

    -- The run of row i.
    pub rows_step : {i : ℕ} {out last : List ℤ} → i < a.len → out ≡ filled g (a.start + i * a.block) out₀
        → last ≡ copied (take (source i + b.width - source i) (drop (source i) r)) (take (target i + b.width - target i) (drop (target i) out))
        → put_mid (target i) (target i + b.width - target i) out last ≡ filled g (a.start + (i + 1) * a.block) out₀
    rows_step {i} {out} l o q =
        let lies = row_lies i l in
        let rest : ℕ = a.block - (b.start + b.width) in
        let before : filled g (a.start + i * a.block) out₀ ≡ filled g (target i) out₀ =
        filled_on g (a.start + i * a.block) b.start out₀ (omega (arith, lies, z.long))
        (λ k l'. row_before i k l l' ∙ sym (blank-row (a.start + i * a.block + k) (omega (arith, lies)) (λ e. omega (arith, lies))))
        ∙ ap (λ n. filled g n out₀) (omega arith) in
        let place : (k : ℕ) → target i + b.width + k ≡ a.start + i * a.block + (b.start + b.width + k) = λ k. omega arith in
        put-copied g (target i) b.width _ out out₀ _ (o ∙ before) refl (omega (arith, lies, z.long)) r (source i) _ (pos 0) refl lies.1.0
        (λ k l'. row-run i k l l') q
        ∙ filled_on g (target i + b.width) rest out₀ (omega (arith, lies, z.long))
        (λ k l'.
        ap g (place k)
        ∙ row-after i (b.start + b.width + k) l (omega arith) (omega arith)
        ∙ sym (blank-row (target i + b.width + k) (omega (arith, lies)) (λ e. omega (arith, lies))))
        ∙ ap (λ n. filled g n out₀) (omega (arith, lies))
