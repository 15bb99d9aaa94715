-- A loop that fills a buffer block by block.
use Prim.Native.Nat.{ℕ, ◌+◌, ◌*◌, ◌-◌, ◌≤◌, ◌<◌}
use native.Mathlib.Omega.{arith}
use mathlib.Core.Path.{◌≡◌, refl, ap, ◌∙◌}
use mathlib.Core.List.{List}
use lib.ListN.{length, set, take, drop, length-set}
use lib.IntN.{ℤ, pos}
use borrow.Rule.Slice.PartMut.{put_mid, same_len_mid}
use Rattle.shape.proofs.Places.{row_fits}
use Rattle.copying.specs.Steps.{filled}
use Rattle.copying.proofs.Runs.{filled_none, filled-one}

-- After o blocks of so many elements, up to `at`, where g says what the elements are.
pub record Blockwise (outer size : ℕ) (g : ℕ → ℤ) (out₀ out : List ℤ) (at o : ℕ) : Type 0 where
  pub some : o ≤ outer
  pub at-is : at ≡ o * size
  pub long : length out ≡ length out₀
  pub done : out ≡ filled g at out₀

pub blockwise-none : (outer size : ℕ) (g : ℕ → ℤ) (out : List ℤ) → Blockwise outer size g out out 0 0
blockwise-none outer size g out = record { some = omega arith; at-is = omega arith; long = refl; done = filled_none g out }

module _ {outer size : ℕ} {g : ℕ → ℤ} {out₀ out : List ℤ} {at o : ℕ} (b : Blockwise outer size g out₀ out at o) where
  -- The next block lies in a buffer that has all of them.
  pub blockwise-room : (m : ℕ) → o < outer → outer * size ≤ m → at + size ≤ m
  blockwise-room m l h = omega (arith, b.at-is, row_fits o outer size l)

  -- The place by the number of blocks, for a loop that keeps no place.
  pub blockwise-at : Blockwise outer size g out₀ out (o * size) o
  blockwise-at = record { some = b.some; at-is = refl; long = b.long; done = b.done ∙ ap (λ k. filled g k out₀) b.at-is }

  -- A block more, and the same where it was written to the part that was lent.
  pub blockwise-more : (next : List ℤ) → o < outer → length next ≡ length out → next ≡ filled g (at + size) out₀
      → Blockwise outer size g out₀ next (at + size) (o + 1)
  blockwise-more next l k e = record { some = omega arith; at-is = omega (arith, b.at-is); long = k ∙ b.long; done = e }

  pub blockwise-next : (last : List ℤ) → o < outer → length last ≡ length (take (at + size - at) (drop at out))
      → put_mid at (at + size - at) out last ≡ filled g (at + size) out₀
      → Blockwise outer size g out₀ (put_mid at (at + size - at) out last) (at + size) (o + 1)
  blockwise-next last l k e = blockwise-more (put_mid at (at + size - at) out last) l (same_len_mid at (at + size - at) out last k) e

  pub blockwise-all : outer ≤ o → out ≡ filled g (outer * size) out₀
  blockwise-all h =
      let e : o ≡ outer = omega (arith, b.some) in
      b.done ∙ ap (λ k. filled g k out₀) (b.at-is ∙ ap (λ k. k * size) e)

-- Blocks of one element, which is stored.
pub blockwise-one : {outer : ℕ} {g : ℕ → ℤ} {out₀ out : List ℤ} {i : ℕ} (b : Blockwise outer 1 g out₀ out i i) → i < outer → outer ≤ length out₀
    → (v : ℤ) → v ≡ g i → Blockwise outer 1 g out₀ (set out i v) (i + 1) (i + 1)
blockwise-one {g = g} {out₀} {out} {i} b l room v e =
    blockwise-more b (set out i v) l (length-set out i v) (ap (λ x. set x i v) b.done ∙ filled-one g (pos 0) v i out₀ (omega arith) e)
