-- Rows of a block that are chosen by position.
use mathlib.Core.Path.{◌≡◌, refl, ap, ◌∙◌}
use mathlib.Core.List.{List}
use mathlib.Core.Bool.{true, false}
use Prim.Native.Nat.{ℕ, ◌+◌, ◌-◌, ◌*◌, ◌≤◌, ◌<◌}
use native.Mathlib.Nat.{mul-one, div-one, mod-one, add-zero}
use lib.Arith.{digits_div, digits_mod}
use lib.ListN.{length, get_or, take, drop}
use lib.IntN.{ℤ, pos, negsuc, ◌-ℤ◌}
use borrow.Rule.Slice.PartMut.{put_mid}
use native.Mathlib.Omega.{arith}
use Rattle.shape.proofs.Bools.{no_way}
use Rattle.shape.proofs.Places.{row_fits}
use Rattle.meaning.specs.Terms.{negative, within}
use Rattle.meaning.proofs.Positions.{within-lt}
use Rattle.copying.specs.Runs.{copied}
use Rattle.copying.specs.Steps.{filled}
use Rattle.copying.proofs.Runs.{put-copied}
use Rattle.copying.proofs.Blockwise.{Blockwise, blockwise-room}
use Rattle.selects.specs.Steps.{Named, position_at, Positions, RowsFit, rows_at}

up : (z : ℤ) (n : ℕ) → within z n ≡ true → negative z ≡ false
unfolding within negative
up (pos m) n e = refl
up (negsuc m) n e = no_way e

-- The next block lies in the buffer as it is.
pub room-in : {outer size : ℕ} {g : ℕ → ℤ} {out₀ out : List ℤ} {at o : ℕ} → Blockwise outer size g out₀ out at o → o < outer
    → outer * size ≤ length out₀ → at + size ≤ length out
room-in b l h = rw b.long (blockwise-room b _ l h)

-- What is asked of one block where all numbers name positions of an axis of length n.
pub rows-fit : {p : Named} {n c m room : ℕ} → Positions p n → n * c ≤ m → length p.numbers * c ≤ room → RowsFit p c m room
rows-fit {p} {n} {c} h s r = record {
  known = λ i k. record { has = k; above = up (get_or p.numbers i (pos 0) -ℤ p.origin) n (h.inside i k) };
  source = λ i k. omega (arith, row_fits (position_at p i) n c (within-lt (get_or p.numbers i (pos 0) -ℤ p.origin) n (h.inside i k)), s);
  space = r;
}

-- A row of one element.
pub one-row : (p : Named) (r : List ℤ) (j : ℕ) → get_or r (position_at p j) (pos 0) ≡ rows_at p 1 r j
one-row p r j = rw (div-one, mod-one, mul-one, add-zero)

-- One row more.
module _ (p : Named) (r : List ℤ) (c : ℕ) {out₀ out : List ℤ} {at q : ℕ} (inv : Blockwise (length p.numbers) c (rows_at p c r) out₀ out at q) where
  pub row_more : (x : ℕ) (last : List ℤ) → x ≡ position_at p q → x * c + c ≤ length r → at + c ≤ length out₀
      → last ≡ copied (take (x * c + c - x * c) (drop (x * c) r)) (take (at + c - at) (drop at out))
      → put_mid at (at + c - at) out last ≡ filled (rows_at p c r) (at + c) out₀
  row_more x last e inside room run =
      put-copied (rows_at p c r) at c (at + c) out out₀ last inv.done refl room r (x * c) (x * c + c) (pos 0) refl inside
      (λ i h. ap (λ n. rows_at p c r (n + i)) inv.at-is ∙ rw (digits_div q h, digits_mod q h, e)) run
