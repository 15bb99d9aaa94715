-- Rows written after the rows before them.
use mathlib.Core.Path.{◌≡◌, sym, ap, ◌∙◌}
use mathlib.Core.List.{List}
use mathlib.Core.Bool.{Bool, true, false, cond}
use Prim.Native.Nat.{ℕ, ◌+◌, ◌*◌, ◌-◌, ◌/◌, ◌%◌, ◌≤◌, ◌<◌}
use native.Mathlib.Nat.{add-zero, mul-one, div-one, mod-one, mod-lt, div-add-mod'}
use native.Mathlib.Omega.{arith}
use lib.ListN.{length, get_or, take, drop, replicate}
use lib.Arith.{digits_div, digits_mod}
use lib.IntN.{ℤ, pos}
use borrow.Rule.Slice.PartMut.{put_mid}
use Rattle.shape.proofs.Places.{row_in}
use Rattle.copying.specs.Runs.{copied}
use Rattle.copying.proofs.Runs.{put-copied, put-filled}
use Rattle.masks.specs.Steps.Rows.{rowed}
use Rattle.masks.proofs.Written.{Written, MoreRuns, written-run}

-- Where a row is one element.
module _ (t : ℕ → Bool) (φ : ℕ → ℕ) (r : List ℤ) (q : ℕ) where
  pub one-is : (p : ℕ) → t q ≡ true → φ q ≡ p → rowed t φ 1 r q ≡ get_or r p (pos 0)
  one-is p e f = rw (div-one q, mod-one q, e, f, mul-one p, add-zero p)

  pub one-zero : t q ≡ false → rowed t φ 1 r q ≡ pos 0
  one-zero e = rw (div-one q, e)

-- The n rows from row q on are those of r from row p on: its part from .. stop.
pub record RowsFrom (t : ℕ → Bool) (φ : ℕ → ℕ) (c : ℕ) (r : List ℤ) (q n p from stop : ℕ) : Type 0 where
  pub takes : (j : ℕ) → j < n → t (q + j) ≡ true
  pub rows : (j : ℕ) → j < n → φ (q + j) ≡ p + j
  pub at : from ≡ p * c
  pub ends : stop ≡ from + n * c
  pub inside : stop ≤ length r

pub row_from : {t : ℕ → Bool} {φ : ℕ → ℕ} {c : ℕ} {r : List ℤ} {q p from : ℕ} → t q ≡ true → φ q ≡ p → from ≡ p * c → from + c ≤ length r
    → RowsFrom t φ c r q 1 p from (from + c)
row_from {t} {φ} {q = q} {p = p} e f at inside =
    record { takes = λ j h. ap t (same q j h) ∙ e; rows = λ j h. ap φ (same q j h) ∙ f ∙ sym (same p j h); at = at; ends = omega arith; inside = inside }
  where
    same : (x j : ℕ) → j < 1 → x + j ≡ x
    same x j h = omega arith

-- They are written after the q rows before them.
module _ (t : ℕ → Bool) (φ : ℕ → ℕ) (c : ℕ) (r : List ℤ) {out₀ out : List ℤ} {to q n e q' : ℕ} (d : MoreRuns (rowed t φ c r) c out₀ out to q n e q') where
  -- Element x of them, by its row.
  element : (x : ℕ) → x < n * c → rowed t φ c r (to + x) ≡ cond (t (q + x / c)) (get_or r (φ (q + x / c) * c + x % c) (pos 0)) (pos 0)
  element x h =
      let in_row : to + x ≡ (q + x / c) * c + x % c = omega (arith, d.written.at, div-add-mod' x c) in
      let low = mod-lt x (row_in n c x h).0 in
      ap (rowed t φ c r) in_row ∙ rw (digits_div (q + x / c) low, digits_mod (q + x / c) low)

  -- They are rows of r.
  pub rows_more : {p from stop : ℕ} → RowsFrom t φ c r q n p from stop → (last : List ℤ)
      → last ≡ copied (take (stop - from) (drop from r)) (take (e - to) (drop to out)) → Written (rowed t φ c r) c out₀ (put_mid to (e - to) out last) e q'
  rows_more {p} {from} {stop} s last v =
      written-run d
      (put-copied _ to (n * c) e out out₀ last d.written.filling d.end d.room r from stop (pos 0) s.ends s.inside alike v)
    where
      alike : (x : ℕ) → x < n * c → rowed t φ c r (to + x) ≡ get_or r (from + x) (pos 0)
      alike x h =
          let row = (row_in n c x h).1 in
          let there : (p + x / c) * c + x % c ≡ from + x = omega (arith, s.at, div-add-mod' x c) in
          element x h ∙ rw (s.takes (x / c) row, s.rows (x / c) row, there)

  -- They are zeros.
  pub zeros-more : ((j : ℕ) → j < n → t (q + j) ≡ false) → (last : List ℤ) → last ≡ replicate (length (take (e - to) (drop to out))) (pos 0)
      → Written (rowed t φ c r) c out₀ (put_mid to (e - to) out last) e q'
  zeros-more z last v =
      written-run d
      (put-filled _ to (n * c) e out out₀ last d.written.filling d.end d.room (pos 0) (λ x h. element x h ∙ rw (z (x / c) (row_in n c x h).1)) v)
