-- The loop of expand over the mask of a block: the positions that were passed are filled.
use mathlib.Core.Path.{◌≡◌, sym, ap, ◌∙◌}
use mathlib.Core.List.{List}
use mathlib.Core.Bool.{Bool, true, false}
use Prim.Native.Nat.{ℕ, ◌+◌, ◌*◌, ◌-◌, ◌≤◌, ◌<◌}
use native.Mathlib.Nat.{mul-le-mul_right, zero-mul}
use native.Mathlib.Omega.{arith}
use lib.ListN.{length, get_or, take, drop, set, replicate}
use lib.IntN.{ℤ, pos}
use borrow.Rule.Slice.PartMut.{put_mid}
use Rattle.meaning.specs.Array.{tab}
use Rattle.meaning.specs.Terms.{ones_from, ones}
use Rattle.copying.specs.Runs.{copied}
use Rattle.masks.specs.Steps.Actions.{one_at}
use Rattle.masks.specs.Steps.Rows.{opened_rows, Stretch}
use Rattle.masks.proofs.Ones.{before, before-most, before-one, before-other, one_below}
use Rattle.masks.proofs.Stretches.{ones-add, ones-pass, others-pass, rows-size}
use Rattle.masks.proofs.Filling.{one-is, one-zero, RowsFrom, rows_more, zeros-more}
use Rattle.masks.proofs.Written.{run_inside, Written, written_none, written-whole, written-room, written_one, MoreRuns}

pub record Opened (l r : List ℤ) (c : ℕ) (out₀ out : List ℤ) (from to i : ℕ) : Type 0 where
  pub within : i ≤ length l
  pub source : from ≡ before i l * c
  pub written : Written (opened_rows l c r) c out₀ out to i

pub opened-none : (l r : List ℤ) (c : ℕ) (out₀ : List ℤ) → Opened l r c out₀ out₀ 0 0 0
unfolding ones_from
opened-none l r c out₀ = record { within = omega arith; source = sym (zero-mul c); written = written_none (opened_rows l c r) c out₀ }

module _ {l r : List ℤ} {c : ℕ} {out₀ out : List ℤ} {from to i : ℕ} (k : Opened l r c out₀ out from to i) (room : length out₀ ≡ length l * c) where
  pub opened-all : length l ≤ i → out ≡ tab (length l * c) (opened_rows l c r)
  opened-all h = written-whole k.written (length l) (omega (arith, k.within)) room

  module _ (h : i < length l) where
    pub opened-room : to + c ≤ length out₀
    opened-room = written-room k.written (length l) h (omega arith)

    -- One row more, of r or of zeros.
    module _ {next : List ℤ} (w : Written (opened_rows l c r) c out₀ next (to + c) (i + 1)) where
      pub opened-next : one_at l i ≡ true → Opened l r c out₀ next (from + c) (to + c) (i + 1)
      opened-next e = record { within = omega arith; source = rw (before-one l i h e) (omega (arith, k.source)); written = w }

      opened-past : one_at l i ≡ false → Opened l r c out₀ next from (to + c) (i + 1)
      opened-past e = record { within = omega arith; source = rw (before-other l i h e) k.source; written = w }

    pub opened_inside : one_at l i ≡ true → length r ≡ length (ones l) * c → from + c ≤ length r
    opened_inside e all = run_inside c from (before i l) (length (ones l)) (length r) k.source (one_below l i h e) (omega arith)

-- A stretch of positions: rows of zeros, or rows of r.
module _ {l r : List ℤ} {c : ℕ} {out₀ out : List ℤ} {from i e : ℕ} (k : Opened l r c out₀ out from (i * c) i) (room : length out₀ ≡ length l * c) where
  more : {b : Bool} → Stretch b l i e → MoreRuns (opened_rows l c r) c out₀ out (i * c) i (e - i) (e * c) e
  more s = record {
    written = k.written;
    end = omega (arith, rows-size i e c s.starts, mul-le-mul_right {m = i} {n = e} c s.starts);
    room = omega (arith, mul-le-mul_right {m = e} {n = length l} c s.within);
    all = omega (arith, s.starts);
  }

  pub opened-gap : Stretch false l i e → (last : List ℤ) → last ≡ replicate (length (take (e * c - i * c) (drop (i * c) out))) (pos 0)
      → Opened l r c out₀ (put_mid (i * c) (e * c - i * c) out last) from (e * c) e
  opened-gap s last w =
      record {
        within = s.within;
        source = k.source ∙ ap (λ x. x * c) (sym (others-pass s));
        written = zeros-more (one_at l) (λ j. before j l) c r (more s) (λ j h. s.alike (i + j) (omega arith) (omega arith)) last w;
      }

  ones-from : Stretch true l i e → from + (e * c - i * c) ≤ length r
      → RowsFrom (one_at l) (λ j. before j l) c r i (e - i) (before i l) from (from + (e * c - i * c))
  ones-from s inside = record {
    takes = λ j h. s.alike (i + j) (omega arith) (omega arith);
    rows = λ j h. ones-add s j (omega arith);
    at = k.source;
    ends = ap (λ x. from + x) (rows-size i e c s.starts);
    inside = inside;
  }

  pub opened-run : Stretch true l i e → from + (e * c - i * c) ≤ length r → (last : List ℤ)
      → last ≡ copied (take (from + (e * c - i * c) - from) (drop from r)) (take (e * c - i * c) (drop (i * c) out))
      → Opened l r c out₀ (put_mid (i * c) (e * c - i * c) out last) (from + (e * c - i * c)) (e * c) e
  opened-run s inside last w =
      record {
        within = s.within;
        source = rw (ones-pass s, rows-size i e c s.starts) (omega (arith, k.source));
        written = rows_more (one_at l) (λ j. before j l) c r (more s) (ones-from s inside) last w;
      }

-- The rows of r for a stretch of ones after a gap.
pub opened_rows_lem : {l r : List ℤ} {c : ℕ} {out₀ out : List ℤ} {from to i first next : ℕ} → Opened l r c out₀ out from to i
    → Stretch false l i first → Stretch true l first next → length r ≡ length (ones l) * c → from + (next * c - first * c) ≤ length r
opened_rows_lem {l = l} {c = c} {i = i} {first = first} {next = next} k a b all =
    let most = mul-le-mul_right {m = before next l} {n = length (ones l)} c (before-most l next) in
    let here : before next l * c ≡ (before i l + (next - first)) * c = ap (λ x. x * c) (ones-pass b ∙ ap (λ x. x + (next - first)) (others-pass a)) in
    omega (arith, k.source, rows-size first next c b.starts, most, here)

-- Where a row is one element.
module _ {l r out₀ out : List ℤ} {from i : ℕ} (k : Opened l r 1 out₀ out from i i) (room : length out₀ ≡ length l * 1) (h : i < length l) (v : ℤ) where
  pub opened_one : one_at l i ≡ true → v ≡ get_or r from (pos 0) → Opened l r 1 out₀ (set out i v) (from + 1) (i + 1) (i + 1)
  opened_one e w =
      let here = one-is (one_at l) (λ j. before j l) r i from e (omega (arith, k.source)) in
      opened-next k room h (written_one k.written (omega arith) v (w ∙ sym here)) e

  pub opened-zero : one_at l i ≡ false → v ≡ pos 0 → Opened l r 1 out₀ (set out i v) from (i + 1) (i + 1)
  opened-zero e w =
      opened-past k room h (written_one k.written (omega arith) v (w ∙ sym (one-zero (one_at l) (λ j. before j l) r i e))) e
