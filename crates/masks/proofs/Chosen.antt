-- The loops that write rows of r one after another: row i is row φ i of r.
use mathlib.Core.Path.{◌≡◌, refl, sym, ap, ◌∙◌, subst}
use mathlib.Core.List.{List}
use mathlib.Core.Bool.{true}
use Prim.Native.Nat.{ℕ, ◌+◌, ◌*◌, ◌%◌, ◌-◌, ◌≤◌, ◌<◌}
use native.Mathlib.Nat.{zero-mul, mod-one}
use native.Mathlib.Omega.{arith}
use lib.ListN.{length, get_or, take, drop, replicate, length-replicate, get_or-replicate}
use lib.Seq.{take_all}
use lib.IntN.{ℤ, pos}
use borrow.Rule.Slice.PartMut.{put_mid}
use Rattle.meaning.specs.Array.{tab}
use Rattle.copying.specs.Runs.{copied}
use Rattle.copying.proofs.Runs.{tab-is}
use Rattle.masks.specs.Steps.Rows.{rowed}
use Rattle.masks.proofs.Filling.{row_from, rows_more}
use Rattle.masks.proofs.Written.{Written, written_none, written-whole, written-room, run-next}

abbrev pub chosen : (ℕ → ℕ) → ℕ → List ℤ → ℕ → ℤ
chosen φ c r = rowed (λ i. true) φ c r

pub record Chosen (φ : ℕ → ℕ) (r : List ℤ) (m c : ℕ) (out₀ out : List ℤ) (to i : ℕ) : Type 0 where
  pub within : i ≤ m
  pub written : Written (chosen φ c r) c out₀ out to i

pub chosen_none : (φ : ℕ → ℕ) (r : List ℤ) (m c : ℕ) (out₀ : List ℤ) → Chosen φ r m c out₀ out₀ 0 0
chosen_none φ r m c out₀ = record { within = omega arith; written = written_none (chosen φ c r) c out₀ }

-- Where the next row begins, as a loop counts it.
pub chosen_none_at : (φ : ℕ → ℕ) (r : List ℤ) (m c : ℕ) (out₀ : List ℤ) → Chosen φ r m c out₀ out₀ (0 * c) 0
chosen_none_at φ r m c out₀ = subst (λ x. Chosen φ r m c out₀ out₀ x 0) (sym (zero-mul c)) (chosen_none φ r m c out₀)

pub chosen-next : {φ : ℕ → ℕ} {r : List ℤ} {m c : ℕ} {out₀ next : List ℤ} (i : ℕ) → Chosen φ r m c out₀ next (i * c + c) (i + 1)
    → Chosen φ r m c out₀ next ((i + 1) * c) (i + 1)
chosen-next {φ} {r} {m} {c} {out₀} {next} i k =
    subst (λ x. Chosen φ r m c out₀ next x (i + 1)) (let e : i * c + c ≡ (i + 1) * c = omega arith in e) k

module _ {φ : ℕ → ℕ} {r : List ℤ} {m c : ℕ} {out₀ out : List ℤ} {to i : ℕ} (k : Chosen φ r m c out₀ out to i) (room : length out₀ ≡ m * c) where
  pub chosen-all : m ≤ i → out ≡ tab (m * c) (chosen φ c r)
  chosen-all h = written-whole k.written m (omega (arith, k.within)) room

  module _ (h : i < m) where
    pub chosen-room : to + c ≤ length out₀
    chosen-room = written-room k.written m h (omega arith)

    pub chosen-row : (from : ℕ) → from ≡ φ i * c → from + c ≤ length r → (last : List ℤ)
        → last ≡ copied (take (from + c - from) (drop from r)) (take (to + c - to) (drop to out))
        → Chosen φ r m c out₀ (put_mid to (to + c - to) out last) (to + c) (i + 1)
    chosen-row from at inside last w = record {
      within = omega arith;
      written =
          rows_more (λ j. true) φ c r (run-next k.written chosen-room) (row_from refl refl at inside) last w;
    }

-- One row, repeated. Where it is one element.
pub repeated-one : (r : List ℤ) (m c : ℕ) (out₀ : List ℤ) (x : ℤ) → c ≡ 1 → length out₀ ≡ m * c → x ≡ get_or r 0 (pos 0)
    → replicate (length out₀) x ≡ tab (m * c) (chosen (λ i. 0) c r)
repeated-one r m c out₀ x e room w =
    tab-is (replicate (length out₀) x) x (m * c) (chosen (λ i. 0) c r) (length-replicate (length out₀) x ∙ room)
    (λ j h.
    ap (λ k. get_or r (0 * k + j % k) (pos 0)) e
    ∙ ap (λ k. get_or r (0 + k) (pos 0)) (mod-one j)
    ∙ sym w ∙ sym (get_or-replicate (length out₀) j x x (omega arith)))

pub repeated-row : {r : List ℤ} {m c : ℕ} {out₀ out : List ℤ} {to i : ℕ} (k : Chosen (λ j. 0) r m c out₀ out to i) → length out₀ ≡ m * c → i < m → length r ≡ c
    → (last : List ℤ) → last ≡ copied r (take (to + c - to) (drop to out))
    → Chosen (λ j. 0) r m c out₀ (put_mid to (to + c - to) out last) (to + c) (i + 1)
repeated-row {r} {m} {c} {out = out} {to = to} k room h s last w =
    let whole : take (0 + c - 0) r ≡ r = take_all (0 + c - 0) r (omega arith) in
    chosen-row k room h 0 (sym (zero-mul c)) (omega arith) last (w ∙ ap (λ x. copied x (take (to + c - to) (drop to out))) (sym whole))
