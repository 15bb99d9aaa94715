-- The loop of compress over the mask of a block: the rows at the ones that were passed stand in front.
use mathlib.Core.Path.{◌≡◌, refl, sym, ap, ◌∙◌}
use mathlib.Core.List.{List}
use mathlib.Core.Bool.{true, false}
use mathlib.Core.Logic.{⊎_elim}
use Prim.Native.Nat.{ℕ, ◌+◌, ◌*◌, ◌-◌, ◌≤◌, ◌<◌}
use native.Mathlib.Nat.{eq-or-lt_of_le, mul-le-mul_right}
use native.Mathlib.Omega.{arith}
use lib.ListN.{length, get_or, take, drop, set, length-set}
use lib.Seq.{get_or-set_same, get_or-set_other}
use lib.IntN.{ℤ, pos}
use borrow.Rule.Slice.PartMut.{put_mid}
use Rattle.meaning.specs.Array.{tab}
use Rattle.meaning.specs.Terms.{ones_from, ones}
use Rattle.copying.specs.Runs.{copied}
use Rattle.copying.proofs.Runs.{filled-whole, tab-is}
use Rattle.copying.specs.Steps.{filled}
use Rattle.masks.specs.Steps.Actions.{one_at}
use Rattle.masks.specs.Steps.Rows.{kept_rows, Stretch}
use Rattle.masks.proofs.Ones.{before, before-none, before-few, before-all, before-most, before-one, before-other, one-at}
use Rattle.masks.proofs.Filling.{one-is, RowsFrom, rows_more}
use Rattle.masks.proofs.Stretches.{from_first, ones-add, ones-pass, others-pass, rows-size}
use Rattle.masks.proofs.Written.{Written, written_none, MoreRuns}

pub record Kept (l r : List ℤ) (c : ℕ) (out₀ out : List ℤ) (to i : ℕ) : Type 0 where
  pub within : i ≤ length l
  pub written : Written (kept_rows (ones l) c r) c out₀ out to (before i l)

pub kept-none : (l r : List ℤ) (c : ℕ) (out₀ : List ℤ) → Kept l r c out₀ out₀ 0 0
unfolding ones_from
kept-none l r c out₀ = record { within = omega arith; written = written_none (kept_rows (ones l) c r) c out₀ }

module _ {l r : List ℤ} {c : ℕ} {out₀ out : List ℤ} {to i : ℕ} (k : Kept l r c out₀ out to i) (room : length out₀ ≡ length (ones l) * c) where
  -- The last row stands where the buffer ends.
  pub kept_full : length out₀ ≤ to → out ≡ tab (length (ones l) * c) (kept_rows (ones l) c r)
  kept_full h =
      let most = mul-le-mul_right {m = before i l} {n = length (ones l)} c (before-most l i) in
      k.written.filling
      ∙ ap (λ x. filled (kept_rows (ones l) c r) x out₀) (let e : to ≡ length (ones l) * c = omega (arith, k.written.at, most) in e)
      ∙ filled-whole (kept_rows (ones l) c r) (length (ones l) * c) out₀ (omega arith)

  -- A one is left while the buffer is not full.
  pub kept-first : {first : ℕ} → to < length out₀ → Stretch false l i first → first < length l
  kept-first {first = first} h s =
      ⊎_elim
      (λ q.
      absurd
      (let all : before i l ≡ length (ones l) = sym (others-pass s) ∙ before-all l first (omega arith) in
      let full : before i l * c ≡ length (ones l) * c = ap (λ x. x * c) all in
      omega (arith, k.written.at)))
      (λ q. q)
      (eq-or-lt_of_le s.within)

  pub kept-ones : {first next : ℕ} → to < length out₀ → Stretch false l i first → Stretch true l (first + 1) next → Stretch true l first next
  kept-ones h a b = from_first a (kept-first h a) b

  -- Positions without a one, and then neighbouring ones.
  module _ {first next : ℕ} (a : Stretch false l i first) (b : Stretch true l first next) where
    passed : before next l ≡ before i l + (next - first)
    passed = ones-pass b ∙ ap (λ x. x + (next - first)) (others-pass a)

    size : next * c - first * c ≡ (next - first) * c
    size = rows-size first next c b.starts

    pub run_room : to + (next * c - first * c) ≤ length out₀
    run_room =
        let most = mul-le-mul_right {m = before next l} {n = length (ones l)} c (before-most l next) in
        let here : before next l * c ≡ (before i l + (next - first)) * c = ap (λ x. x * c) passed in
        omega (arith, k.written.at, size, most, here)

    more : MoreRuns (kept_rows (ones l) c r) c out₀ out to (before i l) (next - first) (to + (next * c - first * c)) (before next l)
    more = record { written = k.written; end = ap (λ x. to + x) size; room = run_room; all = passed }

    ones-from : next * c ≤ length r → RowsFrom (λ j. true) (λ j. get_or (ones l) j 0) c r (before i l) (next - first) first (first * c) (next * c)
    ones-from inside = record {
      takes = λ j h. refl;
      rows = λ j h.
          ap (λ x. get_or (ones l) x 0) (sym (ones-add b j (omega arith) ∙ ap (λ x. x + j) (others-pass a)))
          ∙ one-at l (first + j) (omega (arith, b.within)) (b.alike (first + j) (omega arith) (omega arith));
      at = refl;
      ends = omega (arith, size, mul-le-mul_right {m = first} {n = next} c b.starts);
      inside = inside;
    }

    pub kept_run : next * c ≤ length r → (last : List ℤ)
        → last ≡ copied (take (next * c - first * c) (drop (first * c) r)) (take (to + (next * c - first * c) - to) (drop to out))
        → Kept l r c out₀ (put_mid to (to + (next * c - first * c) - to) out last) (to + (next * c - first * c)) next
    kept_run inside last w =
        record {
          within = b.within;
          written = rows_more (λ j. true) (λ j. get_or (ones l) j 0) c r more (ones-from inside) last w;
        }

-- Every element is written, and the next over it if its position is no one: the place after those at ones may hold anything.
pub record Front {A : Type 0} (l : List ℤ) (g : ℕ → A) (d : A) (out₀ out : List A) (to i : ℕ) : Type 0 where
  pub within : i ≤ length l
  pub at : to ≡ before i l
  pub long : length out ≡ length out₀
  pub front : (j : ℕ) → j < to → g j ≡ get_or out j d

pub front-none : {A : Type 0} (l : List ℤ) (g : ℕ → A) (d : A) (out₀ : List A) → Front l g d out₀ out₀ 0 0
front-none l g d out₀ = record { within = omega arith; at = before-none l; long = refl; front = λ j h. absurd (omega arith) }

module _ {A : Type 0} {l : List ℤ} {g : ℕ → A} {d : A} {out₀ out : List A} {to i : ℕ} (k : Front l g d out₀ out to i) where
  -- No more ones are passed than positions.
  pub front-le : to ≤ i
  front-le = omega (arith, k.at, before-few l i)

  module _ (more : i < length l) (room : to < length out₀) (v : A) where
    set_long : length (set out to v) ≡ length out₀
    set_long = length-set out to v ∙ k.long

    set_front : (j : ℕ) → j < to → g j ≡ get_or (set out to v) j d
    set_front j q = k.front j q ∙ sym (get_or-set_other out to j v d (λ e. absurd (omega arith)))

    pub front-other : one_at l i ≡ false → Front l g d out₀ (set out to v) to (i + 1)
    front-other e = record { within = omega arith; at = k.at ∙ sym (before-other l i more e); long = set_long; front = set_front }

    pub front-one : one_at l i ≡ true → g (before i l) ≡ v → Front l g d out₀ (set out to v) (to + 1) (i + 1)
    front-one e w =
        record { within = omega arith; at = ap (λ x. x + 1) k.at ∙ sym (before-one l i more e); long = set_long; front = all }
      where
        here : g to ≡ get_or (set out to v) to d
        here = ap g k.at ∙ w ∙ sym (get_or-set_same out to v d (omega (arith, k.long)))

        all : (j : ℕ) → j < to + 1 → g j ≡ get_or (set out to v) j d
        all j q =
            ⊎_elim (λ m. ap g m ∙ here ∙ ap (λ x. get_or (set out to v) x d) (sym m)) (λ m. set_front j m) (eq-or-lt_of_le (let n : j ≤ to = omega arith in n))

-- A one is left while fewer are passed than there are.
pub front-left : {A : Type 0} {l : List ℤ} {g : ℕ → A} {d : A} {out₀ out : List A} {to i : ℕ} (k : Front l g d out₀ out to i) → to < length (ones l)
    → i < length l
front-left {l = l} {i = i} k h = ⊎_elim (λ q. absurd (omega (arith, k.at, before-all l i (omega arith)))) (λ q. q) (eq-or-lt_of_le k.within)

-- The elements of a line.
module _ (l r : List ℤ) where
  pub line-all : {out₀ out : List ℤ} {to i : ℕ} (k : Front l (kept_rows (ones l) 1 r) (pos 0) out₀ out to i) → length out₀ ≡ length (ones l) * 1
      → length out₀ ≤ to
      → out ≡ tab (length (ones l) * 1) (kept_rows (ones l) 1 r)
  line-all {out = out} k room h = tab-is out (pos 0) (length (ones l) * 1) (kept_rows (ones l) 1 r) (k.long ∙ room) (λ j q. k.front j (omega arith))

  pub line-one : (i : ℕ) → i < length l → one_at l i ≡ true → kept_rows (ones l) 1 r (before i l) ≡ get_or r i (pos 0)
  line-one i h e = one-is (λ j. true) (λ j. get_or (ones l) j 0) r (before i l) i refl (one-at l i h e)
