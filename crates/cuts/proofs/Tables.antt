-- The table of the axes, of either kind.
use Prim.Native.Nat.{ℕ, zero, suc, ◌+◌, ◌*◌, ◌-◌, ◌/◌, ◌%◌, ◌≤◌, ◌<◌, min}
use native.Mathlib.Nat.{mod-lt, div-add-mod', mul-le-mul_right, le-div_iff_mul-le, div-lt_iff_lt-mul}
use native.Mathlib.Decide.{dec_le, dec_lt}
use native.Mathlib.Omega.{arith}
use mathlib.Core.Path.{◌≡◌, refl, sym, ap, ◌∙◌}
use mathlib.Core.List.{List, [], ◌∷◌}
use mathlib.Core.Bool.{Bool, true, false, cond, ◌&&◌, and-false}
use borrow.Author.Tests.{le-leb, lt-leb, lt-ltb, le-ltb}
use lib.Arith.{digits_div, digits_mod}
use lib.Dec.{leb, ltb}
use lib.ListN.{length, get_or, take, drop}
use lib.Seq.{take-nil, drop-nil}
use lib.IntN.{ℤ, pos}
use Rattle.shape.specs.Shape.{count}
use Rattle.shape.proofs.Places.{row_in}
use Rattle.shape.proofs.Counts.{factor}
use Rattle.meaning.proofs.Tab.{get_or_part}
use Rattle.cuts.specs.declared.Axis.{Axis}
use Rattle.cuts.specs.declared.CutKind.{CutKind}
use Rattle.cuts.specs.Steps.{cut_length, keeps_end, cut_lengths, table_of, cut_at, Fitting}

-- A window of n positions and m: it lies in both.
pub window-room : (e : Bool) (m n : ℕ) → (cond e (m - n) 0 + min m n ≤ m) × (cond e (n - m) 0 + min m n ≤ n)
window-room true m n = (omega arith, omega arith)
window-room false m n = (omega arith, omega arith)

-- It is the whole axis if they are the same.
window-whole : (e : Bool) (m n : ℕ) → m ≡ n → (cond e (m - n) 0 ≡ 0) × ((cond e (n - m) 0 ≡ 0) × (min m n ≡ n))
window-whole true m n h = (omega arith, (omega arith, omega arith))
window-whole false m n h = (refl, (refl, omega arith))

-- From an operand without elements come zeros.
pub cut-empty : (t : List Axis) (j : ℕ) → cut_at t [] j ≡ pos 0
unfolding cut_at
cut-empty [] j = refl
cut-empty (a ∷ rest) j =
    let none : take a.stride (drop {A = ℤ} (a.first + (j - a.start) / a.block * a.stride) []) ≡ [] =
    ap (take a.stride) (drop-nil (a.first + (j - a.start) / a.block * a.stride)) ∙ take-nil a.stride in
    rw (none, cut-empty rest ((j - a.start) % a.block)) (same (leb a.start j && ltb j (a.start + a.width)))
  where
    same : (b : Bool) → cond b (pos 0) (pos 0) ≡ pos 0
    same true = refl
    same false = refl

-- A window by positions, of c elements each, and not by elements.
by-position : (f : ℕ → ℕ → ℤ) (lead len c j : ℕ) → 0 < c
    → cond (leb (lead * c) j && ltb j (lead * c + len * c)) (f ((j - lead * c) / c) ((j - lead * c) % c)) (pos 0)
    ≡ cond (leb lead (j / c) && ltb (j / c) (lead + len)) (f (j / c - lead) (j % c)) (pos 0)
by-position f lead len c j p = by (dec_le lead (j / c)) (dec_lt (j / c) (lead + len))
  where
    by : Dec (lead ≤ j / c) → Dec (j / c < lead + len)
        → cond (leb (lead * c) j && ltb j (lead * c + len * c)) (f ((j - lead * c) / c) ((j - lead * c) % c)) (pos 0)
        ≡ cond (leb lead (j / c) && ltb (j / c) (lead + len)) (f (j / c - lead) (j % c)) (pos 0)
    by (no h) d =
        let k : j < lead * c = (div-lt_iff_lt-mul {k = c} {x = j} {y = lead} p).0 (omega arith) in
        rw (lt-leb (lead * c) j k, lt-leb lead (j / c) (omega arith))
    by (yes h) (no d) =
        let k : (lead + len) * c ≤ j = (le-div_iff_mul-le {k = c} {x = lead + len} {y = j} p).0 (omega arith) in
        rw (le-ltb j (lead * c + len * c) (omega arith), le-ltb (j / c) (lead + len) (omega arith), and-false (leb (lead * c) j), and-false (leb lead (j / c)))
    by (yes h) (yes d) =
        let low : lead * c ≤ j = (le-div_iff_mul-le {k = c} {x = lead} {y = j} p).0 h in
        let high : j < (lead + len) * c = (div-lt_iff_lt-mul {k = c} {x = j} {y = lead + len} p).0 d in
        let on : j / c ≡ lead + (j / c - lead) = omega arith in
        let split : j - lead * c ≡ (j / c - lead) * c + j % c = let s = ap (λ x. x * c) on in omega (arith, div-add-mod' j c) in
        let q : (j - lead * c) / c ≡ j / c - lead = ap (λ x. x / c) split ∙ digits_div (j / c - lead) (mod-lt j p) in
        let m : (j - lead * c) % c ≡ j % c = ap (λ x. x % c) split ∙ digits_mod (j / c - lead) (mod-lt j p) in
        rw (
          q,
          m,
          le-leb (lead * c) j low,
          lt-ltb j (lead * c + len * c) (omega arith),
          le-leb lead (j / c) h,
          lt-ltb (j / c) (lead + len) d,
        )

module _ (kind : CutKind) where
  -- The first axis, by positions.
  pub cut-at : (z : ℤ) (zs : List ℤ) (n : ℕ) (ns : List ℕ) (xs : List ℤ) (j : ℕ) → 0 < count (cut_lengths kind zs ns)
      → cut_at (table_of kind (z ∷ zs) (n ∷ ns)) xs j
      ≡ (let m : ℕ = cut_length kind z n in
      let c : ℕ = count (cut_lengths kind zs ns) in
      let lead : ℕ = cond (keeps_end kind z) (m - n) 0 in
      cond (leb lead (j / c) && ltb (j / c) (lead + min m n))
      (cut_at (table_of kind zs ns) (take (count ns) (drop ((cond (keeps_end kind z) (n - m) 0 + (j / c - lead)) * count ns) xs)) (j % c))
      (pos 0))
  unfolding cut_at table_of
  cut-at z zs n ns xs j p =
      let m : ℕ = cut_length kind z n in
      let from : ℕ = cond (keeps_end kind z) (n - m) 0 in
      let at : (i : ℕ) → from * count ns + i * count ns ≡ (from + i) * count ns = λ i. omega arith in
      by-position (λ i k. cut_at (table_of kind zs ns) (take (count ns) (drop (from * count ns + i * count ns) xs)) k) (cond (keeps_end kind z) (m - n) 0)
      (min m n) (count (cut_lengths kind zs ns)) j p
      ∙ ap
      (λ x.
      cond
      (leb (cond (keeps_end kind z) (m - n) 0) (j / count (cut_lengths kind zs ns))
      && ltb (j / count (cut_lengths kind zs ns)) (cond (keeps_end kind z) (m - n) 0 + min m n))
      (cut_at (table_of kind zs ns) (take (count ns) (drop x xs)) (j % count (cut_lengths kind zs ns)))
      (pos 0))
      (at (j / count (cut_lengths kind zs ns) - cond (keeps_end kind z) (m - n) 0))

  pub cut-none : (xs : List ℤ) (j : ℕ) → cut_at (table_of kind [] []) xs j ≡ get_or xs j (pos 0)
  unfolding cut_at table_of
  cut-none xs j = refl

  -- Axes that are taken whole are a run.
  pub cut-whole : (zs : List ℤ) (ns : List ℕ) (xs : List ℤ) (j : ℕ) → length zs ≡ length ns → ns ≡ cut_lengths kind zs ns → j < count ns
      → cut_at (table_of kind zs ns) xs j ≡ get_or xs j (pos 0)
  unfolding cut_lengths count
  cut-whole [] [] xs j l e h = cut-none xs j
  cut-whole [] (n ∷ ns) xs j l e h = absurd (omega arith)
  cut-whole (z ∷ zs) [] xs j l e h = absurd (omega arith)
  cut-whole (z ∷ zs) (n ∷ ns) xs j l e h =
      let m : ℕ = cut_length kind z n in
      let head : m ≡ n = cc in
      let tail : ns ≡ cut_lengths kind zs ns = cc in
      let w = window-whole (keeps_end kind z) m n head in
      let r = row_in n (count ns) j h in
      let off : 0 + (j / count ns - 0) ≡ j / count ns = omega arith in
      let to : j / count ns * count ns + j % count ns ≡ j = omega (arith, div-add-mod' j (count ns)) in
      let some : 0 < count (cut_lengths kind zs ns) = rw (← tail) r.0 in
      cut-at z zs n ns xs j some
      ∙ rw (w.0, w.1.0, w.1.1, ← tail, le-leb 0 (j / count ns) (omega arith), lt-ltb (j / count ns) (0 + n) (omega (arith, r.1)), off)
      (cut-whole zs ns (take (count ns) (drop (j / count ns * count ns) xs)) (j % count ns) (omega arith) tail (mod-lt j r.0)
      ∙ get_or_part xs (j / count ns * count ns) (count ns) (j % count ns) (pos 0) (mod-lt j r.0)
      ∙ ap (λ x. get_or xs x (pos 0)) to)

  -- So the axes up to the last that is not taken whole are enough.
  pub cut-front : (u : ℕ) (zs : List ℤ) (ns : List ℕ) (xs : List ℤ) (j : ℕ) → length zs ≡ length ns → drop u ns ≡ drop u (cut_lengths kind zs ns)
      → j < count (cut_lengths kind zs ns) → cut_at (take u (table_of kind zs ns)) xs j ≡ cut_at (table_of kind zs ns) xs j
  unfolding cut_at table_of cut_lengths count
  cut-front zero zs ns xs j l e h = sym (cut-whole zs ns xs j l e (rw (← e) at h))
  cut-front (suc u) [] ns xs j l e h = refl
  cut-front (suc u) (z ∷ zs) [] xs j l e h = absurd (omega arith)
  cut-front (suc u) (z ∷ zs) (n ∷ ns) xs j l e h =
      let m : ℕ = cut_length kind z n in
      let c : ℕ = count (cut_lengths kind zs ns) in
      let start : ℕ = cond (keeps_end kind z) (m - n) 0 * c in
      ap (λ x. cond (leb start j && ltb j (start + min m n * c)) x (pos 0))
      (cut-front u zs ns _ ((j - start) % c) (omega arith) e (mod-lt (j - start) (row_in m c j h).0))

  pub table_fits : (u : ℕ) (zs : List ℤ) (ns : List ℕ) → length zs ≡ length ns → u ≤ length ns → 0 < count (cut_lengths kind zs ns)
      → 0 < count ns → drop u ns ≡ drop u (cut_lengths kind zs ns) → Fitting (take u (table_of kind zs ns)) (count ns) (count (cut_lengths kind zs ns))
  unfolding table_of cut_lengths count
  table_fits zero zs ns l k p o e = ap count e
  table_fits (suc u) [] ns l k p o e = absurd (omega arith)
  table_fits (suc u) (z ∷ zs) [] l k p o e = absurd (omega arith)
  table_fits (suc u) (z ∷ zs) (n ∷ ns) l k p o e =
      let m : ℕ = cut_length kind z n in
      let w = window-room (keeps_end kind z) m n in
      let f = factor m (count (cut_lengths kind zs ns)) _ refl p in
      let g = factor n (count ns) _ refl o in
      let taken : 0 < min m n = omega (arith, f.0, g.0) in (
        record {
          some = f.1;
          more = taken;
          wide = refl;
          room = omega (arith, mul-le-mul_right (count (cut_lengths kind zs ns)) w.0);
          inner = omega (arith, mul-le-mul_right (count ns) w.1);
        },
        table_fits u zs ns (omega arith) (omega arith) f.1 g.1 e,
      )
