-- The loops of expand over the noted ones of a mask: rows in order at the ones, in a buffer of zeros.
use mathlib.Core.Path.{◌≡◌, refl, sym, ap, ◌∙◌, subst}
use mathlib.Core.List.{List}
use mathlib.Core.Bool.{Bool, true, false}
use mathlib.Core.Logic.{⊎_elim}
use Prim.Native.Nat.{ℕ, zero, suc, ◌+◌, ◌*◌, ◌-◌, ◌≤◌, ◌<◌}
use native.Mathlib.Nat.{eq-or-lt_of_le, zero-mul, mul-le-mul_right}
use native.Mathlib.Omega.{arith}
use lib.ListN.{length, get_or, take, drop, set, replicate, length-take, length-drop, length-replicate, get_or-replicate}
use lib.Seq.{ext_get_or}
use lib.IntN.{ℤ, pos}
use borrow.Rule.Slice.PartMut.{put_mid, put_same}
use Rattle.meaning.specs.Array.{tab}
use Rattle.meaning.specs.Terms.{ones}
use Rattle.meaning.proofs.Tab.{get_or_part}
use Rattle.copying.specs.Runs.{copied}
use Rattle.masks.specs.Steps.Actions.{one_at}
use Rattle.masks.specs.Steps.Rows.{opened_rows, Zeros, Opens, Stretch}
use Rattle.masks.proofs.Ones.{before, before-none, before-all, before-one, ones-le, one-at, one_below}
use Rattle.masks.proofs.Stretches.{others-pass}
use Rattle.masks.proofs.Written.{Written, written-rest, written_one, run-next}
use Rattle.masks.proofs.Filling.{one-is, row_from, rows_more}
use Rattle.masks.proofs.Opened.{Opened, opened-none, opened-all, opened-room, opened-next, opened_inside, opened-gap}

-- One position more in front of a stretch of others.
others-back : {l : List ℤ} {i e : ℕ} → one_at l i ≡ false → Stretch false l (i + 1) e → Stretch false l i e
others-back {l = l} {i = i} {e = e} o s =
    record { starts = omega (arith, s.starts); within = s.within; alike = all; ends = s.ends }
  where
    all : (j : ℕ) → i ≤ j → j < e → one_at l j ≡ false
    all j h m = ⊎_elim (λ q. ap (one_at l) (sym q) ∙ o) (λ q. s.alike j (omega arith) m) (eq-or-lt_of_le h)

-- No others from a position on, if it is a one or the mask ends there.
others-none : {l : List ℤ} {i : ℕ} → i ≤ length l → (i < length l → one_at l i ≡ true) → Stretch false l i i
others-none h o = record { starts = omega arith; within = h; alike = λ j a b. absurd (omega arith); ends = o }

-- From a position on there are others up to the next one, or up to the mask's end.
others-from : (l : List ℤ) (n i : ℕ) → i + n ≡ length l → (e : ℕ) × Stretch false l i e
others-from l zero i h = (i, others-none (omega arith) (λ m. absurd (omega arith)))
others-from l (suc n) i h = by _ refl (others-from l n (i + 1) (omega arith))
  where
    by : (b : Bool) → one_at l i ≡ b → (e : ℕ) × Stretch false l (i + 1) e → (e : ℕ) × Stretch false l i e
    by true o rest = (i, others-none (omega arith) (λ m. o))
    by false o rest = (rest.0, others-back o rest.1)

zeros-length : (n : ℕ) (zeros : List ℤ) → zeros ≡ replicate n (pos 0) → length zeros ≡ n
zeros-length n zeros z = ap length z ∙ length-replicate n (pos 0)

pub zeros-are : (out : List ℤ) → Zeros (length out) out → out ≡ replicate (length out) (pos 0)
zeros-are out b =
    ext_get_or (pos 0) out (replicate (length out) (pos 0)) (sym (length-replicate (length out) (pos 0)))
    (λ j h. b j h ∙ sym (get_or-replicate (length out) j (pos 0) (pos 0) h))

-- A part of zeros is zeros.
zeros-part : (n a k : ℕ) (zeros : List ℤ) → zeros ≡ replicate n (pos 0) → take k (drop a zeros) ≡ replicate (length (take k (drop a zeros))) (pos 0)
zeros-part n a k zeros z =
    ext_get_or (pos 0) (take k (drop a zeros)) (replicate (length (take k (drop a zeros))) (pos 0)) (sym (length-replicate _ (pos 0)))
    (λ j h.
    let in-part : (j < k) × (a + j < n) = omega (arith, simp (length-take, length-drop) at h, zeros-length n zeros z) in
    get_or_part zeros a k j (pos 0) in-part.0
    ∙ ap (λ x. get_or x (a + j) (pos 0)) z
    ∙ get_or-replicate n (a + j) (pos 0) (pos 0) in-part.1
    ∙ sym (get_or-replicate _ j (pos 0) (pos 0) h))

-- q rows are at their ones in a buffer of zeros, and everything before the next one is as it is to be.
pub record Scattered (l r : List ℤ) (c : ℕ) (zeros out : List ℤ) (from q : ℕ) : Type 0 where
  pub next : ℕ
  pub one : next < length l → one_at l next ≡ true
  pub count : before next l ≡ q
  pub front : Opened l r c zeros out from (next * c) next
  pub blank : zeros ≡ replicate (length l * c) (pos 0)

-- The zeros before the next one stand there already.
scattered-on : {l r : List ℤ} {c : ℕ} {zeros out : List ℤ} {from q : ℕ} (i : ℕ) → Opened l r c zeros out from (i * c) i → before i l ≡ q
    → zeros ≡ replicate (length l * c) (pos 0) → Scattered l r c zeros out from q
scattered-on {l = l} {r = r} {c = c} {zeros = zeros} {out = out} {from = from} i k b blank =
    let gap = others-from l (length l - i) i (omega (arith, k.within)) in
    let e = gap.0 in
    let n = e * c - i * c in
    let same : take n (drop (i * c) out) ≡ replicate (length (take n (drop (i * c) out))) (pos 0) =
    rw (written-rest k.written) (zeros-part (length l * c) (i * c) n zeros blank) in
    record {
      next = e;
      one = gap.1.ends;
      count = others-pass gap.1 ∙ b;
      front = subst (λ x. Opened l r c zeros x from (e * c) e) (put_same (i * c) n out) (opened-gap k (zeros-length _ _ blank) gap.1 _ same);
      blank = blank;
    }

pub scattered-none : (l r : List ℤ) (c n : ℕ) (zeros : List ℤ) → zeros ≡ replicate n (pos 0) → n ≡ length l * c → Scattered l r c zeros zeros 0 0
scattered-none l r c n zeros z e =
    scattered-on 0 (rw (zero-mul c) (opened-none l r c zeros)) (sym (before-none l)) (z ∙ ap (λ x. replicate x (pos 0)) e)

module _ {l r : List ℤ} {c : ℕ} {zeros out : List ℤ} {from q : ℕ} (s : Scattered l r c zeros out from q) where
  room : length zeros ≡ length l * c
  room = zeros-length _ _ s.blank

  module _ (all : length r ≡ length (ones l) * c) where
    pub scattered-all : 0 < c → length r ≤ from → out ≡ tab (length l * c) (opened_rows l c r)
    scattered-all some h =
        ⊎_elim
        (λ e. opened-all s.front room (omega arith))
        (λ m. absurd (omega (arith, opened_inside s.front room m (s.one m) all)))
        (eq-or-lt_of_le s.front.within)

    -- A row is left: it goes to the next one.
    module _ (left : from < length r) where
      next-in : s.next < length l
      next-in =
          ⊎_elim
          (λ e. absurd (omega (arith, s.front.source, ap (λ x. x * c) (before-all l s.next (omega arith)))))
          (λ m. m)
          (eq-or-lt_of_le s.front.within)

      pub one_left : q < length (ones l)
      one_left = omega (arith, one_below l s.next next-in (s.one next-in), s.count)

      pub count-few : q < length l
      count-few = omega (arith, one_left, ones-le 0 l)

      row_inside : from + c ≤ length r
      row_inside = opened_inside s.front room next-in (s.one next-in) all

      module _ {p : ℕ} (noted : p ≡ get_or (ones l) q 0) where
        at_next : s.next ≡ p
        at_next = sym (noted ∙ ap (λ x. get_or (ones l) x 0) (sym s.count) ∙ one-at l s.next next-in (s.one next-in))

        here : Opened l r c zeros out from (p * c) p
        here = subst (λ x. Opened l r c zeros out from (x * c) x) at_next s.front

        one_in : p < length l
        one_in = omega (arith, next-in, at_next)

        one-here : one_at l p ≡ true
        one-here = ap (one_at l) (sym at_next) ∙ s.one next-in

        count-here : before p l ≡ q
        count-here = ap (λ x. before x l) (sym at_next) ∙ s.count

        row-zeros : p * c + c ≤ length zeros
        row-zeros = opened-room here room one_in

        pub row_room : p * c + c ≤ length out
        row_room = omega (arith, row-zeros, s.front.written.long)

        -- The row is written there.
        scattered-next : {more : List ℤ} → Written (opened_rows l c r) c zeros more (p * c + c) (p + 1) → Scattered l r c zeros more (from + c) (q + 1)
        scattered-next w =
            let end : p * c + c ≡ (p + 1) * c = omega arith in
            scattered-on (p + 1) (rw end at (opened-next here room one_in w one-here))
            (before-one l p one_in one-here ∙ ap (λ x. x + 1) count-here) s.blank

        scattered-row : (last : List ℤ) → last ≡ copied (take (from + c - from) (drop from r)) (take (p * c + c - p * c) (drop (p * c) out))
            → Scattered l r c zeros (put_mid (p * c) (p * c + c - p * c) out last) (from + c) (q + 1)
        scattered-row last w =
            scattered-next
            (rows_more (one_at l) (λ j. before j l) c r (run-next here.written row-zeros)
            (row_from one-here count-here (rw count-here at here.source) row_inside) last w)

-- Where a row is one element.
pub scattered-one : {l r zeros out : List ℤ} {q p : ℕ} (s : Scattered l r 1 zeros out q q) (all : length r ≡ length (ones l) * 1)
    (left : q < length r) (noted : p ≡ get_or (ones l) q 0)
    → (v : ℤ) → v ≡ get_or r q (pos 0) → Scattered l r 1 zeros (set out p v) (q + 1) (q + 1)
scattered-one {l = l} {r = r} {zeros = zeros} {out = out} {q = q} {p = p} s all left noted v w =
    let single : p * 1 ≡ p = omega arith in
    let there = one-is (one_at l) (λ j. before j l) r p q (one-here s all left noted) (count-here s all left noted) in
    scattered-next s all left noted
    (rw single (written_one (rw single at (here s all left noted).written) (omega (arith, row-zeros s all left noted)) v (w ∙ sym there)))

-- Where n rows in all go by noted ones, and row q is the next: it is left, its position is noted, and there is room for it there.
module _ {l r : List ℤ} {at : List ℕ} {c n q : ℕ} {zeros blank out : List ℤ} (s : Scattered l r c zeros out (q * c) q)
    (known : (0 < c) × ((length r ≡ n * c) × Opens l at c (length r) blank)) where
  pub rows-all : n ≤ q → out ≡ tab (length l * c) (opened_rows l c r)
  rows-all h = scattered-all s known.1.1.source known.0 (omega (arith, mul-le-mul_right {m = n} {n = q} c h, known.1.0))

  module _ (h : q < n) where
    row_left : q * c < length r
    row_left = omega (arith, mul-le-mul_right {m = q + 1} {n = n} c (omega arith), known.1.0, known.0)

    row-noted : get_or at q 0 ≡ get_or (ones l) q 0
    row-noted = known.1.1.notes q (one_left s known.1.1.source row_left)

    pub note-inside : q < length at
    note-inside = omega (arith, count-few s known.1.1.source row_left, known.1.1.short)

    pub noted-room : get_or at q 0 * c + c ≤ length out
    noted-room = row_room s known.1.1.source row_left row-noted

    pub rows-next : (last : List ℤ)
        → last ≡ copied (take (q * c + c - q * c) (drop (q * c) r)) (take (get_or at q 0 * c + c - get_or at q 0 * c) (drop (get_or at q 0 * c) out))
        → Scattered l r c zeros (put_mid (get_or at q 0 * c) (get_or at q 0 * c + c - get_or at q 0 * c) out last) ((q + 1) * c) (q + 1)
    rows-next last w =
        let more = put_mid (get_or at q 0 * c) (get_or at q 0 * c + c - get_or at q 0 * c) out last in
        subst (λ x. Scattered l r c zeros more x (q + 1)) (let e : q * c + c ≡ (q + 1) * c = omega arith in e)
        (scattered-row s known.1.1.source row_left row-noted last w)
