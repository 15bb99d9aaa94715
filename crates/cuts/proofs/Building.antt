-- The result's lengths and the table, as they are built axis by axis.
use Prim.Native.Nat.{ℕ, zero, suc, ◌+◌, ◌*◌, ◌-◌, ◌≤◌, ◌<◌}
use native.Mathlib.Nat.{mul_comm, mul-le-mul_right}
use native.Mathlib.Omega.{arith}
use mathlib.Core.Path.{◌≡◌, refl, sym, ap, ap₂, ◌∙◌}
use mathlib.Core.List.{List, [], ◌∷◌, ◌++◌}
use borrow.Author.Tests.{le-leb}
use lib.ListN.{length, get_or, take, drop, set, replicate, drop_of_length-le, length-set}
use lib.Seq.{get_or-take, take_all, length-take-le, slice_empty, slice-cons, take-set-lt, drop-cons}
use lib.IntN.{ℤ, pos}
use mir.Syntax.{w32}
use mir.Val.{SFits, to_z, of_z}
use Rattle.signed.proofs.Reading.{read32}
use Rattle.std.specs.Prelude.{Result, Ok, slice_index}
use Rattle.std.proofs.lemmas.List.{drop-set}
use Rattle.shape.specs.declared.Shape.{Shape}
use Rattle.shape.specs.Shape.{max_rank, max_count, count}
use Rattle.shape.proofs.Counts.{count-drop}
use Rattle.shape.proofs.Padded.{padded-more}
use Rattle.answer.specs.declared.refusal.Refusal as code
use Rattle.cuts.specs.declared.Window.{Window}
use Rattle.cuts.specs.declared.Axis.{Axis}
use Rattle.cuts.specs.declared.CutKind.{CutKind}
use Rattle.cuts.specs.Steps.{cut_length, keeps_end, cut_lengths, cut_shape, window_of, table_of, Nonempty}
use Rattle.cuts.proofs.Tables.{window-room}

-- The result's lengths: how many there are, one of them, and those of the later axes.
pub lengths-long : (kind : CutKind) (zs : List ℤ) (ns : List ℕ) → length zs ≡ length ns → length (cut_lengths kind zs ns) ≡ length ns
unfolding cut_lengths
lengths-long kind [] [] l = refl
lengths-long kind [] (n ∷ ns) l = absurd (omega arith)
lengths-long kind (z ∷ zs) [] l = absurd (omega arith)
lengths-long kind (z ∷ zs) (n ∷ ns) l = ap suc (lengths-long kind zs ns (omega arith))

lengths-at : (kind : CutKind) (zs : List ℤ) (ns : List ℕ) (i : ℕ) → i < length zs → i < length ns
    → get_or (cut_lengths kind zs ns) i 0 ≡ cut_length kind (get_or zs i (pos 0)) (get_or ns i 0)
unfolding cut_lengths
lengths-at kind [] ns i a b = absurd (omega arith)
lengths-at kind (z ∷ zs) [] i a b = absurd (omega arith)
lengths-at kind (z ∷ zs) (n ∷ ns) zero a b = refl
lengths-at kind (z ∷ zs) (n ∷ ns) (suc i) a b = lengths-at kind zs ns i (omega arith) (omega arith)

lengths-drop : (kind : CutKind) (k : ℕ) (zs : List ℤ) (ns : List ℕ) → length zs ≡ length ns
    → cut_lengths kind (drop k zs) (drop k ns) ≡ drop k (cut_lengths kind zs ns)
unfolding cut_lengths
lengths-drop kind zero zs ns l = refl
lengths-drop kind (suc k) [] [] l = refl
lengths-drop kind (suc k) [] (n ∷ ns) l = absurd (omega arith)
lengths-drop kind (suc k) (z ∷ zs) [] l = absurd (omega arith)
lengths-drop kind (suc k) (z ∷ zs) (n ∷ ns) l = lengths-drop kind k zs ns (omega arith)

-- One more of the result's lengths.
pub lengths-more : (kind : CutKind) (l : List ℤ) (lens : List ℕ) (i v : ℕ) → length lens ≡ max_rank → length l ≤ max_rank → i < length l
    → v ≡ cut_length kind (get_or l i (pos 0)) (get_or lens i 0)
    → set (take i (cut_lengths kind l (take (length l) lens)) ++ replicate (max_rank - i) 0) i v
    ≡ take (i + 1) (cut_lengths kind l (take (length l) lens)) ++ replicate (max_rank - (i + 1)) 0
lengths-more kind l lens i v w h k e =
    let ns : List ℕ = take (length l) lens in
    let ms : List ℕ = cut_lengths kind l ns in
    let long : length ns ≡ length l = length-take-le (length l) lens (omega arith) in
    let here : get_or ms i 0 ≡ v =
    lengths-at kind l ns i k (omega arith) ∙ ap (cut_length kind (get_or l i (pos 0))) (get_or-take (length l) lens i 0 k) ∙ sym e in
    rw (← here) (padded-more ms max_rank i (omega (arith, lengths-long kind l ns (sym long))) (omega arith))

-- All of them.
pub lengths-all : (kind : CutKind) (l : List ℤ) (lens : List ℕ) {xs : List ℕ} {i : ℕ} → length lens ≡ max_rank → length l ≤ max_rank → i ≡ length l
    → xs ≡ take i (cut_lengths kind l (take (length l) lens)) ++ replicate (max_rank - i) 0
    → ◌≡◌ {A = Result Shape code.Refusal} (Ok (record { rank = length l; lens = xs })) (cut_shape kind l lens)
lengths-all kind l lens {xs} {i} w h e o =
    let ms : List ℕ = cut_lengths kind l (take (length l) lens) in
    let long : length ms ≡ length l =
    let n = length-take-le (length l) lens (omega arith) in lengths-long kind l (take (length l) lens) (sym n) ∙ n in
    rw (le-leb (length l) max_rank h)
    (ap₂ (λ x y. Ok (record { rank = x; lens = y })) (sym long) (o ∙ rw (e, take_all (length l) ms (omega (arith, long)), long)))

-- Two lists of lengths that are the same from axis u on.
pub drop_same : (u : ℕ) (ns ms : List ℕ) → length ns ≡ length ms → ((k : ℕ) → u ≤ k → k < length ns → slice_index ns k ≡ slice_index ms k)
    → drop u ns ≡ drop u ms
drop_same u [] [] l h = refl
drop_same u [] (m ∷ ms) l h = absurd (omega arith)
drop_same u (n ∷ ns) [] l h = absurd (omega arith)
drop_same zero (n ∷ ns) (m ∷ ms) l h =
    ap₂ (λ x xs. x ∷ xs) (h 0 (omega arith) (omega arith)) (drop_same zero ns ms (omega arith) (λ k a b. h (suc k) (omega arith) (omega arith)))
drop_same (suc u) (n ∷ ns) (m ∷ ms) l h = drop_same u ns ms (omega arith) (λ k a b. h (suc k) (omega arith) (omega arith))

-- An entry that is stored: it and what stood after it.
pub stored : {A : Type 0} (t : List A) (k n : ℕ) (v : A) → k < n → n ≤ length t → drop k (take n (set t k v)) ≡ v ∷ drop (k + 1) (take n t)
stored t k n v h l =
    ap (drop k) (take-set-lt n t k v h) ∙ drop-set (take n t) k v (omega (arith, length-take-le n t l))

-- What the table's loop has built when it comes to axis i.
pub record Built (kind : CutKind) (lens : List ℕ) (l : List ℤ) (table : List Axis) (stride block i : ℕ) : Type 0 where
  pub below : i ≤ length l
  pub long : length table ≡ max_rank
  pub rows : drop i (take (length l) table) ≡ table_of kind (drop i l) (drop i (take (length l) lens))
  pub strides : stride ≡ count (drop i (take (length l) lens))
  pub blocks : block ≡ count (cut_lengths kind (drop i l) (drop i (take (length l) lens)))

-- The window of a number that is read from a slice.
pub window_read : (kind : CutKind) (z : ℤ) (n : ℕ) {w : Window} → SFits w32 z → w ≡ window_of kind (to_z w32 (of_z w32 z)) n → w ≡ window_of kind z n
window_read kind z n f e = e ∙ ap (λ x. window_of kind x n) (read32 z f)

module _ {kind : CutKind} {lens : List ℕ} {l : List ℤ} (c : Nonempty kind lens l) where
  pub built-none : (table : List Axis) → length table ≡ max_rank → Built kind lens l table 1 1 (length l)
  unfolding table_of cut_lengths count
  built-none table t =
      let zs : drop (length l) l ≡ [] = drop_of_length-le l {i = length l} (omega arith) in
      let ns : drop (length l) (take (length l) lens) ≡ [] = slice_empty (length l) lens in
      record {
        below = omega arith;
        rows = slice_empty (length l) table ∙ sym (rw zs);
        long = t;
        strides = sym (rw ns);
        blocks = sym (rw zs);
      }

  same : length l ≡ length (take (length l) lens)
  same = sym (length-take-le (length l) lens (omega (arith, c.high, c.long)))

  module _ {table : List Axis} {stride block i : ℕ} (k : ℕ) (b : Built kind lens l table stride block i) (e : i ≡ suc k) where
    abbrev n : ℕ
    n = get_or lens k 0

    abbrev z : ℤ
    z = get_or l k (pos 0)

    abbrev m : ℕ
    m = cut_length kind z n

    ns-cons : drop k (take (length l) lens) ≡ n ∷ drop i (take (length l) lens)
    ns-cons = slice-cons k (length l) lens 0 (omega (arith, b.below)) (omega (arith, c.high, c.long)) ∙ ap (λ x. n ∷ drop x (take (length l) lens)) (sym e)

    zs-cons : drop k l ≡ z ∷ drop i l
    zs-cons = drop-cons l k (pos 0) (omega (arith, b.below)) ∙ ap (λ x. z ∷ drop x l) (sym e)

    next-stride : stride * n ≡ count (drop k (take (length l) lens))
    unfolding count
    next-stride = rw (ns-cons, b.strides) (mul_comm _ _)

    next-block : block * m ≡ count (cut_lengths kind (drop k l) (drop k (take (length l) lens)))
    unfolding count cut_lengths
    next-block = rw (ns-cons, zs-cons, b.blocks) (mul_comm _ _)

    -- The products stay within the limit.
    pub stride_small : stride * n ≤ max_count
    stride_small = rw next-stride (omega (arith, (count-drop k (take (length l) lens) c.some).1, c.small))

    block-small : block * m ≤ max_count
    block-small =
        rw (next-block, lengths-drop kind k l (take (length l) lens) same)
        (omega (arith, (count-drop k (cut_lengths kind l (take (length l) lens)) c.result).1, c.limit))

    pub window_small : {w : Window} → w ≡ window_of kind z n
        → (w.lead * block ≤ max_count) × ((w.len * block ≤ max_count) × ((w.from * stride ≤ max_count) × (block * w.size ≤ max_count)))
    window_small {w} q =
        let r = window-room (keeps_end kind z) m n in
        let a = mul-le-mul_right block r.0 in
        let o = mul-le-mul_right stride r.1 in
        rw q (
          omega (arith, a, block-small),
          (omega (arith, a, block-small), (omega (arith, o, stride_small), block-small)),
        )

    pub built-more : (w : Window) → w ≡ window_of kind z n
        → Built kind lens l
        (set table k (record { start = w.lead * block; width = w.len * block; first = w.from * stride; len = w.len; stride = stride; block = block }))
        (stride * n) (block * w.size) k
    unfolding table_of
    built-more w q =
        let next : k + 1 ≡ i = omega arith in
        record {
          below = omega (arith, b.below);
          long = length-set table k _ ∙ b.long;
          rows =
              stored table k (length l) _ (omega (arith, b.below)) (omega (arith, b.long, c.high))
              ∙ rw (ns-cons, zs-cons, next, b.rows, q, ← b.strides, ← b.blocks);
          strides = next-stride;
          blocks = ap (λ x. block * x.size) q ∙ next-block;
        }
