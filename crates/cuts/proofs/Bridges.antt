-- What 23 and 24 hold place by place is what the windows leave.
use Prim.Native.Nat.{ℕ, suc, ◌+◌, ◌*◌, ◌-◌, ◌/◌, ◌%◌, ◌≤◌, ◌<◌, min}
use native.Mathlib.Nat.{mod-lt}
use native.Mathlib.Decide.{dec_lt}
use native.Mathlib.Omega.{arith}
use mathlib.Core.Path.{◌≡◌, refl, sym, ap, ◌∙◌}
use mathlib.Core.List.{List, [], ◌∷◌, map}
use mathlib.Core.Bool.{Bool, true, false, not, cond, ◌&&◌}
use borrow.Author.Tests.{le-leb, lt-ltb, le-ltb, ltb-true, leb-true}
use lib.Dec.{leb, ltb}
use lib.ListN.{length, get_or, take, drop, replicate}
use lib.IntN.{ℤ, pos, negsuc, nat_abs, ◌+ℤ◌}
use Rattle.shape.specs.Shape.{count}
use Rattle.shape.specs.Place.{inside, index, place}
use Rattle.shape.proofs.Bools.{both, no_way, cond_same}
use Rattle.shape.proofs.Places.{row_in, row_fits, inside-in, index-lt}
use Rattle.meaning.specs.Array.{Array, at, tab, build}
use Rattle.meaning.specs.Terms.{negative, every, rank, as_rank, is_scalar}
use Rattle.meaning.specs.Primitives.{takes, drops, taken_from, taken_place, at_or_zero, dropped_lengths, dropped_place}
use Rattle.meaning.proofs.Tab.{tab-ext, get_or_part}
use Rattle.cuts.specs.declared.CutKind.{CutKind}
use Rattle.cuts.specs.declared.CutKind.TheVariants.{Take, Drop}
use Rattle.cuts.specs.Steps.{cut_meaning, cut_length, keeps_end, cut_lengths, table_of, cut_at}
use Rattle.cuts.proofs.Tables.{cut-none, cut-at}

-- Position i of the result lies in the window of an axis.
abbrev seen : CutKind → ℤ → ℕ → ℕ → Bool
seen kind z n i =
    let m : ℕ = cut_length kind z n in
    let lead : ℕ = cond (keeps_end kind z) (m - n) 0 in
    leb lead i && ltb i (lead + min m n)

-- And this position of R is seen there.
abbrev seen_at : CutKind → ℤ → ℕ → ℕ → ℕ
seen_at kind z n i =
    let m : ℕ = cut_length kind z n in
    cond (keeps_end kind z) (n - m) 0 + (i - cond (keeps_end kind z) (m - n) 0)

-- 23 on one axis: a position inside, and one outside.
taken_in : (z : ℤ) (n i : ℕ) → i < nat_abs z → seen Take z n i ≡ true → (taken_from z n i ≡ pos (seen_at Take z n i)) × (seen_at Take z n i < n)
unfolding taken_from negative
taken_in (pos m) n i h s =
    let t = both (leb 0 i) (ltb i (0 + min m n)) s in
    (ap pos (omega arith), omega (arith, ltb-true i (0 + min m n) t.1))
taken_in (negsuc k) n i h s =
    let t = both (leb (suc k - n) i) (ltb i (suc k - n + min (suc k) n)) s in
    let l : suc k - n ≤ i = leb-true (suc k - n) i t.0 in
    let not-below : ltb (n + i) (suc k) ≡ false = le-ltb (n + i) (suc k) (omega arith) in
    let there : n + i - suc k ≡ n - suc k + (i - (suc k - n)) = omega arith in
    (rw not-below (ap pos there), omega arith)

taken_out : (z : ℤ) (n i : ℕ) → i < nat_abs z → seen Take z n i ≡ false → (not (negative (taken_from z n i)) && ltb (nat_abs (taken_from z n i)) n) ≡ false
unfolding taken_from negative
taken_out (pos m) n i h s = by (dec_lt i n)
  where
    by : Dec (i < n) → ltb i n ≡ false
    by (yes l) = absurd (no_way (sym s ∙ rw (le-leb 0 i (omega arith), lt-ltb i (0 + min m n) (omega arith))))
    by (no l) = le-ltb i n (omega arith)
taken_out (negsuc k) n i h s = by (dec_lt (n + i) (suc k))
  where
    by : Dec (n + i < suc k) → (not (negative (pos (n + i) +ℤ negsuc k)) && ltb (nat_abs (pos (n + i) +ℤ negsuc k)) n) ≡ false
    by (yes l) = rw (lt-ltb (n + i) (suc k) l)
    by (no l) = absurd (no_way (sym s ∙ rw (le-leb (suc k - n) i (omega arith), lt-ltb i (suc k - n + min (suc k) n) (omega arith))))

-- 24 on one axis: no position is outside.
dropped-in : (z : ℤ) (n i : ℕ) → i < n - nat_abs z → (seen Drop z n i ≡ true) × (seen_at Drop z n i ≡ cond (negative z) i (i + nat_abs z))
unfolding negative
dropped-in (pos a) n i h =
    (rw (le-leb (n - a - n) i (omega arith), lt-ltb i (n - a - n + min (n - a) n) (omega arith)), omega arith)
dropped-in (negsuc k) n i h = (rw (le-leb 0 i (omega arith), lt-ltb i (0 + min (n - suc k) n) (omega arith)), omega arith)

-- The element at place q of xs, and 0 outside.
abbrev at_or : List ℕ → List ℤ → List ℤ → ℤ
at_or ns xs q = cond (every (λ z. not (negative z)) q && inside ns (map nat_abs q)) (get_or xs (index ns (map nat_abs q)) (pos 0)) (pos 0)

-- That of a part with so many elements.
at-part : (ns : List ℕ) (xs : List ℤ) (at : ℕ) (q : List ℤ)
    → cond (every (λ z. not (negative z)) q && inside ns (map nat_abs q)) (get_or xs (at + index ns (map nat_abs q)) (pos 0)) (pos 0)
    ≡ at_or ns (take (count ns) (drop at xs)) q
at-part ns xs at q =
    cond_same (pos 0) (every (λ z. not (negative z)) q && inside ns (map nat_abs q))
    (λ t.
    let p = both (every (λ z. not (negative z)) q) (inside ns (map nat_abs q)) t in
    sym (get_or_part xs at (count ns) (index ns (map nat_abs q)) (pos 0) (index-lt ns (map nat_abs q) (inside-in ns (map nat_abs q) p.1))))

outside : (a b c d : Bool) → (a && c) ≡ false → ((a && b) && (c && d)) ≡ false
outside false b c d h = refl
outside true false c d h = refl
outside true true c d h = rw h

pub taken-cut : (zs : List ℤ) (ns : List ℕ) (xs : List ℤ) (j : ℕ) → length zs ≡ length ns → j < count (cut_lengths Take zs ns)
    → at_or ns xs (taken_place zs ns (place (cut_lengths Take zs ns) j)) ≡ cut_at (table_of Take zs ns) xs j
unfolding cut_lengths count place index inside every taken_place negative
taken-cut [] [] xs j l h = let e : j ≡ 0 = omega arith in rw e (sym (cut-none Take xs 0))
taken-cut [] (n ∷ ns) xs j l h = absurd (omega arith)
taken-cut (z ∷ zs) [] xs j l h = absurd (omega arith)
taken-cut (z ∷ zs) (n ∷ ns) xs j l h =
    let c : ℕ = count (cut_lengths Take zs ns) in
    let r = row_in (nat_abs z) c j h in
    by (j / c) _ _ r.1 (taken-cut zs ns _ (j % c) (omega arith) (mod-lt j r.0)) (seen Take z n (j / c)) refl ∙ sym (cut-at Take z zs n ns xs j r.0)
  where
    by : (i : ℕ) (p : List ℕ) (rest : ℤ) → i < nat_abs z
        → at_or ns (take (count ns) (drop (seen_at Take z n i * count ns) xs)) (taken_place zs ns p) ≡ rest
        → (b : Bool) → seen Take z n i ≡ b → at_or (n ∷ ns) xs (taken_from z n i ∷ taken_place zs ns p) ≡ cond b rest (pos 0)
    by i p rest k more true s =
        let w = taken_in z n i k s in
        rw (w.0, lt-ltb (seen_at Take z n i) n w.1) (at-part ns xs (seen_at Take z n i * count ns) (taken_place zs ns p) ∙ more)
    by i p rest k more false s =
        rw (outside (not (negative (taken_from z n i))) _ (ltb (nat_abs (taken_from z n i)) n) _ (taken_out z n i k s))

-- The place that 24 takes lies in R.
dropped-low : (z : ℤ) (n i : ℕ) → i < n - nat_abs z → cond (negative z) i (i + nat_abs z) < n
unfolding negative
dropped-low (pos a) n i h = omega arith
dropped-low (negsuc k) n i h = omega arith

dropped-lt : (zs : List ℤ) (ns : List ℕ) (j : ℕ) → length zs ≡ length ns → j < count (cut_lengths Drop zs ns)
    → index ns (dropped_place zs (place (cut_lengths Drop zs ns) j)) < count ns
unfolding cut_lengths count place index dropped_place
dropped-lt [] [] j l h = omega arith
dropped-lt [] (n ∷ ns) j l h = absurd (omega arith)
dropped-lt (z ∷ zs) [] j l h = absurd (omega arith)
dropped-lt (z ∷ zs) (n ∷ ns) j l h =
    let c : ℕ = count (cut_lengths Drop zs ns) in
    let r = row_in (n - nat_abs z) c j h in
    let p : ℕ = cond (negative z) (j / c) (j / c + nat_abs z) in
    omega (arith, dropped-lt zs ns (j % c) (omega arith) (mod-lt j r.0), row_fits p n (count ns) (dropped-low z n (j / c) r.1))

pub dropped-cut : (zs : List ℤ) (ns : List ℕ) (xs : List ℤ) (j : ℕ) → length zs ≡ length ns → j < count (cut_lengths Drop zs ns)
    → get_or xs (index ns (dropped_place zs (place (cut_lengths Drop zs ns) j))) (pos 0) ≡ cut_at (table_of Drop zs ns) xs j
unfolding cut_lengths count place index dropped_place
dropped-cut [] [] xs j l h = let e : j ≡ 0 = omega arith in rw e (sym (cut-none Drop xs 0))
dropped-cut [] (n ∷ ns) xs j l h = absurd (omega arith)
dropped-cut (z ∷ zs) [] xs j l h = absurd (omega arith)
dropped-cut (z ∷ zs) (n ∷ ns) xs j l h =
    let c : ℕ = count (cut_lengths Drop zs ns) in
    let r = row_in (n - nat_abs z) c j h in
    let w = dropped-in z n (j / c) r.1 in
    let at : ℕ = seen_at Drop z n (j / c) * count ns in
    let x : ℕ = index ns (dropped_place zs (place (cut_lengths Drop zs ns) (j % c))) in
    let low : x < count ns = dropped-lt zs ns (j % c) (omega arith) (mod-lt j r.0) in
    let here : get_or xs (at + x) (pos 0) ≡ cut_at (table_of Drop zs ns) (take (count ns) (drop at xs)) (j % c) =
    sym (get_or_part xs at (count ns) x (pos 0) low) ∙ dropped-cut zs ns _ (j % c) (omega arith) (mod-lt j r.0) in
    let there : cut_at (table_of Drop (z ∷ zs) (n ∷ ns)) xs j ≡ cut_at (table_of Drop zs ns) (take (count ns) (drop at xs)) (j % c) =
    cut-at Drop z zs n ns xs j r.0 ∙ rw w.0 in
    let same : cond (negative z) (j / c) (j / c + nat_abs z) * count ns + x ≡ at + x = ap (λ p. p * count ns + x) (sym w.1) in
    ap (λ p. get_or xs p (pos 0)) same ∙ here ∙ sym there

-- The result's lengths.
lengths-taken : (zs : List ℤ) (ns : List ℕ) → length zs ≡ length ns → map nat_abs zs ≡ cut_lengths Take zs ns
unfolding cut_lengths
lengths-taken [] ns l = refl
lengths-taken (z ∷ zs) [] l = absurd (omega arith)
lengths-taken (z ∷ zs) (n ∷ ns) l = ap (λ ms. nat_abs z ∷ ms) (lengths-taken zs ns (omega arith))

lengths-dropped : (zs : List ℤ) (ns : List ℕ) → dropped_lengths zs ns ≡ cut_lengths Drop zs ns
unfolding cut_lengths dropped_lengths
lengths-dropped [] ns = refl
lengths-dropped (z ∷ zs) [] = refl
lengths-dropped (z ∷ zs) (n ∷ ns) = ap (λ ms. (n - nat_abs z) ∷ ms) (lengths-dropped zs ns)

pub as-elements : (n : ℕ) (a : Array) → (as_rank n a).elements ≡ a.elements
as-elements n a = by (is_scalar a)
  where
    by : (b : Bool) → (cond b (record { lengths = replicate n 1; elements = a.elements }) a).elements ≡ a.elements
    by true = refl
    by false = refl

at-or : (a : Array) (q : List ℤ) → at_or_zero a q ≡ at_or a.lengths a.elements q
unfolding at_or_zero at
at-or a q = refl

at-is : (a : Array) (p : List ℕ) → at a p ≡ get_or a.elements (index a.lengths p) (pos 0)
unfolding at
at-is a p = refl

-- R as it is read: a scalar has as many axes as L has numbers.
abbrev pub read : Array → Array → Array
read L R = as_rank (length L.elements) R

-- What both give.
module _ (L R : Array) (l : length L.elements ≡ rank (read L R)) where
  pub cut-lengths : (kind : CutKind) → (cut_meaning kind L R).lengths ≡ cut_lengths kind L.elements (read L R).lengths
  unfolding takes drops
  cut-lengths Take = lengths-taken L.elements (read L R).lengths l
  cut-lengths Drop = lengths-dropped L.elements (read L R).lengths

  cut-element : (kind : CutKind) (j : ℕ) → j < count (cut_lengths kind L.elements (read L R).lengths)
      → (cut_meaning kind L R).element (place (cut_lengths kind L.elements (read L R).lengths) j)
      ≡ cut_at (table_of kind L.elements (read L R).lengths) R.elements j
  unfolding takes drops
  cut-element Take j h =
      at-or (read L R) (taken_place L.elements (read L R).lengths (place (cut_lengths Take L.elements (read L R).lengths) j))
      ∙ taken-cut L.elements (read L R).lengths (read L R).elements j l h
      ∙ ap (λ xs. cut_at (table_of Take L.elements (read L R).lengths) xs j) (as-elements (length L.elements) R)
  cut-element Drop j h =
      at-is (read L R) (dropped_place L.elements (place (cut_lengths Drop L.elements (read L R).lengths) j))
      ∙ dropped-cut L.elements (read L R).lengths (read L R).elements j l h
      ∙ ap (λ xs. cut_at (table_of Drop L.elements (read L R).lengths) xs j) (as-elements (length L.elements) R)

  pub cut-elements : (kind : CutKind)
      → (build (cut_meaning kind L R).lengths (cut_meaning kind L R).element).elements
      ≡ tab (count (cut_meaning kind L R).lengths) (cut_at (table_of kind L.elements (read L R).lengths) R.elements)
  unfolding build
  cut-elements kind =
      tab-ext (count (cut_meaning kind L R).lengths) _ _
      (λ j h. ap (λ ms. (cut_meaning kind L R).element (place ms j)) (cut-lengths kind) ∙ cut-element kind j (rw (cut-lengths kind) at h))
