-- Runs written to a buffer through a part of it that was lent: `copy_run(&r[from..to], &mut out[n..e])` leaves
-- `put_mid n (e - n) out last`, where `last` is what the run left in the part.
use Prim.Native.Nat.{ℕ, suc, ◌+◌, ◌-◌, ◌≤◌, ◌<◌}
use native.Mathlib.Nat.{add-zero}
use native.Mathlib.Numerals.{add-one}
use native.Mathlib.Omega.{arith}
use mathlib.Core.Path.{◌≡◌, refl, sym, ap, ap₂, ◌∙◌}
use mathlib.Core.List.{List, [], ◌∷◌, ◌++◌, append_assoc, append-nil, reverse}
use lib.IntN.{ℤ}
use lib.ListN.{length, get_or, take, drop, set, replicate, length-append, length-drop, length-replicate, get_or-replicate, drop_of_length-le}
use lib.Seq.{length-take-le, take_at, drop_at, drop-drop, drop-cons, set_at, append_snoc, take_all}
use borrow.Rule.Slice.PartMut.{put_mid, mid_len}
use Rattle.meaning.specs.Array.{tab_from, tab}
use Rattle.copying.specs.Runs.{common, copied, reversed}
use Rattle.copying.specs.Steps.{filled}
use Rattle.meaning.proofs.Tab.{length-tab, tab-ext, tab-get_or, tab-add, get_or_part}

-- What the contracts come to where the run fits.
pub copied-fits : (src out : List ℤ) → length src ≤ length out → copied src out ≡ src ++ drop (length src) out
unfolding copied
copied-fits src out h =
    let n : common src out ≡ length src = omega arith in
    rw (n, take_all (length src) src (omega arith))

pub copied-whole : (src out : List ℤ) → length src ≡ length out → copied src out ≡ src
copied-whole src out h = copied-fits src out (omega arith) ∙ rw (drop_of_length-le out {i = length src} (omega arith)) (append-nil src)

-- The elements that fit are copied alike by themselves.
pub copied_front : (src out : List ℤ) (n : ℕ) → n ≡ common src out → copied (take n src) out ≡ copied src out
unfolding copied
copied_front src out n e = copied-fits (take n src) out (omega (arith, length-take-le n src (omega arith))) ∙ rw (length-take-le n src (omega arith), e)

-- A run that is copied by way of a buffer which has room for it.
pub copied_through : (src held out : List ℤ) → length src ≤ length held → copied (take (length src) (copied src held)) out ≡ copied src out
copied_through src held out h = rw (copied-fits src held h, take_at src (drop (length src) held) (length src) refl)

pub reversed-fits : (src out : List ℤ) → length src ≤ length out → reversed src out ≡ reverse src ++ drop (length src) out
unfolding reversed
reversed-fits src out h =
    let n : common src out ≡ length src = omega arith in
    rw (n, take_all (length src) src (omega arith))

pub reversed-whole : (src out : List ℤ) → length src ≡ length out → reversed src out ≡ reverse src
reversed-whole src out h = reversed-fits src out (omega arith) ∙ rw (drop_of_length-le out {i = length src} (omega arith)) (append-nil (reverse src))

-- ys in the place of the part at .. e: out was xs over l, and is xs ++ ys over l.
pub put-part : {A : Type 0} (out xs ys l : List A) (at e : ℕ) → out ≡ xs ++ drop at l → length xs ≡ at → at ≤ e
    → put_mid at (e - at) out ys ≡ (xs ++ ys) ++ drop e l
put-part out xs ys l at e o x h =
    let end : at + (e - at) ≡ e = omega arith in
    rw (o, take_at xs (drop at l) at x, drop_at xs (drop at l) at x, drop-drop, end) (sym (append_assoc xs ys (drop e l)))

-- The part has as many elements as it is long.
pub part_length : {A : Type 0} (out xs l : List A) (at e : ℕ) → out ≡ xs ++ drop at l → length xs ≡ at → at ≤ e → e ≤ length l
    → length (take (e - at) (drop at out)) ≡ e - at
part_length out xs l at e o x h k =
    mid_len at e out (rw (o, length-append, length-drop) (omega arith))

module _ {A : Type 0} where
  pub filled_none : (g : ℕ → A) (out : List A) → out ≡ filled g 0 out
  unfolding tab tab_from
  filled_none g out = refl

  pub length-filled : (g : ℕ → A) (n : ℕ) (out : List A) → n ≤ length out → length (filled g n out) ≡ length out
  length-filled g n out h = rw (length-append, length-tab, length-drop) (omega arith)

  -- A buffer that is filled to its end.
  pub filled-whole : (g : ℕ → A) (n : ℕ) (out : List A) → length out ≤ n → filled g n out ≡ tab n g
  filled-whole g n out h = rw (drop_of_length-le out {i = n} h) (append-nil (tab n g))

  -- One element stored after what is filled.
  pub filled-one : (g : ℕ → A) (d v : A) (j : ℕ) (out : List A) → j < length out → v ≡ g j → set (filled g j out) j v ≡ filled g (j + 1) out
  unfolding tab tab_from
  filled-one g d v j out h e =
      ap (λ r. set (tab j g ++ r) j v) (drop-cons out j d h)
      ∙ set_at (tab j g) (get_or out j d) (drop (suc j) out) v j (length-tab j g)
      ∙ sym (append_snoc (tab j g) v (drop (suc j) out))
      ∙ ap₂ (λ x y. tab j g ++ (x ∷ []) ++ drop y out) (e ∙ ap g (sym (add-zero j))) (sym (add-one j))
      ∙ ap (λ x. x ++ drop (j + 1) out) (sym (tab-add j 1 g))

  -- A list is the table of any function that gives its elements.
  pub tab-is : (ys : List A) (d : A) (m : ℕ) (f : ℕ → A) → length ys ≡ m → ((i : ℕ) → i < m → f i ≡ get_or ys i d) → ys ≡ tab m f
  tab-is ys d m f long same =
      sym (tab-get_or ys d) ∙ ap (λ k. tab k (λ i. get_or ys i d)) long ∙ tab-ext m (λ i. get_or ys i d) f (λ i l. sym (same i l))

  -- A buffer that is filled up to n, and m elements ys in the place of the part n .. e: it is filled up to n + m.
  pub put-list : (g : ℕ → A) (d : A) (n m e : ℕ) (out out₀ ys : List A) → out ≡ filled g n out₀ → e ≡ n + m
      → length ys ≡ m → ((i : ℕ) → i < m → g (n + i) ≡ get_or ys i d)
      → put_mid n (e - n) out ys ≡ filled g (n + m) out₀
  put-list g d n m e out out₀ ys o end long same =
      put-part out (tab n g) ys out₀ n e o (length-tab n g) (omega arith)
      ∙ ap₂ (λ x k. (tab n g ++ x) ++ drop k out₀) (tab-is ys d m (λ i. g (n + i)) long same) end
      ∙ ap (λ x. x ++ drop (n + m) out₀) (sym (tab-add n m g))

-- Runs as a caller has them: the part n .. e of out, m elements long, and the part from .. to of r.
module _ (g : ℕ → ℤ) (n m e : ℕ) (out out₀ last : List ℤ) (o : out ≡ filled g n out₀) (end : e ≡ n + m) (room : e ≤ length out₀) where
  room-length : length (take (e - n) (drop n out)) ≡ m
  room-length = part_length out (tab n g) out₀ n e o (length-tab n g) (omega arith) room ∙ omega arith

  -- Every element becomes x.
  pub put-filled : (x : ℤ) → ((i : ℕ) → i < m → g (n + i) ≡ x) → last ≡ replicate (length (take (e - n) (drop n out))) x
      → put_mid n (e - n) out last ≡ filled g (n + m) out₀
  put-filled x same q =
      let run : last ≡ replicate m x = q ∙ ap (λ k. replicate k x) room-length in
      put-list g x n m e out out₀ last o end (ap length run ∙ length-replicate m x)
      (λ i l. same i l ∙ sym (ap (λ ys. get_or ys i x) run ∙ get_or-replicate m i x x l))

  module _ (r : List ℤ) (from to : ℕ) (d : ℤ) (stop : to ≡ from + m) (inside : to ≤ length r) where
    abbrev run : List ℤ
    run = take (to - from) (drop from r)

    run_length : length run ≡ m
    run_length = mid_len from to r inside ∙ omega arith

    run_at : (i : ℕ) → i < m → get_or run i d ≡ get_or r (from + i) d
    run_at i l = get_or_part r from (to - from) i d (omega arith)

    -- A run that is copied.
    pub put-copied : ((i : ℕ) → i < m → g (n + i) ≡ get_or r (from + i) d)
        → last ≡ copied (take (to - from) (drop from r)) (take (e - n) (drop n out))
        → put_mid n (e - n) out last ≡ filled g (n + m) out₀
    put-copied same q =
        let whole : last ≡ run = q ∙ copied-whole run (take (e - n) (drop n out)) (run_length ∙ sym room-length) in
        put-list g d n m e out out₀ last o end (ap length whole ∙ run_length) (λ i l. same i l ∙ sym (ap (λ ys. get_or ys i d) whole ∙ run_at i l))
