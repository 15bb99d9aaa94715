-- Moves of the positions along one axis that keep its length, each line by a move of its own, at any rank and axis.
use mathlib.Core.Path.{◌≡◌, sym, ap, ap₂, ◌∙◌}
use mathlib.Core.List.{List}
use Prim.Native.Nat.{ℕ, ◌≤◌, ◌<◌}
use native.Mathlib.Decide.{dec_lt}
use native.Mathlib.Omega.{arith}
use lib.ListN.{length, get_or, set}
use lib.Seq.{set-set, set-get_or, set_out, get_or-set_same}
use lib.IntN.{ℤ}
use Rattle.shape.proofs.Places.{In}
use Rattle.shape.proofs.Axis.{in-length, in-at, in-set}
use Rattle.meaning.specs.Array.{Array, at, build}
use Rattle.shape.specs.Shape.{without}
use Rattle.meaning.specs.Terms.{rank, axis}
use Rattle.meaning.proofs.Without.{without-set}
use Rattle.meaning.proofs.Arrays.{Whole, build-lengths, at-build, build-ext, build-at}

-- The place whose position i on axis k has become f q i, where q names its line: it is the place without that axis.
abbrev pub on_line : ℕ → (List ℕ → ℕ → ℕ) → List ℕ → List ℕ
on_line k f p = set p k (f (without k p) (get_or p k 0))

-- Its line is the same, so twice is once.
pub line-line : (k : ℕ) (f g : List ℕ → ℕ → ℕ) (p : List ℕ) → k < length p → on_line k f (on_line k g p) ≡ on_line k (λ q i. f q (g q i)) p
line-line k f g p h =
    set-set p k _ _ ∙ ap₂ (λ q i. set p k (f q i)) (without-set p k _) (get_or-set_same p k _ 0 h)

-- Along the lines of axis k, position i takes position f q i of the array.
unfoldable pub along_lines : Array → ℕ → (List ℕ → ℕ → ℕ) → List ℕ → ℤ
along_lines a k f p = at a (on_line k f p)

unfoldable pub moved : Array → ℕ → (List ℕ → ℕ → ℕ) → Array
moved a k f = build a.lengths (along_lines a k f)

pub moved-lengths : (a : Array) (k : ℕ) (f : List ℕ → ℕ → ℕ) → (moved a k f).lengths ≡ a.lengths
unfolding moved
moved-lengths a k f = build-lengths a.lengths (along_lines a k f)

-- A place that stays in its shape when its position on axis k becomes x.
pub stays : (a : Array) (k x : ℕ) (p : List ℕ) → x < axis a k → In a.lengths p → In a.lengths (set p k x)
stays a k x p h i = rw (set-get_or a.lengths k 0) at (in-set a.lengths p k (axis a k) x i h)

-- Where there is no axis k nothing moves.
pub along-out : (a : Array) (k : ℕ) (f : List ℕ → ℕ → ℕ) (p : List ℕ) → rank a ≤ k → In a.lengths p → along_lines a k f p ≡ at a p
unfolding along_lines
along-out a k f p h i = ap (at a) (set_out p k _ (rw (in-length a.lengths p i) h))

-- A move depends on what it does below the axis's length.
pub moved-ext : (a : Array) (k : ℕ) (f g : List ℕ → ℕ → ℕ) → ((q : List ℕ) (i : ℕ) → i < axis a k → f q i ≡ g q i) → moved a k f ≡ moved a k g
unfolding moved along_lines
moved-ext a k f g h = build-ext a.lengths _ _ (λ p i. by p i (dec_lt k (rank a)))
  where
    by : (p : List ℕ) → In a.lengths p → Dec (k < rank a) → along_lines a k f p ≡ along_lines a k g p
    by p i (yes l) = ap (λ x. at a (set p k x)) (h (without k p) (get_or p k 0) (in-at a.lengths p k i l))
    by p i (no l) = along-out a k f p (omega arith) i ∙ sym (along-out a k g p (omega arith) i)

-- A move that leaves each position.
still : (a : Array) (k : ℕ) → Whole a → moved a k (λ q i. i) ≡ a
unfolding moved along_lines
still a k w = build-ext a.lengths _ (at a) (λ p i. ap (at a) (set-get_or p k 0)) ∙ build-at a w

pub moved-id : (a : Array) (k : ℕ) (f : List ℕ → ℕ → ℕ) → Whole a → ((q : List ℕ) (i : ℕ) → i < axis a k → f q i ≡ i) → moved a k f ≡ a
moved-id a k f w h = moved-ext a k f (λ q i. i) h ∙ still a k w

-- What stands at a place after a move.
pub at_moved : (a : Array) (k : ℕ) (f : List ℕ → ℕ → ℕ) (p : List ℕ) → In a.lengths p → at (moved a k f) p ≡ along_lines a k f p
unfolding moved
at_moved a k f p i = at-build a.lengths (along_lines a k f) p i

-- Two moves are one.
along-along : (a : Array) (k : ℕ) (f g : List ℕ → ℕ → ℕ) → ((q : List ℕ) (i : ℕ) → i < axis a k → g q i < axis a k) → (p : List ℕ) → In a.lengths p
    → Dec (k < rank a)
    → along_lines (moved a k f) k g p ≡ along_lines a k (λ q i. f q (g q i)) p
unfolding along_lines
along-along a k f g h p i (yes l) =
    let x : ℕ = g (without k p) (get_or p k 0) in
    let lp : k < length p = omega (arith, in-length a.lengths p i) in
    at_moved a k f (set p k x) (stays a k x p (h (without k p) (get_or p k 0) (in-at a.lengths p k i l)) i)
    ∙ ap (at a) (line-line k f g p lp)
along-along a k f g h p i (no l) =
    let out : set p k (g (without k p) (get_or p k 0)) ≡ p = set_out p k _ (omega (arith, in-length a.lengths p i)) in
    ap (at (moved a k f)) out ∙ at_moved a k f p i ∙ along-out a k f p (omega arith) i ∙ sym (along-out a k (λ q j. f q (g q j)) p (omega arith) i)

pub moved-moved : (a : Array) (k : ℕ) (f g : List ℕ → ℕ → ℕ) → ((q : List ℕ) (i : ℕ) → i < axis a k → g q i < axis a k)
    → moved (moved a k f) k g ≡ moved a k (λ q i. f q (g q i))
unfolding moved
moved-moved a k f g h =
    ap (λ ns. build ns (along_lines (moved a k f) k g)) (moved-lengths a k f)
    ∙ build-ext a.lengths _ _ (λ p i. along-along a k f g h p i (dec_lt k (rank a)))
