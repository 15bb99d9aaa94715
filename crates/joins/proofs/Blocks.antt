-- Blocks of the result, each with a run of an operand.
use mathlib.Core.Path.{◌≡◌, refl, sym, ap, ap₂, ◌∙◌}
use mathlib.Core.List.{List, ◌++◌}
use mathlib.Core.Bool.{Bool, true, false, and-false, ◌&&◌}
use Prim.Native.Nat.{ℕ, zero, suc, ◌+◌, ◌-◌, ◌*◌, ◌%◌, ◌≤◌, ◌<◌}
use native.Mathlib.Nat.{add_assoc, mod-lt}
use native.Mathlib.Omega.{arith}
use borrow.Author.Tests.{le-leb, lt-leb, lt-ltb, le-ltb, ltb-true, ltb-false}
use borrow.Rule.Slice.PartMut.{put_mid, same_len_mid}
use lib.Arith.{digits_div, digits_mod}
use lib.Dec.{leb, ltb}
use lib.ListN.{length, get_or, take, drop, replicate, get_or-append}
use lib.Seq.{drop_at}
use lib.IntN.{ℤ, pos}
use Rattle.meaning.specs.Array.{tab}
use Rattle.meaning.specs.Steps.{side_at}
use Rattle.meaning.proofs.Tab.{length-tab, get_or-tab, tab-ext, tab-part, tab-same}
use Rattle.copying.specs.Runs.{copied}
use Rattle.copying.specs.Steps.{filled}
use Rattle.copying.proofs.Runs.{filled-whole, copied-whole}
use Rattle.copying.proofs.Parts.{part_filled, part-long, filled_on}
use Rattle.copying.proofs.Blockwise.{Blockwise, blockwise-room}
use Rattle.joins.specs.Steps.{Given, joined, RunsFit, runs_at}

pub wide : {a b : Given} → a ≡ b → a.width ≡ b.width
wide e = ap (λ (a : Given). a.width) e

-- Element x of block o: before the run, in it, and after it.
module _ (a : Given) (first size : ℕ) (out : List ℤ) (fits : first + a.width ≤ size) (o : ℕ) where
  abbrev g : ℕ → ℤ
  g = runs_at a first size out

  run-before : (x : ℕ) → x < first → g (o * size + x) ≡ get_or out (o * size + x) (pos 0)
  run-before x h =
      let s : x < size = omega arith in
      rw (digits_div o s, digits_mod o s, lt-leb first x h)

  run_in : (i : ℕ) → i < a.width → g (o * size + first + i) ≡ side_at a.scalar a.elements (o * a.width + i)
  run_in i h =
      let s : first + i < size = omega arith in
      let q : first + i - first ≡ i = omega arith in
      let inside : leb first (first + i) && ltb (first + i) (first + a.width) ≡ true =
      rw (le-leb first (first + i) (omega arith), lt-ltb (first + i) (first + a.width) (omega arith)) in
      rw (add_assoc (o * size) first i, digits_div o s, digits_mod o s, inside, q)

  run-after : (x : ℕ) → first + a.width ≤ x → x < size → g (o * size + x) ≡ get_or out (o * size + x) (pos 0)
  run-after x h s = rw (digits_div o s, digits_mod o s, le-ltb x (first + a.width) h, and-false (leb first x))

-- What `put_run` leaves of run o in the part that was lent to it.
abbrev Put : Given → ℕ → List ℤ → List ℤ → Type 0
Put a o part last = last ≡ filled (λ i. side_at a.scalar a.elements (o * a.width + i)) a.width part

-- A block more.
module _ (a : Given) {first size outer o : ℕ} {out₀ out : List ℤ} (f : RunsFit a first size outer (length out₀))
    (inv : Blockwise outer size (runs_at a first size out₀) out₀ out (o * size) o) (more : o < outer) where
  abbrev h : ℕ → ℤ
  h = runs_at a first size out₀

  pub run_room : o * size + size ≤ length out₀
  run_room = blockwise-room inv _ more f.space

  begun : out ≡ filled h (o * size + first) out₀
  begun =
      inv.done
      ∙ filled_on h (o * size) first out₀ (omega (arith, run_room, f.within)) (λ i l. run-before a first size out₀ f.within o i l)

  ended : filled h (o * size + first + a.width) out₀ ≡ filled h ((o + 1) * size) out₀
  ended =
      let r = run_room in
      let fits = f.within in
      let rest = size - (first + a.width) in
      let all : o * size + first + a.width + rest ≡ (o + 1) * size = omega arith in
      let place : (i : ℕ) → o * size + first + a.width + i ≡ o * size + (first + a.width + i) = λ i. omega arith in
      filled_on h (o * size + first + a.width) rest out₀ (omega arith)
      (λ i l.
      ap h (place i)
      ∙ run-after a first size out₀ fits o (first + a.width + i) (omega arith) (omega arith)
      ∙ ap (λ n. get_or out₀ n (pos 0)) (sym (place i)))
      ∙ ap (λ n. filled h n out₀) all

  pub run_more : (at : ℕ) → at ≡ o * size + first → (last part : List ℤ) → length part ≡ a.width
      → length last ≡ length (take (at + a.width - at) (drop at out)) → Put a o part last
      → Blockwise outer size h out₀ (put_mid at (at + a.width - at) out last) ((o + 1) * size) (o + 1)
  run_more at e last part long k run =
      let there : out ≡ filled h at out₀ = begun ∙ ap (λ n. filled h n out₀) (sym e) in
      record {
        some = omega arith;
        at-is = refl;
        long = same_len_mid at (at + a.width - at) out last k ∙ inv.long;
        done =
            part_filled h _ at a.width (at + a.width) out out₀ last part there refl long run
            (λ i l. ap (λ n. h (n + i)) e ∙ run_in a first size out₀ f.within o i l)
            ∙ ap (λ n. filled h (n + a.width) out₀) e
            ∙ ended;
      }

-- The runs of L and then those of R.
module _ (a b : Given) (out : List ℤ) (outer : ℕ) where
  abbrev size : ℕ
  size = a.width + b.width

  abbrev left : List ℤ
  left = filled (runs_at a 0 size out) (outer * size) out

  left_at : (j : ℕ) → j < outer * size → get_or left j (pos 0) ≡ runs_at a 0 size out j
  left_at j h =
      get_or-append (tab (outer * size) (runs_at a 0 size out)) (drop (outer * size) out) (pos 0) j
      (omega (arith, length-tab (outer * size) (runs_at a 0 size out)))
      ∙ get_or-tab (outer * size) (runs_at a 0 size out) j (pos 0) h

  some : (n j : ℕ) → j < outer * n → 0 < n
  some zero j h = absurd (omega arith)
  some (suc n) j h = omega arith

  joined_at : (j : ℕ) → j < outer * size → runs_at b a.width size left j ≡ joined a b j
  joined_at j h = by-case (ltb (j % size) a.width) refl
    where
      by-case : (t : Bool) → ltb (j % size) a.width ≡ t → runs_at b a.width size left j ≡ joined a b j
      by-case true e =
          let x : j % size < a.width = ltb-true (j % size) a.width e in
          let q : j % size - 0 ≡ j % size = omega arith in
          rw (lt-leb a.width (j % size) x, e) (left_at j h ∙ rw (le-leb 0 (j % size) (omega arith), lt-ltb (j % size) (0 + a.width) (omega arith), q))
      by-case false e =
          let x : a.width ≤ j % size = ltb-false (j % size) a.width e in
          rw (le-leb a.width (j % size) x, lt-ltb (j % size) size (mod-lt j (some size j h)), e)

  pub both_runs : filled (runs_at b a.width size left) (outer * size) left ≡ filled (joined a b) (outer * size) out
  both_runs =
      ap₂ (λ x y. x ++ y) (tab-ext (outer * size) _ _ joined_at)
      (drop_at (tab (outer * size) (runs_at a 0 size out)) (drop (outer * size) out) (outer * size) (length-tab (outer * size) (runs_at a 0 size out)))

-- A run by one element, and by a run of the operand.
module _ (a : Given) (part last : List ℤ) (o : ℕ) (long : length part ≡ a.width) where
  all : (b : Bool) → a.scalar ≡ b → last ≡ tab a.width (λ i. side_at b a.elements (o * a.width + i)) → Put a o part last
  all b e q =
      q ∙ sym (filled-whole _ a.width part (omega arith)) ∙ ap (λ t. filled (λ i. side_at t a.elements (o * a.width + i)) a.width part) (sym e)

  pub one-run : a.scalar ≡ true → last ≡ replicate (length part) (get_or a.elements 0 (pos 0)) → Put a o part last
  one-run e q = all true e (q ∙ ap (λ n. replicate n (get_or a.elements 0 (pos 0))) long ∙ tab-same a.width _ _ (λ i h. refl))

  pub many-run : a.scalar ≡ false → o * a.width + a.width ≤ length a.elements
      → last ≡ copied (take (o * a.width + a.width - o * a.width) (drop (o * a.width) a.elements)) part → Put a o part last
  many-run e h q =
      let n : o * a.width + a.width - o * a.width ≡ a.width = omega arith in
      all false e
      (q ∙ copied-whole _ part (part-long a.elements (o * a.width) a.width h ∙ sym long)
      ∙ ap (λ n. take n (drop (o * a.width) a.elements)) n
      ∙ tab-part a.elements (o * a.width) a.width (pos 0) h)
