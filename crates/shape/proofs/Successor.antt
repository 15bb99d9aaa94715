-- A place of a shape and its successor, by the positions and the lengths that a loop reads.
use mathlib.Core.Path.{◌≡◌, refl, sym, ◌∙◌}
use mathlib.Core.List.{List, [], ◌∷◌, ◌++◌}
use mathlib.Core.Bool.{Bool, true, false, not, and-false}
use Prim.Native.Nat.{ℕ, suc, ◌+◌, ◌-◌, ◌≤◌, ◌<◌}
use native.Mathlib.Numerals.{add-one}
use native.Mathlib.Omega.{arith}
use borrow.Author.Tests.{lt-ltb, le-ltb}
use lib.ListN.{length, get_or, take, drop, set, replicate, length-take, length-drop, drop_of_length-le}
use lib.Seq.{length-take-le, get_or-take, take-take}
use Rattle.std.specs.Bool.{IsTrue}
use Rattle.std.proofs.Math.Logic.{◌↔◌}
use Rattle.shape.proofs.Bools.{no_way, refuted}
use Rattle.shape.proofs.Places.{In, in-inside, inside-in, place-length}
use Rattle.shape.proofs.Axis.{in-at, in-from}
use Rattle.shape.proofs.Counts.{good-rank}
use Rattle.shape.proofs.Padded.{padded-set, padded-less, padded-on}
use Rattle.shape.proofs.Next.{Last, next_place, next-below, last_more}
use Rattle.shape.specs.declared.Shape.{Shape}
use Rattle.shape.specs.declared.Place.{Place}
use Rattle.shape.specs.Shape.{max_rank, counted, count, good_shape}
use Rattle.shape.specs.Place.{inside, index, place, place_at, end_place, successor}

-- Only the first `rank` lengths and positions count.
module _ (lens pos : List ℕ) (rank : ℕ) (ll : rank ≤ length lens) (lp : rank ≤ length pos) where
  axes : length (take rank lens) ≡ rank
  axes = length-take-le rank lens ll

  inside-each : ((k : ℕ) → k < rank → get_or pos k 0 < get_or lens k 0) → inside (take rank lens) (take rank pos) ≡ true
  inside-each h =
      in-inside (take rank lens) (take rank pos)
      (in-from (take rank lens) (take rank pos) (length-take-le rank pos lp ∙ sym axes)
      (λ k l.
      let r : k < rank = omega (arith, axes) in
      rw (get_or-take rank lens k 0 r, get_or-take rank pos k 0 r) (h k r)))

  inside-at : inside (take rank lens) (take rank pos) ≡ true → (k : ℕ) → k < rank → get_or pos k 0 < get_or lens k 0
  inside-at e k r =
      rw (get_or-take rank lens k 0 r, get_or-take rank pos k 0 r)
      at (in-at (take rank lens) (take rank pos) k (inside-in (take rank lens) (take rank pos) e) (rw axes r))

  -- The axes after axis k are at their end.
  module _ (h : In (take rank lens) (take rank pos)) (k : ℕ) (r : k < rank) (e : Last (drop (suc k) (take rank lens)) (drop (suc k) (take rank pos))) where
    -- Axis k is too.
    last-from : get_or lens k 0 ≤ get_or pos k 0 + 1 → Last (drop k (take rank lens)) (drop k (take rank pos))
    last-from b =
        last_more (take rank lens) (take rank pos) k h (rw axes r)
        (rw (get_or-take rank lens k 0 r, get_or-take rank pos k 0 r) (omega arith)) e

    -- Axis k is not: it goes one further.
    module _ (b : get_or pos k 0 + 1 < get_or lens k 0) where
      further : suc (get_or (take rank pos) k 0) < get_or (take rank lens) k 0
      further = rw (get_or-take rank lens k 0 r, get_or-take rank pos k 0 r) (omega arith)

      step-below : suc (index (take rank lens) (take rank pos)) < count (take rank lens)
      step-below = next-below (take rank lens) (take rank pos) k h (rw axes r) further e

      step-place : place (take rank lens) (suc (index (take rank lens) (take rank pos))) ≡ take k pos ++ ((get_or pos k 0 + 1) ∷ replicate (rank - suc k) 0)
      step-place =
          next_place (take rank lens) (take rank pos) k h (rw axes r) further e
          ∙ rw (take-take k rank pos (omega arith), get_or-take rank pos k 0 r, length-drop (suc k) (take rank lens), axes, add-one)

-- A test of each axis that counts says whether a place lies in a shape.
pub inside-is : (p : Place) (s : Shape) (b : Bool) → length p.positions ≡ max_rank → length s.lens ≡ max_rank → s.rank ≤ max_rank
    → IsTrue b ↔ ((k : ℕ) → k < s.rank → get_or p.positions k 0 < get_or s.lens k 0)
    → b ≡ inside (counted s) (take s.rank p.positions)
inside-is p s true lp ll h e = sym (inside-each s.lens p.positions s.rank (omega arith) (omega arith) (e.0 refl))
inside-is p s false lp ll h e = sym (refuted _ (λ i. no_way (e.1 (inside-at s.lens p.positions s.rank (omega arith) (omega arith) i))))

-- The places that have none: marked, of a bad shape, outside it.
module _ (p : Place) (s : Shape) where
  pub successor-marked : p.end ≡ true → successor p s ≡ end_place
  unfolding successor
  successor-marked e = rw e

  pub successor-bad : good_shape s ≡ false → successor p s ≡ end_place
  unfolding successor
  successor-bad e = rw (e, and-false (not p.end))

  pub successor-outside : inside (counted s) (take s.rank p.positions) ≡ false → successor p s ≡ end_place
  unfolding successor
  successor-outside e = rw (e, and-false (good_shape s), and-false (not p.end))

-- The place is not marked and lies in the shape, which is good.
pub record LiesIn (p : Place) (s : Shape) : Type 0 where
  pub all-positions : length p.positions ≡ max_rank
  pub all-lens : length s.lens ≡ max_rank
  pub unmarked : p.end ≡ false
  pub good : good_shape s ≡ true
  pub lies : inside (counted s) (take s.rank p.positions) ≡ true

-- Where the next place stands.
abbrev next : Place → Shape → ℕ
next p s = suc (index (counted s) (take s.rank p.positions))

-- Carrying has come down to axis i: the axes from i on were at their end and start again, the positions before them are the place's.
pub record Carry (p : Place) (s : Shape) (q : List ℕ) (i : ℕ) : Type 0 where
  pub lies : LiesIn p s
  pub low : s.rank ≤ max_rank
  pub down : i ≤ s.rank
  pub cleared : q ≡ take i p.positions ++ replicate (max_rank - i) 0
  pub last : Last (drop i (counted s)) (drop i (take s.rank p.positions))

pub carry-start : (p : Place) (s : Shape) (q : List ℕ) → LiesIn p s → q ≡ take s.rank p.positions ++ replicate (max_rank - s.rank) 0 → Carry p s q s.rank
unfolding index count
carry-start p s q h e =
    let low : s.rank ≤ max_rank = good-rank s h.good in
    let none : drop s.rank (counted s) ≡ [] = drop_of_length-le _ {i = s.rank} (simp length-take (omega arith)) in
    record { lies = h; low = low; down = omega arith; cleared = e; last = rw none }

pub carry-end : (p : Place) (s : Shape) (q : List ℕ) → Carry p s q 0 → successor p s ≡ end_place
unfolding successor
carry-end p s q t = rw (t.lies.unmarked, t.lies.good, t.lies.lies, le-ltb (next p s) (count (counted s)) (omega (arith, t.last)))

-- One axis more, j.
module _ (p : Place) (s : Shape) (q : List ℕ) (i j : ℕ) (e : i ≡ suc j) (t : Carry p s q i) where
  h : LiesIn p s
  h = t.lies

  lies_in : In (counted s) (take s.rank p.positions)
  lies_in = inside-in (counted s) (take s.rank p.positions) h.lies

  successor-next : next p s < count (counted s) → successor p s ≡ place_at (place (counted s) (next p s))
  unfolding successor
  successor-next b = rw (h.unmarked, h.good, h.lies, lt-ltb (next p s) (count (counted s)) b)

  to-lens : s.rank ≤ length s.lens
  to-lens = omega arith

  to-positions : s.rank ≤ length p.positions
  to-positions = omega arith

  last : Last (drop (suc j) (counted s)) (drop (suc j) (take s.rank p.positions))
  last = rw e at t.last

  pub carry-below : get_or p.positions j 0 < get_or s.lens j 0
  carry-below = inside-at s.lens p.positions s.rank to-lens to-positions h.lies j (omega arith)

  -- It is at its end.
  pub carry-on : get_or s.lens j 0 ≤ get_or p.positions j 0 + 1 → Carry p s (set q j 0) j
  carry-on b = record {
    lies = h;
    low = t.low;
    down = omega arith;
    cleared = rw t.cleared (padded-less p.positions max_rank i j e (omega arith) (omega arith));
    last = last-from s.lens p.positions s.rank to-lens to-positions lies_in j (omega arith) last b;
  }

  -- It is not, and goes one further.
  pub carry-stop : get_or p.positions j 0 + 1 < get_or s.lens j 0
      → successor p s ≡ record { positions = set q j (get_or p.positions j 0 + 1); end = false }
  carry-stop b =
      let r : j < s.rank = omega arith in
      successor-next (step-below s.lens p.positions s.rank to-lens to-positions lies_in j r last b)
      ∙ rw (
        place-length (counted s) (next p s),
        axes s.lens p.positions s.rank to-lens to-positions,
        step-place s.lens p.positions s.rank to-lens to-positions lies_in j r last b,
        padded-on (take j p.positions) (get_or p.positions j 0 + 1) (suc j) s.rank max_rank r t.low,
        ← e,
        ← padded-set p.positions max_rank i j (get_or p.positions j 0 + 1) e (omega arith),
        t.cleared,
      )
