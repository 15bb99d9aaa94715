-- A call that 22 itself does not refuse, by what its code finds.
use mathlib.Core.Path.{◌≡◌, refl, sym, ap, ap₂, ◌∙◌}
use mathlib.Core.List.{List, ◌++◌}
use mathlib.Core.Bool.{Bool, true, false, cond, ◌&&◌}
use Prim.Native.Nat.{ℕ, suc, ◌+◌, ◌-◌, ◌*◌, ◌≤◌, ◌<◌}
use native.Mathlib.Decide.{ℕ_discrete}
use native.Mathlib.Omega.{arith}
use borrow.Author.Tests.{eq-eqb, ne_eqb, eqb-true}
use lib.Dec.{eqb, ltb}
use lib.ListN.{length, get_or, set, drop}
use lib.Seq.{get_or-take}
use lib.IntN.{ℤ, pos, ◌-ℤ◌}
use mir.Syntax.{w32}
use mir.Val.{SFits, to_z, of_z}
use Rattle.std.specs.Prelude.{Result, Ok}
use Rattle.shape.specs.declared.Shape.{Shape}
use Rattle.shape.specs.Shape.{max_count, counted, count, count_of, good_shape, shape_of, with_length}
use Rattle.shape.specs.Place.{index}
use Rattle.shape.proofs.Bools.{both, cond_same}
use Rattle.shape.proofs.Places.{index-lt}
use Rattle.shape.proofs.Rule.{rule-length}
use Rattle.shape.proofs.Made.{with-length-is, made-stands, stands-count}
use Rattle.signed.proofs.Reading.{read32}
use Rattle.signed.proofs.Finding.{read-from-zero}
use Rattle.meaning.specs.Array.{Operand, Array, array_of, good_form, tab, build}
use Rattle.meaning.specs.Terms.{rank, within, from_zero}
use Rattle.meaning.specs.Primitives.{Side, side, catenate}
use Rattle.meaning.specs.Steps.{Beside, fit, side_at}
use Rattle.meaning.proofs.Positions.{within-below}
use Rattle.meaning.proofs.Scalars.{scalar-count}
use Rattle.meaning.proofs.Sides.{beside-as, same-is, side-extent, side-flat, side-count}
use Rattle.copying.specs.Steps.{filled}
use Rattle.answer.specs.Answer.{lent, early, own}
use Rattle.answer.specs.Refused as answers
use Rattle.answer.specs.declared.refusal.Refusal as code
use Rattle.answer.proofs.Early.{two-fine}
use Rattle.answer.proofs.Lent.{Lent, axis-is, FineTwo}
use Rattle.answer.proofs.Exits.{asked_ok}
use Rattle.answer.proofs.Order.{Ready}
use Rattle.joins.specs.Steps.{Given, Joins, higher_shape, extent_of, agree, run_of, joined_at, joined_along, sized, Gives, Joinable}
use Rattle.joins.proofs.Heights.{High, Higher, higher-is, besides, asked, catenate-own, catenate-names}
use Rattle.joins.proofs.Joining.{RowByRow, joined-flat}

-- An operand beside the higher shape, its other lengths as they should be.
pub record Sided (s : Shape) (x : List ℤ) (hs : Shape) (k : ℕ) : Type 0 where
  pub operand : Lent s x
  pub rank_is : length (counted hs) ≡ hs.rank
  pub has : k < hs.rank
  pub beside : Beside s.rank hs.rank
  pub agrees : agree (counted hs) k (array_of (lent s x)) ≡ true

module _ {s : Shape} {x : List ℤ} {hs : Shape} {k : ℕ} (d : Sided s x hs k) where
  abbrev a : Array
  a = array_of (lent s x)

  abbrev taken : Side
  taken = side (counted hs) k (array_of (lent s x))

  below : k < length (counted hs)
  below = omega (arith, d.has, d.rank_is)

  beside-is : Beside (rank (array_of (lent s x))) (length (counted hs))
  beside-is = beside-as d.beside (sym d.operand.rank_is) (sym d.rank_is)

  -- The length that it counts as.
  extent-is : extent_of s hs.rank k ≡ taken.extent
  extent-is =
      ap₂ (λ m n. cond (eqb m n) (get_or s.lens k 0) 1) (sym d.operand.rank_is) (sym d.rank_is)
      ∙ cond_same 1 (eqb (rank a) (length (counted hs)))
      (λ e. sym (axis-is s x k (omega (arith, eqb-true (rank a) (length (counted hs)) e, d.operand.rank_is, below))))
      ∙ sym (side-extent (counted hs) k a (omega (arith, below)) beside-is)

  pub extent-small : extent_of s hs.rank k ≤ max_count
  extent-small = by (ℕ_discrete s.rank hs.rank) d.has
    where
      by : Dec (s.rank ≡ hs.rank) → k < hs.rank → extent_of s hs.rank k ≤ max_count
      by (yes q) h = rw (eq-eqb s.rank hs.rank q) (rule-length s.rank s.lens k d.operand.good d.operand.rank_is (omega arith))
      by (no q) h = rw (ne_eqb s.rank hs.rank q) (omega arith)

  -- It has as many elements as the blocks take of it, row by row.
  room : sized (eqb s.rank 0) (count (set (counted hs) k taken.extent)) ≤ count (counted s)
  room = by (ℕ_discrete s.rank 0) d.operand.rank_is
    where
      by : Dec (s.rank ≡ 0) → rank a ≡ s.rank → sized (eqb s.rank 0) (count (set (counted hs) k taken.extent)) ≤ count (counted s)
      by (yes z) e = rw (eq-eqb s.rank 0 z) (omega (arith, scalar-count (counted s) (e ∙ z)))
      by (no z) e = rw (ne_eqb s.rank 0 z) (omega (arith, side-count (counted hs) k a below beside-is (same-is _ _ d.agrees) (omega arith)))

  gives : Gives (run_of hs.rank k (lent s x)) hs k
  gives = rw extent-is (omega (arith, room, d.operand.room))

  flat : RowByRow (set (counted hs) k taken.extent) (side_at (eqb s.rank 0) x) taken.element
  flat p i =
      side-flat (counted hs) k a below beside-is (same-is _ _ d.agrees) p i
      ∙ ap (λ n. side_at (eqb n 0) a.elements (index (set (counted hs) k taken.extent) p)) d.operand.rank_is
      ∙ get_or-take (count (counted s)) x _ (pos 0) (picked (eqb s.rank 0) _ _ _ room (index-lt _ p i))
    where
      picked : (b : Bool) (m n j : ℕ) → sized b m ≤ n → j < m → cond b 0 j < n
      picked true m n j h l = h
      picked false m n j h l = omega arith

-- All that a call knows where 22 refuses nothing: hs is the higher shape, and k the axis.
pub record Catenates (G K : ℤ) (L R : Operand) (hs : Shape) (k : ℕ) : Type 0 where
  pub left : Sided L.shape L.buffer hs k
  pub right : Sided R.shape R.buffer hs k
  pub higher : Higher hs (array_of L) (array_of R)
  pub axis-is : k ≡ from_zero G K
  pub fine : FineTwo G L.shape L.buffer R.shape R.buffer
  pub none : own 22 (catenate G K (array_of L) (array_of R)).refusals ≡ 0

module _ {G : ℤ} (K : ℤ) {L R : Operand} (f : FineTwo G L.shape L.buffer R.shape R.buffer) {hs : Shape} {k : ℕ} where
  pub catenates : hs ≡ higher_shape L.shape R.shape → k ≡ from_zero G K → own 22 (catenate G K (array_of L) (array_of R)).refusals ≡ 0
      → Catenates G K L R hs k
  catenates e q z = by _ refl _ refl _ refl (sym (catenate-own high G K L.buffer R.buffer) ∙ z)
    where
      high : High L.shape R.shape hs
      high =
          let gl = f.left in
          let gr = f.right in
          record { left = record { good = gl.good; long = gl.long }; right = record { good = gr.good; long = gr.long }; is = e }

      sided : {s : Shape} {x : List ℤ} → Lent s x → within (K -ℤ G) hs.rank ≡ true → Beside s.rank hs.rank
          → agree (counted hs) (from_zero G K) (array_of (lent s x)) ≡ true → Sided s x hs k
      sided {s} {x} g u b a = record {
        operand = g;
        rank_is = (higher-is high L.buffer R.buffer).rank_is;
        has = within-below (K -ℤ G) hs.rank hs.rank k refl q u;
        beside = b;
        agrees = ap (λ k. agree (counted hs) k (array_of (lent s x))) q ∙ a;
      }

      by : (w : Bool) → fit L.shape.rank R.shape.rank ≡ w → (i : Bool) → within (K -ℤ G) hs.rank ≡ i
          → (t : Bool) → (agree (counted hs) (from_zero G K) (array_of L) && agree (counted hs) (from_zero G K) (array_of R)) ≡ t
          → asked w i t ≡ 0 → Catenates G K L R hs k
      by false p i u t v e = absurd (omega arith)
      by true p false u t v e = absurd (omega arith)
      by true p true u false v e = absurd (omega arith)
      by true p true u true v e =
          let b = besides high p in
          let a = both (agree (counted hs) (from_zero G K) (array_of L)) _ v in
          record {
            left = sided f.left u b.0 a.0;
            right = sided f.right u b.1 a.1;
            higher = higher-is high L.buffer R.buffer;
            axis-is = q;
            fine = f;
            none = z;
          }

-- The same by what `joint` answers of signed numbers read from locals.
module _ {G K : ℤ} (g : SFits w32 G) (h : SFits w32 K) {A : Type 0} (y : Result A code.Refusal) (L R : Operand)
    (is : answers.asked y ≡ own 22 (catenate (to_z w32 (of_z w32 G)) (to_z w32 (of_z w32 K)) (array_of L) (array_of R)).refusals) where
  pub joint-asked : answers.asked y ≡ own 22 (catenate G K (array_of L) (array_of R)).refusals
  joint-asked = is ∙ ap₂ (λ y z. own 22 (catenate y z (array_of L) (array_of R)).refusals) (read32 G g) (read32 K h)

  -- And by what `early_two` answered before of two operands that are L and R.
  pub joint-found : {B : Type 0} (x : Result B code.Refusal) {l r : Operand}
      → answers.asked x ≡ early (good_form l && good_form r) (to_z w32 (of_z w32 G)) → {v : B} → x ≡ Ok v → (L ≡ l) × (R ≡ r)
      → {w : A} → y ≡ Ok w → {hs : Shape} {k : ℕ} → Joins (to_z w32 (of_z w32 G)) (to_z w32 (of_z w32 K)) L R hs k → Catenates G K L R hs k
  joint-found x e ok o was j =
      catenates K (two-fine g x e ok (sym o.0) j.left (sym o.1) j.right) j.higher (j.axis ∙ read-from-zero K G h g) (sym joint-asked ∙ asked_ok was)

module _ {G K : ℤ} {L R : Operand} {hs : Shape} {k : ℕ} (c : Catenates G K L R hs k) where
  abbrev lengths : List ℕ → ℕ → List ℕ
  lengths ns k = set ns k ((side ns k (array_of L)).extent + (side ns k (array_of R)).extent)

  abbrev element : List ℕ → ℕ → List ℕ → ℤ
  element ns k p =
      cond (ltb (get_or p k 0) (side ns k (array_of L)).extent) ((side ns k (array_of L)).element p)
      ((side ns k (array_of R)).element (set p k (get_or p k 0 - (side ns k (array_of L)).extent)))

  abbrev ls : Shape
  ls = L.shape

  abbrev rs : Shape
  rs = R.shape

  pub lengths-are : set (counted hs) k (extent_of ls hs.rank k + extent_of rs hs.rank k) ≡ (catenate G K (array_of L) (array_of R)).lengths
  unfolding catenate
  lengths-are =
      ap₂ (λ x y. set (counted hs) k (x + y)) (extent-is c.left) (extent-is c.right) ∙ ap₂ lengths c.higher.counts c.axis-is

  abbrev flatly : ℕ → ℤ
  flatly = joined_along hs k (run_of hs.rank k L) (run_of hs.rank k R)

  elements-are : (build (catenate G K (array_of L) (array_of R)).lengths (catenate G K (array_of L) (array_of R)).element).elements
      ≡ tab (count (set (counted hs) k (extent_of ls hs.rank k + extent_of rs hs.rank k))) flatly
  unfolding catenate
  elements-are =
      let n : ℕ = count (drop (suc k) (counted hs)) in
      let f : ℕ → ℤ = side_at (eqb ls.rank 0) L.buffer in
      let g : ℕ → ℤ = side_at (eqb rs.rank 0) R.buffer in
      ap₂ (λ ns k. (build (lengths ns k) (element ns k)).elements) (sym c.higher.counts) (sym c.axis-is)
      ∙ joined-flat (counted hs) k _ _ (below c.left) f g (flat c.left) (flat c.right)
      ∙ ap₂ (λ x y. tab (count (set (counted hs) k (x + y))) (joined_at (x * n) (y * n) f g)) (sym (extent-is c.left)) (sym (extent-is c.right))

  -- The result's shape, and that nothing is refused but LIMIT and SPACE.
  module _ {a b : Given} (ea : a ≡ run_of hs.rank k L) (eb : b ≡ run_of hs.rank k R) {s : Shape} (e : s ≡ with_length hs k (a.width + b.width)) where
    pub shape-made : s ≡ shape_of (catenate G K (array_of L) (array_of R)).lengths
    shape-made =
        e
        ∙ ap₂ (λ (x : Given) (y : Given). with_length hs k (x.width + y.width)) ea eb
        ∙ with-length-is _ _ _ c.higher.high c.left.has
        ∙ ap shape_of lengths-are

    pub catenate-ready : Ready 22 2 G K L R (catenate G K (array_of L) (array_of R)) s
    catenate-ready =
        record { names = catenate-names G K L R; fine = (c.fine).none; none = c.none; stands = made-stands _ _ shape-made }

    pub catenate-total : {n : ℕ} → good_shape s ≡ true → n ≡ count_of s → n ≡ count (catenate G K (array_of L) (array_of R)).lengths
    catenate-total g q = q ∙ stands-count (catenate-ready).stands g

  -- With the runs and the count as the program has them.
  module _ {a b : Given} {total : ℕ} (ea : a ≡ run_of hs.rank k L) (eb : b ≡ run_of hs.rank k R)
      (t : total ≡ count (catenate G K (array_of L) (array_of R)).lengths) where
    pub joinable : {room : ℕ} → total ≤ max_count → total ≤ room → Joinable a b hs k total room
    joinable small space = rw (ea, eb) (record {
      count-is = t ∙ sym (ap count lengths-are);
      small = small;
      space = space;
      left = gives c.left;
      right = gives c.right;
    })

    pub catenate-out : (out : List ℤ)
        → filled (joined_along hs k a b) total out
        ≡ (build (catenate G K (array_of L) (array_of R)).lengths (catenate G K (array_of L) (array_of R)).element).elements
        ++ drop (count (catenate G K (array_of L) (array_of R)).lengths) out
    catenate-out out =
        rw (ea, eb)
        (ap (λ n. filled flatly n out) t
        ∙ ap (λ z. z ++ drop (count (catenate G K (array_of L) (array_of R)).lengths) out)
        (sym (elements-are ∙ ap (λ ns. tab (count ns) flatly) lengths-are)))
