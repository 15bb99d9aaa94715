-- The place that a place of the result names stands in R where its positions times the strides add up to.
use mathlib.Core.Path.{◌≡◌, refl, sym, ap, ap₂, subst, ◌∙◌}
use mathlib.Core.List.{List, [], ◌∷◌}
use Prim.Native.Nat.{ℕ, zero, suc, ◌+◌, ◌*◌, ◌-◌, ◌≤◌, ◌<◌}
use native.Mathlib.Nat.{sub-zero, mul-add, mul-zero}
use native.Mathlib.Omega.{arith}
use lib.ListN.{length, get_or, set, take, replicate}
use lib.Seq.{get_or-take, length-take-le, take_at, take_all}
use lib.IntN.{ℤ, pos}
use Rattle.shape.specs.declared.Shape.{Shape}
use Rattle.shape.specs.Shape.{max_rank, counted, count}
use Rattle.shape.specs.Place.{index, place}
use Rattle.shape.proofs.Places.{In, index-lt, place_in}
use Rattle.shape.proofs.Axis.{in-length}
use Rattle.meaning.specs.Array.{array_of, at, build}
use Rattle.meaning.specs.Primitives.{axes_to, sent_lengths, brought_back}
use Rattle.meaning.proofs.Tab.{tab-ext}
use Rattle.meaning.proofs.Sent.{length_back, length-shape, brought_back-in}
use Rattle.meaning.proofs.Arrays.{form-room, build-none}
use Rattle.answer.specs.Answer.{lent}
use Rattle.transposes.specs.Steps.Strides.{dot, strides, sent_strides, walked, Walk}
use Rattle.transposes.specs.Steps.Sent.{Route, route, sent_elements, Moves}
use Rattle.transposes.proofs.Passing.{Opened, length-sent}

index-dot : (ns p : List ℕ) → length p ≡ length ns → index ns p ≡ dot p (strides ns)
unfolding index dot strides
index-dot [] [] e = refl
index-dot [] (i ∷ p) e = refl
index-dot (n ∷ ns) [] e = refl
index-dot (n ∷ ns) (i ∷ p) e = ap (◌+◌ (i * count ns)) (index-dot ns p (omega arith))

dot-zeros : (q : List ℕ) (r : ℕ) → dot q (replicate r 0) ≡ 0
unfolding dot
dot-zeros [] r = refl
dot-zeros (i ∷ q) zero = refl
dot-zeros (i ∷ q) (suc r) = omega (arith, mul-zero i, dot-zeros q r)

-- A stride that grows by w.
dot-more : (q l : List ℕ) (t w : ℕ) → t < length l → dot q (set l t (get_or l t 0 + w)) ≡ get_or q t 0 * w + dot q l
unfolding dot
dot-more [] l t w h = omega arith
dot-more (i ∷ q) [] t w h = absurd (omega arith)
dot-more (i ∷ q) (x ∷ l) zero w h = omega (arith, mul-add i x w)
dot-more (i ∷ q) (x ∷ l) (suc t) w h = omega (arith, dot-more q l t w (omega arith))

dot-back : (r : ℕ) (ts ws q : List ℕ) → axes_to ts ≤ r → length ws ≡ length ts → dot (brought_back ts q) ws ≡ dot q (sent_strides r ts ws)
unfolding brought_back dot sent_strides axes_to
dot-back r [] ws q h e = sym (dot-zeros q r)
dot-back r (t ∷ ts) [] q h e = absurd (omega arith)
dot-back r (t ∷ ts) (w ∷ ws) q h e =
    ap (◌+◌ (get_or q t 0 * w)) (dot-back r ts ws q (omega arith) (omega arith))
    ∙ sym (dot-more q (sent_strides r ts ws) t w (rw (length-sent r ts ws) (omega arith)))

-- The strides past the axes are not looked at.
dot-take : (q l : List ℕ) (a : ℕ) → length q ≤ a → dot q (take a l) ≡ dot q l
unfolding dot
dot-take [] l a h = refl
dot-take (i ∷ q) l zero h = absurd (omega arith)
dot-take (i ∷ q) [] (suc a) h = refl
dot-take (i ∷ q) (x ∷ l) (suc a) h = ap (◌+◌ (i * x)) (dot-take q l a (omega arith))

length-strides : (ns : List ℕ) → length (strides ns) ≡ length ns
unfolding strides
length-strides [] = refl
length-strides (n ∷ ns) = ap suc (length-strides ns)

-- R's axes, of lengths ns, go to the axes ts.
module _ (ts ns : List ℕ) (e : length ts ≡ length ns) where
  abbrev lens : List ℕ
  lens = sent_lengths ts ns

  back-lt : (q : List ℕ) → In lens q → index ns (brought_back ts q) < count ns
  back-lt q i = index-lt ns (brought_back ts q) (brought_back-in ts ns q e i)

  some-sent : 0 < count lens → 0 < count ns
  some-sent h = omega (arith, back-lt (place lens 0) (place_in lens 0 h))

  module _ (few : axes_to ts ≤ max_rank) where
    abbrev steps : List ℕ
    steps = take (axes_to ts) (sent_strides max_rank ts (strides ns))

    offset-is : (q : List ℕ) → In lens q → dot q steps ≡ index ns (brought_back ts q)
    offset-is q i =
        let n : length q ≡ axes_to ts = in-length lens q i ∙ length-shape ts ns in
        dot-take q (sent_strides max_rank ts (strides ns)) (axes_to ts) (omega arith)
        ∙ sym (dot-back max_rank ts (strides ns) q few (length-strides ns ∙ sym e))
        ∙ sym (index-dot ns (brought_back ts q) (length_back ts q ∙ e))

    -- The walk gives the elements that 15 and 26 mean.
    walked-is : (b : List ℤ) → walked lens steps b ≡ sent_elements ts (record { lengths = ns; elements = take (count ns) b })
    unfolding walked build at
    walked-is b =
        tab-ext (count lens) _ _
        (λ j l.
        let i : In lens (place lens j) = place_in lens j l in
        ap (λ x. get_or b x (pos 0)) (offset-is (place lens j) i)
        ∙ sym (get_or-take (count ns) b (index ns (brought_back ts (place lens j))) (pos 0) (back-lt (place lens j) i)))

    walk_is : (m room : ℕ) → count ns ≤ m → 0 < room → room ≡ count lens → Walk lens steps m room
    walk_is m room c some whole = record {
      axes = length-take-le (axes_to ts) (sent_strides max_rank ts (strides ns)) (rw (length-sent max_rank ts (strides ns)) few) ∙ sym (length-shape ts ns);
      some = some;
      whole = whole;
      reach = λ j l.
          let i : In lens (place lens j) = place_in lens j (omega arith) in
          omega (arith, offset-is (place lens j) i, back-lt (place lens j) i);
    }

-- What `transpose_into` gives.
pub into-none : {s : Route} {shape : Shape} (out : List ℤ) → Moves s shape (length out) → length out ≡ 0 → out ≡ sent_elements s.to (array_of s.operand)
into-none {s} out m z =
    sym (take_all 0 out (omega arith)) ∙ sym (build-none (sent_lengths s.to (array_of s.operand).lengths) _ (sym m.room_is ∙ z))

module _ {s : Route} {rs : Shape} {r : List ℤ} {axes : ℕ} {to : List ℕ} {shape : Shape} {room : ℕ} (o : Opened s rs r axes to) (n : Moves s shape room) where
  abbrev ts : List ℕ
  ts = take rs.rank to

  m : Moves (route (lent rs r) ts) shape room
  m = subst (λ (s : Route). Moves s shape room) o.is n

  same_rank : length ts ≡ length (counted rs)
  same_rank = o.passed.axes ∙ sym o.passed.rank_is

  few : axes_to ts ≤ max_rank
  few = omega (arith, o.sends.few, o.passed.high)

  rank_is : shape.rank ≡ axes_to ts
  rank_is = ap (λ x. x.rank) m.shape_is ∙ length-shape ts (counted rs)

  pub into-some : 0 < room → 0 < count (array_of s.operand).lengths
  into-some h = rw o.is (some-sent ts (counted rs) same_rank (omega (arith, m.room_is)))

  lens-is : take (shape.rank - 0) shape.lens ≡ sent_lengths ts (counted rs)
  lens-is =
      ap (λ x. take (x.rank - 0) x.lens) m.shape_is ∙ rw sub-zero (take_at (sent_lengths ts (counted rs)) _ (length (sent_lengths ts (counted rs))) refl)

  module _ (ws : List ℕ) (q : ws ≡ sent_strides max_rank s.to (strides (array_of s.operand).lengths)) where
    steps-is : take (shape.rank - 0) ws ≡ steps ts (counted rs) same_rank few
    steps-is =
        ap₂ take (sub-zero shape.rank ∙ rank_is)
        (q ∙ ap (λ t. sent_strides max_rank t.to (strides (array_of t.operand).lengths)) o.is)

    pub into-walk : 0 < room → Walk (take (shape.rank - 0) shape.lens) (take (shape.rank - 0) ws) (length r) room
    into-walk h = rw (lens-is, steps-is) (walk_is ts (counted rs) same_rank few (length r) room (form-room (lent rs r) o.operand.form) h m.room_is)

    pub into-all : {last : List ℤ} → last ≡ walked (take (shape.rank - 0) shape.lens) (take (shape.rank - 0) ws) r
        → last ≡ sent_elements s.to (array_of s.operand)
    into-all w =
        w ∙ ap₂ (λ x y. walked x y r) lens-is steps-is ∙ walked-is ts (counted rs) same_rank few r
        ∙ ap (λ t. sent_elements t.to (array_of t.operand)) (sym o.is)
