-- The two passes over R's axes, from the last to the first: the lengths and the strides that go to each axis of the result.
use mathlib.Core.Path.{◌≡◌, refl, sym, ap, ap₂, subst, ◌∙◌}
use mathlib.Core.List.{List, [], ◌∷◌}
use mathlib.Core.Bool.{Bool, true, false, cond}
use Prim.Native.Nat.{ℕ, zero, suc, ◌+◌, ◌*◌, ◌-◌, ◌≤◌, ◌<◌, min}
use native.Mathlib.Nat.{mul_comm}
use native.Mathlib.Omega.{arith}
use borrow.Author.Tests.{eqb-true, eqb-false, leb-true}
use lib.Dec.{eqb, leb}
use lib.ListN.{length, get_or, set, take, drop, replicate, length-set, length-replicate, length-drop, get_or-replicate}
use lib.Seq.{slice_empty, slice-cons, get_or-take, length-take-le, get_or-set_same, get_or-set_other, ext_get_or}
use lib.IntN.{ℤ}
use Rattle.shape.specs.declared.Shape.{Shape}
use Rattle.shape.specs.Shape.{max_rank, max_count, counted, count, small, good_shape, shape_of, made_of}
use Rattle.shape.proofs.Bools.{both}
use Rattle.shape.proofs.Rule.{small_at, small-from, rule-small, rule-count}
use Rattle.shape.proofs.Counts.{factor, count-drop}
use Rattle.shape.proofs.Made.{made-is}
use Rattle.meaning.specs.Primitives.{sent_to, smallest, axes_to, sent_lengths}
use Rattle.meaning.proofs.Sent.{sent-has, sent-from, axes-lt, length-shape, get_d_shape, Occur, occur-all}
use Rattle.meaning.specs.Array.{Operand, array_of}
use Rattle.answer.specs.Answer.{lent, WellFormed}
use Rattle.answer.proofs.Lent.{Lent, formed}
use Rattle.transposes.specs.Steps.Sent.{Route, route, sent_axes, Transposes}
use Rattle.transposes.specs.Steps.Strides.{strides, sent_strides}

-- What both passes know: R's axes as the code holds them.
pub record AxesPassed (to : List ℕ) (rs : Shape) : Type 0 where
  pub high : rs.rank ≤ max_rank
  pub to-long : rs.rank ≤ length to
  pub lens-long : rs.rank ≤ length rs.lens
  pub axes : length (take rs.rank to) ≡ rs.rank
  pub rank_is : length (counted rs) ≡ rs.rank
  pub below : (j : ℕ) → j < rs.rank → get_or to j 0 < max_rank

-- What is known of axes that are sent, where the code has opened them.
pub record Opened (s : Route) (rs : Shape) (b : List ℤ) (axes : ℕ) (to : List ℕ) : Type 0 where
  pub is : s ≡ route (lent rs b) (take rs.rank to)
  pub operand : Lent rs b
  pub sends : Transposes (lent rs b) axes to
  pub passed : AxesPassed to rs

passes : {rs : Shape} {b : List ℤ} {axes : ℕ} {to : List ℕ} → Lent rs b → Transposes (lent rs b) axes to → AxesPassed to rs
passes {rs} {b} {axes} {to} g k =
    let n : length (take rs.rank to) ≡ rs.rank = length-take-le rs.rank to (omega (arith, g.high, k.long)) in
    record {
      high = g.high;
      to-long = omega (arith, g.high, k.long);
      lens-long = omega (arith, g.high, g.long);
      axes = n;
      rank_is = g.rank_is;
      below = λ j l. omega (arith, k.few, g.high, get_or-take rs.rank to j 0 l, axes-lt (take rs.rank to) j (omega arith));
    }

pub opened : {s : Route} {R : Operand} {rs : Shape} {b : List ℤ} {axes : ℕ} {to : List ℕ}
    → route R (sent_axes R to) ≡ s → Transposes R axes to → lent rs b ≡ R → WellFormed rs b → Opened s rs b axes to
opened {axes = axes} {to = to} e k f w =
    let g = formed w in
    let t = subst (λ (R : Operand). Transposes R axes to) (sym f) k in
    record { is = sym e ∙ ap (λ R. route R (sent_axes R to)) (sym f); operand = g; sends = t; passed = passes g t }

-- The axis before axis i.
before : (l : List ℕ) (rank i : ℕ) → 0 < i → i ≤ rank → rank ≤ length l → drop (i - 1) (take rank l) ≡ get_or l (i - 1) 0 ∷ drop i (take rank l)
before l rank i h k n = let e : suc (i - 1) ≡ i = omega arith in rw e at (slice-cons (i - 1) rank l 0 (omega arith) n)

module _ {to : List ℕ} {rs : Shape} (p : AxesPassed to rs) (i : ℕ) (some : 0 < i) (few : i ≤ length (counted rs)) where
  to-next : drop (i - 1) (take rs.rank to) ≡ get_or to (i - 1) 0 ∷ drop i (take rs.rank to)
  to-next = before to rs.rank i some (omega (arith, p.rank_is)) p.to-long

  lens-next : drop (i - 1) (counted rs) ≡ get_or rs.lens (i - 1) 0 ∷ drop i (counted rs)
  lens-next = before rs.lens rs.rank i some (omega (arith, p.rank_is)) p.lens-long

  pub axis-lt : get_or to (i - 1) 0 < max_rank
  axis-lt = p.below (i - 1) (omega (arith, p.rank_is))

-- The smallest, or the largest length there may be where there is none.
unfoldable pub least : List ℕ → ℕ
least [] = max_count
least (n ∷ ns) = min n (least ns)

least-smallest : (ns : List ℕ) → 0 < length ns → small ns ≡ true → least ns ≡ smallest ns
unfolding smallest small least
least-smallest [] h s = absurd (omega arith)
least-smallest (n ∷ []) h s = omega (arith, leb-true n max_count (both (leb n max_count) true s).0)
least-smallest (n ∷ (m ∷ ns)) h s =
    ap (min n) (least-smallest (m ∷ ns) (omega arith) (both (leb n max_count) (small (m ∷ ns)) s).1)

-- The lengths of axes from i on: for each axis of the result the least of those sent to it.
pub record Shortest (ts ns lens : List ℕ) (i : ℕ) : Type 0 where
  pub few : i ≤ length ns
  pub long : length lens ≡ max_rank
  pub found : (j : ℕ) → j < max_rank → get_or lens j 0 ≡ least (sent_to j (drop i ts) (drop i ns))

pub shortest-none : {to : List ℕ} {rs : Shape} → AxesPassed to rs → Shortest (take rs.rank to) (counted rs) (replicate max_rank max_count) rs.rank
unfolding least sent_to
shortest-none {to} {rs} p = record {
  few = omega (arith, p.rank_is);
  long = length-replicate max_rank max_count;
  found = λ j l.
      get_or-replicate max_rank j max_count 0 l ∙ sym (ap (λ x. least (sent_to j x (drop rs.rank (counted rs)))) (slice_empty rs.rank to));
}

module _ {to : List ℕ} {rs : Shape} (p : AxesPassed to rs) {lens : List ℕ} {i : ℕ} (f : Shortest (take rs.rank to) (counted rs) lens i) (some : 0 < i) where
  abbrev t : ℕ
  t = get_or to (i - 1) 0

  abbrev n : ℕ
  n = get_or rs.lens (i - 1) 0

  -- With a length more.
  abbrev least-from : ℕ → ℕ → ℕ
  least-from k j = least (sent_to k (drop j (take rs.rank to)) (drop j (counted rs)))

  least_more : (k : ℕ) → least-from k (i - 1) ≡ cond (eqb t k) (min n (least-from k i)) (least-from k i)
  unfolding least sent_to
  least_more k =
      ap₂ (λ x y. least (sent_to k x y)) (to-next p i some f.few) (lens-next p i some f.few)
      ∙ by (eqb t k) (sent_to k (drop i (take rs.rank to)) (drop i (counted rs)))
    where
      by : (c : Bool) (ns : List ℕ) → least (cond c (n ∷ ns) ns) ≡ cond c (min n (least ns)) (least ns)
      by true ns = refl
      by false ns = refl

  pub shorter : (v : ℕ) → v ≡ min (get_or lens t 0) n → Shortest (take rs.rank to) (counted rs) (set lens t v) (i - 1)
  shorter v m = record {
    few = omega (arith, f.few);
    long = length-set lens t v ∙ f.long;
    found = λ k h. by k (eqb t k) refl ∙ ap (λ x. cond (eqb t k) (min n x) x) (f.found k h) ∙ sym (least_more k);
  }
    where
      by : (k : ℕ) (c : Bool) → eqb t k ≡ c → get_or (set lens t v) k 0 ≡ cond c (min n (get_or lens k 0)) (get_or lens k 0)
      by k true e =
          let q : t ≡ k = eqb-true t k e in
          ap (λ x. get_or (set lens t v) x 0) (sym q)
          ∙ get_or-set_same lens t v 0 (omega (arith, f.long, axis-lt p i some f.few)) ∙ omega (arith, m, ap (λ x. get_or lens x 0) q)
      by k false e = get_or-set_other lens t k v 0 (λ q. eqb-false t k e (sym q))

-- All of them: where one axis at least is sent to each, the lengths of the result.
module _ (ts ns : List ℕ) (e : length ts ≡ length ns) (s : small ns ≡ true) (o : Occur ts) where
  sent-some : (j : ℕ) → j < axes_to ts → 0 < length (sent_to j ts ns)
  sent-some j l =
      let a = sent-from j ts ts 0 (o j l) in
      let b = sent-has ts ns a.0 e a.1 in
      omega (arith, b.1, ap (λ k. length (sent_to k ts ns)) a.2)

  sent-small : (j : ℕ) → small (sent_to j ts ns) ≡ true
  sent-small j = small-from (sent_to j ts ns) (λ l h. let a = sent-from j ts ns l h in omega (arith, a.3, small_at ns a.0 s (omega (arith, a.1))))

  shortest-all : {lens : List ℕ} → Shortest ts ns lens 0 → axes_to ts ≤ max_rank → take (axes_to ts) lens ≡ sent_lengths ts ns
  shortest-all {lens} f h =
      let n : length (take (axes_to ts) lens) ≡ axes_to ts = length-take-le (axes_to ts) lens (omega (arith, f.long)) in
      ext_get_or 0 (take (axes_to ts) lens) (sent_lengths ts ns) (n ∙ sym (length-shape ts ns))
      (λ j l.
      let l' : j < axes_to ts = omega arith in
      get_or-take (axes_to ts) lens j 0 l'
      ∙ f.found j (omega arith)
      ∙ least-smallest (sent_to j ts ns) (sent-some j l') (sent-small j)
      ∙ sym (get_d_shape ts ns j l'))

pub shape-made : {s : Route} {rs : Shape} {b : List ℤ} {axes : ℕ} {to lens : List ℕ} → Opened s rs b axes to
    → Shortest (take rs.rank to) (counted rs) lens 0 → made_of axes lens ≡ shape_of (sent_lengths s.to (array_of s.operand).lengths)
shape-made {s} {rs} {b} {axes} {to} {lens} o f =
    let k = o.sends in
    let p = o.passed in
    let few : axes_to (take rs.rank to) ≤ max_rank = omega (arith, k.few, p.high) in
    made-is _ axes lens (omega (arith, k.axes-are))
    (ap (λ n. take n lens) k.axes-are
    ∙ shortest-all (take rs.rank to) (counted rs) (p.axes ∙ sym p.rank_is) (rule-small rs.rank (counted rs) o.operand.good) (occur-all _ k.each) f few)
    ∙ ap (λ t. shape_of (sent_lengths t.to (array_of t.operand).lengths)) (sym o.is)

-- Strides that are sent, added up.
pub length-sent : (r : ℕ) (ts ws : List ℕ) → length (sent_strides r ts ws) ≡ r
unfolding sent_strides
length-sent r [] ws = length-replicate r 0
length-sent r (t ∷ ts) [] = length-replicate r 0
length-sent r (t ∷ ts) (w ∷ ws) = length-set (sent_strides r ts ws) t _ ∙ length-sent r ts ws

set-le : (l : List ℕ) (t v j b : ℕ) → v ≤ b → get_or l j 0 ≤ b → get_or (set l t v) j 0 ≤ b
set-le [] t v j b p q = q
set-le (x ∷ l) zero v zero b p q = p
set-le (x ∷ l) zero v (suc j) b p q = q
set-le (x ∷ l) (suc t) v zero b p q = q
set-le (x ∷ l) (suc t) v (suc j) b p q = set-le l t v j b p q

zero-at : (n j : ℕ) → get_or {A = ℕ} (replicate n 0) j 0 ≡ 0
zero-at zero j = refl
zero-at (suc n) zero = refl
zero-at (suc n) (suc j) = zero-at n j

-- No sum is above as many counts as there are axes.
sums-le : (r : ℕ) (ts ns : List ℕ) (j c : ℕ) → 0 < count ns → count ns ≤ c → get_or (sent_strides r ts (strides ns)) j 0 ≤ length ts * c
unfolding sent_strides strides count
sums-le r [] ns j c h b = omega (arith, zero-at r j)
sums-le r (t ∷ ts) [] j c h b = omega (arith, zero-at r j)
sums-le r (t ∷ ts) (n ∷ ns) j c h b =
    let f = factor n (count ns) _ refl h in
    let b' : count ns ≤ c = omega (arith, f.3) in
    let more : length ts * c + c ≡ suc (length ts) * c = omega arith in
    set-le (sent_strides r ts (strides ns)) t _ j (suc (length ts) * c)
    (omega (arith, sums-le r ts ns t c f.1 b')) (omega (arith, sums-le r ts ns j c f.1 b'))

-- The sums of R's axes from i on, and the stride of the axis before them.
pub record Summed (to : List ℕ) (rs : Shape) (sums : List ℕ) (step i : ℕ) : Type 0 where
  pub few : i ≤ length (counted rs)
  pub step_is : step ≡ count (drop i (counted rs))
  pub sums-is : sums ≡ sent_strides max_rank (drop i (take rs.rank to)) (strides (drop i (counted rs)))

pub summed-none : {to : List ℕ} {rs : Shape} → AxesPassed to rs → Summed to rs (replicate max_rank 0) 1 rs.rank
unfolding count sent_strides
summed-none {to} {rs} p = record {
  few = omega (arith, p.rank_is);
  step_is = sym (ap count (slice_empty rs.rank rs.lens));
  sums-is = sym (ap (λ l. sent_strides max_rank l (strides (drop rs.rank (counted rs)))) (slice_empty rs.rank to));
}

module _ {to : List ℕ} {rs : Shape} (p : AxesPassed to rs) {sums : List ℕ} {step i : ℕ} (f : Summed to rs sums step i) (some : 0 < i) where
  step-next : step * get_or rs.lens (i - 1) 0 ≡ count (drop (i - 1) (counted rs))
  unfolding count
  step-next =
      mul_comm step (get_or rs.lens (i - 1) 0) ∙ ap (λ c. get_or rs.lens (i - 1) 0 * c) f.step_is ∙ sym (ap count (lens-next p i some f.few))

  pub summed-next : Summed to rs (set sums (get_or to (i - 1) 0) (get_or sums (get_or to (i - 1) 0) 0 + step)) (step * get_or rs.lens (i - 1) 0) (i - 1)
  unfolding sent_strides strides
  summed-next = record {
    few = omega (arith, f.few);
    step_is = step-next;
    sums-is =
        ap₂ (λ l c. set l (get_or to (i - 1) 0) (get_or l (get_or to (i - 1) 0) 0 + c)) f.sums-is f.step_is
        ∙ sym (ap₂ (λ x y. sent_strides max_rank x (strides y)) (to-next p i some f.few) (lens-next p i some f.few));
  }

  -- No number is large.
  module _ (good : good_shape rs ≡ true) (h : 0 < count (counted rs)) where
    count-le : (j : ℕ) → (0 < count (drop j (counted rs))) × (count (drop j (counted rs)) ≤ max_count)
    count-le j = let c = count-drop j (counted rs) h in (c.0, omega (arith, c.1, rule-count rs.rank (counted rs) good))

    pub step_small : (step ≤ max_count) × (step * get_or rs.lens (i - 1) 0 ≤ max_count)
    step_small = (omega (arith, f.step_is, (count-le i).1), omega (arith, step-next, (count-le (i - 1)).1))

    pub sums-small : (t : ℕ) → get_or sums t 0 ≤ max_rank * max_count
    sums-small t =
        let n : length (drop i (take rs.rank to)) ≤ max_rank = rw length-drop (omega (arith, p.axes, p.high)) in
        omega (
          arith,
          ap (λ l. get_or l t 0) f.sums-is,
          sums-le max_rank (drop i (take rs.rank to)) (drop i (counted rs)) t max_count (count-le i).0 (count-le i).1,
        )

pub opened-some : {s : Route} {rs : Shape} {b : List ℤ} {axes : ℕ} {to : List ℕ} → Opened s rs b axes to
    → 0 < count (array_of s.operand).lengths → 0 < count (counted rs)
opened-some o h = rw o.is at h

pub summed-all : {s : Route} {rs : Shape} {b : List ℤ} {axes step i : ℕ} {to sums : List ℕ} → Opened s rs b axes to → Summed to rs sums step i
    → i ≡ 0 → sums ≡ sent_strides max_rank s.to (strides (array_of s.operand).lengths)
summed-all {rs = rs} {to = to} o f z =
    f.sums-is ∙ ap (λ i. sent_strides max_rank (drop i (take rs.rank to)) (strides (drop i (counted rs)))) z
    ∙ ap (λ t. sent_strides max_rank t.to (strides (array_of t.operand).lengths)) (sym o.is)
