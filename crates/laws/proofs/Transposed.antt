-- Transposition by a list of axes, at any rank.
use mathlib.Core.Path.{◌≡◌, refl, sym, ap, ap₂, ◌∙◌}
use mathlib.Core.List.{List, [], ◌∷◌}
use mathlib.Core.Bool.{Bool, true, false, cond}
use Prim.Native.Nat.{ℕ, zero, suc, ◌-◌, ◌≤◌, ◌<◌, min}
use native.Mathlib.Nat.{not-suc-le-zero}
use native.Mathlib.Decide.{dec_le}
use native.Mathlib.Omega.{arith}
use borrow.Author.Tests.{eqb-true, eqb-false}
use lib.Dec.{eqb}
use lib.ListN.{length, get_or}
use lib.Seq.{ext_get_or}
use lib.IntN.{ℤ}
use Rattle.shape.proofs.Places.{In}
use Rattle.shape.proofs.Axis.{in-length, in-at, in-from}
use Rattle.meaning.specs.Array.{Array, at, tab, build}
use Rattle.meaning.specs.Primitives.{sent_to, smallest, axes_to, sent_lengths, brought_back, backwards}
use Rattle.meaning.proofs.Sent.{length-backwards, get_or-backwards, length_back, get_or-back, sent-has, sent-from, axes-lt, axes-le, length-shape}
use Rattle.meaning.proofs.Sent.{get_d_shape, brought_back-in}
use Rattle.meaning.proofs.Tab.{length-tab, get_or-tab}
use Rattle.meaning.proofs.Arrays.{Whole, build-lengths, at-build, build-ext}
use Rattle.laws.specs.Words.{Permutes, occurs}
use Rattle.laws.proofs.Sum.{OneToOne}
use Rattle.laws.proofs.Permuted.{permuted-occurs}

-- R's axis i goes to result axis ts i.
unfoldable pub transposed : List ℕ → Array → Array
transposed ts a = build (sent_lengths ts a.lengths) (λ p. at a (brought_back ts p))

-- Two lists one after the other.
pub back-back : (ts us q : List ℕ) → ((i : ℕ) → i < length ts → get_or ts i 0 < length us)
    → brought_back ts (brought_back us q) ≡ brought_back (brought_back ts us) q
unfolding brought_back
back-back [] us q h = refl
back-back (t ∷ ts) us q h = ap₂ ◌∷◌ (get_or-back us q t (h zero (omega arith))) (back-back ts us q (λ i l. h (suc i) (omega arith)))

-- The smallest is one of them.
smallest-is : (n : ℕ) (ns : List ℕ) → (i : ℕ) × (i < suc (length ns)) × (smallest (n ∷ ns) ≡ get_or (n ∷ ns) i 0)
unfolding smallest
smallest-is n [] = (0, omega arith, refl)
smallest-is n (m ∷ ns) = by (dec_le n (smallest (m ∷ ns))) (smallest-is m ns)
  where
    by : Dec (n ≤ smallest (m ∷ ns)) → (i : ℕ) × (i < suc (length ns)) × (smallest (m ∷ ns) ≡ get_or (m ∷ ns) i 0)
        → (i : ℕ) × (i < suc (suc (length ns))) × (min n (smallest (m ∷ ns)) ≡ get_or (n ∷ (m ∷ ns)) i 0)
    by (yes h) r = (0, omega arith, omega arith)
    by (no h) r = (suc r.0, omega arith, omega arith)

-- The first position of j in ts, its length where there is none.
unfoldable pub find : ℕ → List ℕ → ℕ
find j [] = 0
find j (t ∷ ts) = cond (eqb t j) 0 (suc (find j ts))

find-is : (j : ℕ) (ts : List ℕ) (i : ℕ) → i < length ts → get_or ts i 0 ≡ j → (find j ts < length ts) × (get_or ts (find j ts) 0 ≡ j)
unfolding find
find-is j [] i h e = absurd (not-suc-le-zero h)
find-is j (t ∷ ts) i h e = by (eqb t j) refl i h e (find-is j ts)
  where
    by : (b : Bool) → eqb t j ≡ b → (i : ℕ) → i < suc (length ts) → get_or (t ∷ ts) i 0 ≡ j
        → ((i : ℕ) → i < length ts → get_or ts i 0 ≡ j → (find j ts < length ts) × (get_or ts (find j ts) 0 ≡ j))
        → (cond b 0 (suc (find j ts)) < suc (length ts)) × (get_or (t ∷ ts) (cond b 0 (suc (find j ts))) 0 ≡ j)
    by true q i h e f = (omega arith, eqb-true t j q)
    by false q zero h e f = absurd (eqb-false t j q e)
    by false q (suc i) h e f = let r = f i (omega arith) e in (omega arith, r.1)

-- The way back.
unfoldable pub inverse : List ℕ → List ℕ
inverse ts = tab (length ts) (λ j. find j ts)

smallest-some : (ns : List ℕ) (l : ℕ) → l < length ns → (i : ℕ) × (i < length ns) × (smallest ns ≡ get_or ns i 0)
smallest-some [] l h = absurd (not-suc-le-zero h)
smallest-some (n ∷ ns) l h = smallest-is n ns

length-inverse : (ts : List ℕ) → length (inverse ts) ≡ length ts
unfolding inverse
length-inverse ts = length-tab (length ts) _

get_or-inverse : (ts : List ℕ) (j : ℕ) → j < length ts → get_or (inverse ts) j 0 ≡ find j ts
unfolding inverse
get_or-inverse ts j h = get_or-tab (length ts) _ j 0 h

module _ (ts : List ℕ) (P : Permutes (length ts) ts) where
  there : (j : ℕ) → j < length ts → (get_or (inverse ts) j 0 < length ts) × (get_or ts (get_or (inverse ts) j 0) 0 ≡ j)
  there j h = let w = P.each j h in rw (get_or-inverse ts j h) (find-is j ts w.0 w.1 w.2)

  back : (i : ℕ) → i < length ts → get_or (inverse ts) (get_or ts i 0) 0 ≡ i
  back i h =
      let j = get_or ts i 0 in
      let w = there j (P.below i h) in
      P.once (get_or (inverse ts) j 0) i w.0 h w.1

  pub brought_back-back : (p : List ℕ) → length p ≡ length ts → brought_back ts (brought_back (inverse ts) p) ≡ p
  brought_back-back p e =
      ext_get_or 0 (brought_back ts (brought_back (inverse ts) p)) p (length_back ts _ ∙ sym e)
      (λ i h.
      let h' : i < length ts = omega (arith, length_back ts (brought_back (inverse ts) p)) in
      get_or-back ts _ i h'
      ∙ get_or-back (inverse ts) p (get_or ts i 0) (rw (length-inverse ts) (P.below i h'))
      ∙ ap (λ l. get_or p l 0) (back i h'))

  pub brought_back-forth : (q : List ℕ) → length q ≡ length ts → brought_back (inverse ts) (brought_back ts q) ≡ q
  brought_back-forth q e =
      ext_get_or 0 (brought_back (inverse ts) (brought_back ts q)) q (length_back (inverse ts) _ ∙ length-inverse ts ∙ sym e)
      (λ i h.
      let h' : i < length ts = omega (arith, length_back (inverse ts) (brought_back ts q), length-inverse ts) in
      get_or-back (inverse ts) _ i (rw (length-inverse ts) h')
      ∙ get_or-back ts q (get_or (inverse ts) i 0) (there i h').0
      ∙ ap (λ l. get_or q l 0) (there i h').1)

  pub axes-is : axes_to ts ≡ length ts
  axes-is = by (length ts) refl
    where
      by : (n : ℕ) → length ts ≡ n → axes_to ts ≡ length ts
      by zero e = omega (arith, axes-le ts (length ts) P.below)
      by (suc n) e =
          let w = P.each n (omega arith) in
          omega (arith, axes-le ts (length ts) P.below, axes-lt ts w.0 w.1, w.2)

  module _ (s : List ℕ) (e : length ts ≡ length s) where
    -- The axis keeps its length.
    pub shape_at : (i : ℕ) → i < length ts → get_or (sent_lengths ts s) (get_or ts i 0) 0 ≡ get_or s i 0
    shape_at i h =
        let j = get_or ts i 0 in
        let a = sent-has ts s i e h in
        let b = smallest-some (sent_to j ts s) a.0 a.1 in
        let d = sent-from j ts s b.0 b.1 in
        get_d_shape ts s j (axes-lt ts i h) ∙ b.2 ∙ d.3 ∙ ap (λ l. get_or s l 0) (P.once d.0 i d.1 h d.2)

    pub brought_back-one : OneToOne (In (sent_lengths ts s)) (In s) (brought_back ts) (brought_back (inverse ts))
    brought_back-one = record {
      there = λ q h. brought_back-in ts s q e h;
      back = λ p h.
          in-from (sent_lengths ts s) (brought_back (inverse ts) p) (length_back (inverse ts) p ∙ length-inverse ts ∙ sym axes-is ∙ sym (length-shape ts s))
          (λ j l.
          let l' : j < length ts = omega (arith, length-shape ts s, axes-is) in
          let w = there j l' in
          omega (
            arith,
            get_or-back (inverse ts) p j (rw (length-inverse ts) l'),
            in-at s p (get_or (inverse ts) j 0) h (rw e at w.0),
            shape_at (get_or (inverse ts) j 0) w.0,
            ap (λ k. get_or (sent_lengths ts s) k 0) w.1,
          ));
      there_back = λ q h. brought_back-forth q (in-length (sent_lengths ts s) q h ∙ length-shape ts s ∙ axes-is);
      back-there = λ p h. brought_back-back p (in-length s p h ∙ sym e);
    }

-- A permuting transposition keeps each number as often as it is.
pub transpose-occurs : (ts : List ℕ) (a : Array) → Permutes (length ts) ts → length ts ≡ length a.lengths → Whole a
    → (x : ℤ) → occurs x (transposed ts a).elements ≡ occurs x a.elements
unfolding transposed
transpose-occurs ts a P e w x =
    permuted-occurs (sent_lengths ts a.lengths) a.lengths (brought_back-one ts P a.lengths e) x a.elements w

-- The axis to which us sends the axis to which ts sends i.
pub permutes-brought_back : (ts us : List ℕ) → Permutes (length ts) ts → Permutes (length us) us → length us ≡ length ts
    → Permutes (length (brought_back ts us)) (brought_back ts us)
permutes-brought_back ts us P Q e = record {
  size = refl;
  below = λ i h. let h' : i < length ts = rw (length_back ts us) at h in
      omega (arith, get_or-back ts us i h', Q.below (get_or ts i 0) (rw e (P.below i h')), length_back ts us);
  each = λ j h.
      let a = Q.each j (omega (arith, length_back ts us)) in
      let b = P.each a.0 (omega (arith, a.1)) in
      (b.0, omega (arith, length_back ts us, b.1), get_or-back ts us b.0 b.1 ∙ ap (λ k. get_or us k 0) b.2 ∙ a.2);
  once = λ i l h k q.
      let h' : i < length ts = rw (length_back ts us) at h in
      let k' : l < length ts = rw (length_back ts us) at k in
      P.once i l h' k'
      (Q.once (get_or ts i 0) (get_or ts l 0) (rw e (P.below i h')) (rw e (P.below l k')) (sym (get_or-back ts us i h') ∙ q ∙ get_or-back ts us l k'));
}

module _ (ts us : List ℕ) (P : Permutes (length ts) ts) (Q : Permutes (length us) us) (e : length us ≡ length ts) (s : List ℕ) (f : length ts ≡ length s) where
  R : Permutes (length (brought_back ts us)) (brought_back ts us)
  R = permutes-brought_back ts us P Q e

  shape-length : length us ≡ length (sent_lengths ts s)
  shape-length = e ∙ sym (axes-is ts P) ∙ sym (length-shape ts s)

  shapes : sent_lengths us (sent_lengths ts s) ≡ sent_lengths (brought_back ts us) s
  shapes =
      ext_get_or 0 _ _
      (length-shape us _ ∙ axes-is us Q ∙ e ∙ sym (length_back ts us) ∙ sym (axes-is (brought_back ts us) R) ∙ sym (length-shape (brought_back ts us) s))
      (λ j h.
      let a = Q.each j (omega (arith, length-shape us (sent_lengths ts s), axes-is us Q)) in
      let b = P.each a.0 (omega (arith, a.1)) in
      let i : ℕ = a.0 in
      let l : ℕ = b.0 in
      let u : get_or (sent_lengths us (sent_lengths ts s)) (get_or us i 0) 0 ≡ get_or (sent_lengths ts s) i 0 =
      shape_at us Q (sent_lengths ts s) shape-length i a.1 in
      let v : get_or (sent_lengths ts s) (get_or ts l 0) 0 ≡ get_or s l 0 = shape_at ts P s f l b.1 in
      let w : get_or (sent_lengths (brought_back ts us) s) (get_or (brought_back ts us) l 0) 0 ≡ get_or s l 0 =
      shape_at (brought_back ts us) R s (length_back ts us ∙ f) l (rw (length_back ts us) b.1) in
      let g : get_or (brought_back ts us) l 0 ≡ get_or us (get_or ts l 0) 0 = get_or-back ts us l b.1 in
      cc (a.2, b.2))

pub transposed-transposed : (ts us : List ℕ) (a : Array) → Permutes (length ts) ts → Permutes (length us) us → length us ≡ length ts
    → length ts ≡ length a.lengths
    → transposed us (transposed ts a) ≡ transposed (brought_back ts us) a
unfolding transposed
transposed-transposed ts us a P Q e f =
    let s = a.lengths in
    ap (λ t. build t (λ q. at (transposed ts a) (brought_back us q))) (ap (sent_lengths us) (build-lengths _ _) ∙ shapes ts us P Q e s f)
    ∙ build-ext (sent_lengths (brought_back ts us) s) _ _
    (λ q i.
    at-build (sent_lengths ts s) (λ p. at a (brought_back ts p)) (brought_back us q)
    (brought_back-in us (sent_lengths ts s) q (shape-length ts us P Q e s f) (rw (shapes ts us P Q e s f) i))
    ∙ ap (at a) (back-back ts us q (λ k h. rw e (P.below k h))))

pub permutes-backwards : (r : ℕ) → Permutes r (backwards r)
permutes-backwards r = record {
  size = length-backwards r;
  below = λ i h. rw (get_or-backwards r i h) (omega arith);
  each = λ j h. (r - 1 - j, omega arith, get_or-backwards r (r - 1 - j) (omega arith) ∙ omega arith);
  once = λ i l h k q. omega (arith, get_or-backwards r i h, get_or-backwards r l k);
}
