-- Elements written place by place: no law asks in which order, or that a place is written once.
use mathlib.Core.Path.{◌≡◌, refl, sym, ap, subst₂, ◌∙◌}
use mathlib.Core.List.{List, [], ◌∷◌, ◌++◌}
use mathlib.Core.Bool.{Bool, true, false}
use Prim.Native.Nat.{ℕ, ◌+◌, ◌*◌, ◌-◌, ◌≤◌, ◌<◌}
use native.Mathlib.Nat.{add-zero, add-mul, zero-mul}
use native.Mathlib.Omega.{arith}
use borrow.Author.Tests.{ltb-true, ltb-false, eqb-true, eqb-false}
use lib.Dec.{ltb, eqb}
use lib.IntN.{ℤ, pos}
use borrow.Rule.Slice.PartMut.{put_mid, mid_len, same_len_mid}
use lib.ListN.{length, get_or, set, take, drop, length-set, get_or-append}
use lib.Seq.{get_or-set_same, get_or-set_other, get_or-take, get_or-drop, length-take-le, drop-drop}
use Rattle.std.proofs.lemmas.List.{take_rest, drop_all, append-nil, get_or-append-add}
use Rattle.transposes.specs.declared.Axis.{Axis}
use Rattle.transposes.specs.Steps.Placed.{Spot, Reach, Agrees, Kept, Placed}
use Rattle.transposes.specs.Steps.Placed.Spot.{here, further}

-- n positions of an axis.
abbrev pub axis_by : ℕ → ℕ → ℕ → Axis
axis_by n w o = record { length = n; stride = w; step = o }

-- The places of more positions, of positions from l on, and of two axes that change places.
spot-fewer : {i n w o d e : ℕ} {rest : List Axis} → i ≤ n → Spot (axis_by i w o ∷ rest) d e → Spot (axis_by n w o ∷ rest) d e
spot-fewer {n = n} {w = w} {o = o} h (further j c f l s p q) = further {a = axis_by n w o} j c f (omega arith) s p q

spot-from : {k n w o d e : ℕ} {rest : List Axis} (l : ℕ) → l + k ≤ n → Spot (axis_by k w o ∷ rest) d e
    → Spot (axis_by n w o ∷ rest) (l * w + d) (l * o + e)
spot-from {n = n} {w = w} {o = o} {d = d} {e = e} l h (further j c f m s p q) =
    let x : l * w + d ≡ (l + j) * w + c = omega (arith, add-mul l j w) in
    let y : l * o + e ≡ (l + j) * o + f = omega (arith, add-mul l j o) in
    further {a = axis_by n w o} (l + j) c f (omega arith) s x y

spot-swap : {a b : Axis} {rest : List Axis} {d e : ℕ} → Spot (a ∷ (b ∷ rest)) d e → Spot (b ∷ (a ∷ rest)) d e
spot-swap {a} {b} {d = d} {e = e} (further i c f l (further j x y m s p q) t u) =
    let z : d ≡ j * b.stride + (i * a.stride + x) = omega arith in
    let v : e ≡ j * b.step + (i * a.step + y) = omega arith in
    further j _ _ m (further i x y l s refl refl) z v

-- A place of an axis with one position is one of the others'.
spot-one : {w o d e : ℕ} {rest : List Axis} → Spot (axis_by 1 w o ∷ rest) d e → Spot rest d e
spot-one {w} {o} {d} {e} {rest} (further i c f l s p q) =
    let z : i ≡ 0 = omega arith in
    let x : c ≡ d = omega (arith, ap (λ k. k * w) z, zero-mul w) in
    let y : f ≡ e = omega (arith, ap (λ k. k * o) z, zero-mul o) in
    subst₂ (λ m n. Spot rest m n) x y s

one_spot : {w o d e : ℕ} {rest : List Axis} → Spot rest d e → Spot (axis_by 1 w o ∷ rest) d e
one_spot {w} {o} {d} {e} s =
    let x : d ≡ 0 * w + d = omega (arith, zero-mul w) in
    let y : e ≡ 0 * o + e = omega (arith, zero-mul o) in
    further {a = axis_by 1 w o} 0 d e (omega arith) s x y

-- What is left of a list from some place on, as the code takes it.
abbrev pub rest_of : {A : Type 0} → List A → ℕ → List A
rest_of xs from = take (length xs - from) (drop from xs)

pub rest-long : {A : Type 0} (xs : List A) (from : ℕ) → from ≤ length xs → length (rest_of xs from) ≡ length xs - from
rest-long xs from h = mid_len from (length xs) xs (omega arith)

pub rest-at : (xs : List ℤ) (from i : ℕ) → get_or (rest_of xs from) i (pos 0) ≡ get_or xs (from + i) (pos 0)
rest-at xs from i = ap (λ ys. get_or ys i (pos 0)) (take_rest xs from) ∙ get_or-drop from xs i (pos 0)

-- The n positions of an axis start in R's m elements and in a buffer of some room. An invariant that says so leaves no bound to show.
abbrev pub StartsIn : ℕ → ℕ → ℕ → ℕ → ℕ → Type 0
StartsIn n w o m room = (i : ℕ) → i < n → (i * w < m) × (i * o < room)

-- The places of fewer axes, and of a part of an axis, lie in R and in the buffer where all do.
module _ {n w o m room : ℕ} {rest : List Axis} (k : Reach (axis_by n w o ∷ rest) m room) where
  pub reach-some : 0 < n
  reach-some = by k.some.2
    where
      by : {d e : ℕ} → Spot (axis_by n w o ∷ rest) d e → 0 < n
      by (further i c f l s p q) = omega arith

  some-inner : (d : ℕ) × (e : ℕ) × Spot rest d e
  some-inner = by k.some.2
    where
      by : {d e : ℕ} → Spot (axis_by n w o ∷ rest) d e → (d : ℕ) × (e : ℕ) × Spot rest d e
      by (further i c f l s p q) = (c, f, s)

  -- Where the positions of the first axis start.
  pub reach_from : StartsIn n w o m room
  reach_from i l = let x = k.lie _ _ (further {a = axis_by n w o} i _ _ l some-inner.2 refl refl) in (omega arith, omega arith)

-- At one position of the first axis, and at some positions of it from l on.
module _ {n w o : ℕ} {rest : List Axis} (r out₀ out : List ℤ) (k : Reach (axis_by n w o ∷ rest) (length r) (length out₀)) (z : length out ≡ length out₀) where
  pub reach-inner : (i : ℕ) → i < n → Reach rest (length (rest_of r (i * w))) (length (rest_of out (i * o)))
  reach-inner i l =
      let b = reach_from k i l in
      record {
        some = some-inner k;
        lie = λ d e s.
            let x = k.lie _ _ (further {a = axis_by n w o} i d e l s refl refl) in
            (omega (arith, rest-long r (i * w)), omega (arith, rest-long out (i * o)));
      }

  pub reach-strip : (l j : ℕ) → 0 < j → l + j ≤ n → Reach (axis_by j w o ∷ rest) (length (rest_of r (l * w))) (length (rest_of out (l * o)))
  reach-strip l j h b =
      let f = reach_from k l (omega arith) in
      record {
        some = (_, _, further {a = axis_by j w o} 0 _ _ h (some-inner k).2 refl refl);
        lie = λ d e s.
            let x = k.lie _ _ (spot-from l b s) in
            (omega (arith, rest-long r (l * w)), omega (arith, rest-long out (l * o)));
      }

pub reach-swap : {a b : Axis} {rest : List Axis} {m room : ℕ} → Reach (a ∷ (b ∷ rest)) m room → Reach (b ∷ (a ∷ rest)) m room
reach-swap k = record { some = (_, _, spot-swap k.some.2); lie = λ d e s. k.lie d e (spot-swap s) }

-- Written along axes with the same places.
placed_same : {xs ys : List Axis} {r out last : List ℤ}
    → ((d e : ℕ) → Spot xs d e → Spot ys d e) → ((d e : ℕ) → Spot ys d e → Spot xs d e) → Placed xs r out last → Placed ys r out last
placed_same f g k = record {
  room = k.room;
  each = λ T w. let x = k.each T (λ d e s. w d e (f d e s)) in (x.0, λ d e s. x.1 d e (g d e s));
}

pub placed-swap : {a b : Axis} {rest : List Axis} {r out last : List ℤ} → Placed (a ∷ (b ∷ rest)) r out last → Placed (b ∷ (a ∷ rest)) r out last
placed-swap k = placed_same (λ d e s. spot-swap s) (λ d e s. spot-swap s) k

-- The same from a place in R and one in the buffer on.
pub record PlacedFrom (axes : List Axis) (r : List ℤ) (at to : ℕ) (out last : List ℤ) : Type 0 where
  pub room : length last ≡ length out
  pub each : (T : List ℤ) → ((d e : ℕ) → Spot axes d e → get_or T (to + e) (pos 0) ≡ get_or r (at + d) (pos 0))
      → Kept T out last × ((d e : ℕ) → Spot axes d e → get_or last (to + e) (pos 0) ≡ get_or T (to + e) (pos 0))

-- What is written to the rest of the buffer.
abbrev pub put : ℕ → List ℤ → List ℤ → List ℤ
put to out part = put_mid to (length out - to) out part

module _ (to : ℕ) (out part : List ℤ) (h : to ≤ length out) where
  front : length (take to out) ≡ to
  front = length-take-le to out h

  put-is : put to out part ≡ take to out ++ part
  put-is =
      ap (λ x. take to out ++ (part ++ x)) (drop-drop (length out - to) to out ∙ drop_all (to + (length out - to)) out (omega arith))
      ∙ ap (λ x. take to out ++ x) (append-nil part)

  put-before : (q : ℕ) → q < to → get_or (put to out part) q (pos 0) ≡ get_or out q (pos 0)
  put-before q l = ap (λ xs. get_or xs q (pos 0)) put-is ∙ get_or-append (take to out) part (pos 0) q (omega (arith, front)) ∙ get_or-take to out q (pos 0) l

  put-after : (i : ℕ) → get_or (put to out part) (to + i) (pos 0) ≡ get_or part i (pos 0)
  put-after i =
      ap (λ xs. get_or xs (to + i) (pos 0)) put-is
      ∙ ap (λ n. get_or (take to out ++ part) (n + i) (pos 0)) (sym front)
      ∙ get_or-append-add (take to out) part i (pos 0)

-- Written to the rest of the buffer from the rest of R.
pub placed_rest : {axes : List Axis} {r out part : List ℤ} (at to : ℕ) → to ≤ length out → Placed axes (rest_of r at) (rest_of out to) part
    → PlacedFrom axes r at to out (put to out part)
placed_rest {axes} {r} {out} {part} at to h p = record {
  room = same_len_mid to (length out - to) out part p.room;
  each = λ T f.
      let x = p.each (rest_of T to) (λ d e s. rest-at T to e ∙ f d e s ∙ sym (rest-at r at d)) in
      ((λ q k. kept T x.0 q k (ltb q to) refl), λ d e s. put-after to out part h e ∙ x.1 d e s ∙ rest-at T to e);
}
  where
    kept : (T : List ℤ) → Kept (rest_of T to) (rest_of out to) part → (q : ℕ) → get_or out q (pos 0) ≡ get_or T q (pos 0) → (b : Bool) → ltb q to ≡ b
        → get_or (put to out part) q (pos 0) ≡ get_or T q (pos 0)
    kept T x q k true b = put-before to out part h q (ltb-true q to b) ∙ k
    kept T x q k false b =
        let l : to ≤ q = ltb-false q to b in
        let z : to + (q - to) ≡ q = omega arith in
        let there : get_or (rest_of T to) (q - to) (pos 0) ≡ get_or T q (pos 0) = rw z at (rest-at T to (q - to)) in
        rw z at (put-after to out part h (q - to)) ∙ x (q - to) (rw z at (rest-at out to (q - to)) ∙ k ∙ sym there) ∙ there

-- No position, one more, and a strip of them from l on.
module _ {w o : ℕ} {rest : List Axis} {r : List ℤ} where
  pub placed-none : (out : List ℤ) → Placed (axis_by 0 w o ∷ rest) r out out
  placed-none out = record { room = refl; each = λ T h. ((λ q e. e), λ d e s. none-agrees T d e s) }
    where
      none-agrees : (T : List ℤ) → Agrees (axis_by 0 w o ∷ rest) T out
      none-agrees T d e (further i c f l s p q) = absurd (omega arith)

  pub placed-strip : {l k i n : ℕ} {out₀ out last : List ℤ} → l ≤ i → i ≤ n → n ≡ l + k → Placed (axis_by i w o ∷ rest) r out₀ out
      → PlacedFrom (axis_by k w o ∷ rest) r (l * w) (l * o) out last → Placed (axis_by n w o ∷ rest) r out₀ last
  placed-strip {l} {k} {i} {n} {out₀} {out} {last} h m z a b = record {
    room = b.room ∙ a.room;
    each = λ T f.
        let x = a.each T (λ d e s. f d e (spot-fewer m s)) in
        let y = b.each T (λ d e s. f _ _ (spot-from l (omega arith) s)) in
        ((λ q e. y.0 q (x.0 q e)), λ d e s. agrees T x.1 y.0 y.1 d e s);
  }
    where
      agrees : (T : List ℤ) → Agrees (axis_by i w o ∷ rest) T out → Kept T out last
          → ((d e : ℕ) → Spot (axis_by k w o ∷ rest) d e → get_or last (l * o + e) (pos 0) ≡ get_or T (l * o + e) (pos 0))
          → Agrees (axis_by n w o ∷ rest) T last
      agrees T f g s d e (further j c v b t p q) = by (ltb j i) refl
        where
          by : (b : Bool) → ltb j i ≡ b → get_or last e (pos 0) ≡ get_or T e (pos 0)
          by true y = g _ (f d e (further {a = axis_by i w o} j c v (ltb-true j i y) t p q))
          by false y =
              let y' : i ≤ j = ltb-false j i y in
              let u : l + (j - l) ≡ j = omega arith in
              let x : l * o + ((j - l) * o + v) ≡ e = omega (arith, add-mul l (j - l) o, ap (λ k. k * o) u) in
              rw x at (s _ _ (further {a = axis_by k w o} (j - l) c v (omega arith) t refl refl))

  -- Position i by itself.
  pub placed-more : {i : ℕ} {out₀ out last : List ℤ} → Placed (axis_by i w o ∷ rest) r out₀ out
      → PlacedFrom (axis_by 1 w o ∷ rest) r (i * w) (i * o) out last → Placed (axis_by (i + 1) w o ∷ rest) r out₀ last
  placed-more a b = placed-strip (omega arith) (omega arith) refl a b

  pub placed_one : {out part : List ℤ} (at to : ℕ) → to ≤ length out → Placed rest (rest_of r at) (rest_of out to) part
      → PlacedFrom (axis_by 1 w o ∷ rest) r at to out (put to out part)
  placed_one at to h b = placed_rest at to h (placed_same (λ d e s. one_spot s) (λ d e s. spot-one s) b)

-- One element.
pub placed-set : {w o : ℕ} (r : List ℤ) (at to : ℕ) (out : List ℤ) (v : ℤ) → to < length out → v ≡ get_or r at (pos 0)
    → PlacedFrom (axis_by 1 w o ∷ []) r at to out (set out to v)
placed-set {w} {o} r at to out v h e = record {
  room = length-set out to v;
  each = λ T f.
      let x : v ≡ get_or T to (pos 0) = e ∙ sym (rw (add-zero to, add-zero at) at (f 0 0 (one_spot (here refl refl)))) in
      ((λ q k. kept T x q k (eqb q to) refl), λ d f s. agrees T x d f (spot-one s));
}
  where
    kept : (T : List ℤ) → v ≡ get_or T to (pos 0) → (q : ℕ) → get_or out q (pos 0) ≡ get_or T q (pos 0) → (b : Bool) → eqb q to ≡ b
        → get_or (set out to v) q (pos 0) ≡ get_or T q (pos 0)
    kept T x q k true t =
        let s : q ≡ to = eqb-true q to t in
        ap (λ y. get_or (set out to v) y (pos 0)) s ∙ get_or-set_same out to v (pos 0) h ∙ x ∙ sym (ap (λ y. get_or T y (pos 0)) s)
    kept T x q k false t = get_or-set_other out to q v (pos 0) (eqb-false q to t) ∙ k

    agrees : (T : List ℤ) → v ≡ get_or T to (pos 0) → (d f : ℕ) → Spot [] d f → get_or (set out to v) (to + f) (pos 0) ≡ get_or T (to + f) (pos 0)
    agrees T x d f (here p q) =
        let z : to + f ≡ to = omega arith in
        ap (λ y. get_or (set out to v) y (pos 0)) z ∙ get_or-set_same out to v (pos 0) h ∙ x ∙ sym (ap (λ y. get_or T y (pos 0)) z)
