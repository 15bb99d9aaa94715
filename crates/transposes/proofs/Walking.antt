-- A walk by strides: along one axis, and axis by axis.
use mathlib.Core.Path.{◌≡◌, refl, sym, ap, ap₂, subst₂, ◌∙◌}
use mathlib.Core.List.{List, [], ◌∷◌}
use Prim.Native.Nat.{ℕ, ◌+◌, ◌*◌, ◌-◌, ◌/◌, ◌%◌, ◌≤◌, ◌<◌}
use native.Mathlib.Nat.{zero-add, sub-zero, add-zero, mul-one, div-one, mul-div_cancel_left, div-add-mod', mod-lt}
use native.Mathlib.Omega.{arith}
use borrow.Rule.Slice.PartMut.{put_mid}
use lib.Arith.{digits_lt, digits_div, digits_mod}
use lib.ListN.{length, get_or, take, drop}
use lib.Seq.{take_all, ext_get_or, length-take-le}
use lib.IntN.{ℤ, pos}
use Rattle.shape.specs.Shape.{count}
use Rattle.shape.specs.Place.{place}
use Rattle.shape.proofs.Counts.{factor}
use Rattle.shape.proofs.Places.{row_in}
use Rattle.meaning.specs.Array.{tab}
use Rattle.meaning.proofs.Tab.{length-tab, get_or-tab, tab-ext, tab-part}
use Rattle.copying.specs.Runs.{copied}
use Rattle.copying.specs.Steps.{filled}
use Rattle.copying.proofs.Blockwise.{Blockwise, blockwise-room, blockwise-next, blockwise-all}
use Rattle.copying.proofs.Runs.{filled-whole, put-list, copied-whole}
use Rattle.transposes.specs.Steps.Strides.{dot, LineIn, strided, walked, Walk}
use Rattle.transposes.specs.Steps.Placed.{Spot, Reach, Wanted, Placed, row_axes, Blocked}
use Rattle.transposes.specs.Steps.Placed.Spot.{here, further}
use Rattle.transposes.specs.declared.Axis.{Axis}
use Rattle.transposes.proofs.Placing.{axis_by, StartsIn, rest_of, rest-at, reach-some, reach-inner, reach_from, reach-swap}

-- A line along an axis whose neighbours are neighbours in the buffer too.
pub line-reach : {n w m : ℕ} → 0 < n → LineIn n w m → Reach (axis_by n w 1 ∷ []) m n
line-reach {n} {w} {m} some lies = record {
  some = (_, _, further {a = axis_by n w 1} 0 0 0 some (here refl refl) refl refl);
  lie = λ d e s. by s;
}
  where
    by : {d e : ℕ} → Spot (axis_by n w 1 ∷ []) d e → (d < m) × (e < n)
    by (further i c f l (here p q) x y) = (omega (arith, lies i l), omega arith)

pub line-strided : {n w : ℕ} {r out last : List ℤ} → n ≡ length out → Placed (axis_by n w 1 ∷ []) r out last → last ≡ strided (length out) w r
unfolding strided
line-strided {n} {w} {r} {out} {last} h p =
    ext_get_or (pos 0) last (strided (length out) w r) (p.room ∙ sym (length-tab (length out) _))
    (λ q l.
    (p.each (strided (length out) w r) (λ d e s. wanted s)).1 _ q
    (further {a = axis_by n w 1} q 0 0 (omega (arith, p.room)) (here refl refl) refl (omega arith)))
  where
    wanted : {d e : ℕ} → Spot (axis_by n w 1 ∷ []) d e → get_or (strided (length out) w r) e (pos 0) ≡ get_or r d (pos 0)
    wanted {d} {e} (further i c f l (here p q) x y) =
        let u : e ≡ i = omega arith in
        let v : d ≡ i * w = omega arith in
        rw (u, v) (get_or-tab (length out) (λ i. get_or r (i * w) (pos 0)) i (pos 0) (omega arith))

-- Neighbours are a run.
pub run-strided : (r out last : List ℤ) (w : ℕ) → w ≡ 1 → 0 < length out → LineIn (length out) w (length r)
    → last ≡ copied (take (length out - 0) r) out → last ≡ strided (length out) w r
unfolding strided
run-strided r out last w one some lies q =
    let room : length out ≤ length r = omega (arith, rw one at (lies (length out - 1) (omega arith))) in
    q ∙ copied-whole (take (length out - 0) r) out (length-take-le (length out - 0) r (omega arith) ∙ sub-zero (length out))
    ∙ ap (λ k. take k r) (sub-zero (length out))
    ∙ tab-part r 0 (length out) (pos 0) (omega arith)
    ∙ tab-ext (length out) _ _ (λ i l. ap (λ k. get_or r k (pos 0)) (zero-add i ∙ sym (mul-one i) ∙ ap (λ k. i * k) (sym one)))

-- What k axes have after the first.
abbrev pub others : ℕ → List ℕ → List ℕ
others k ns = take (k - 1) (drop 1 ns)

first-others : (k : ℕ) (ns : List ℕ) → k ≡ length ns → 0 < k → ns ≡ get_or ns 0 0 ∷ others k ns
first-others k [] e h = absurd (omega arith)
first-others k (n ∷ ns) e h = ap (◌∷◌ n) (sym (take_all (k - 1) ns (omega arith)))

pub others-fewer : (ns : List ℕ) → 0 < length ns → length (others (length ns) ns) < length ns
others-fewer ns h = let e = ap length (first-others (length ns) ns refl h) in omega arith

-- Element i * count + j of a walk is element j of its part i.
dot-place : (n : ℕ) (ns : List ℕ) (w : ℕ) (ws : List ℕ) (i j : ℕ) → j < count ns
    → dot (place (n ∷ ns) (i * count ns + j)) (w ∷ ws) ≡ i * w + dot (place ns j) ws
unfolding place dot
dot-place n ns w ws i j l = ap₂ (λ x y. x * w + dot (place ns y) ws) (digits_div i l) (digits_mod i l)

-- Where element j of the walk stands.
abbrev pub reached : List ℕ → List ℕ → List ℤ → ℕ → ℤ
reached ns ws r j = get_or r (dot (place ns j) ws) (pos 0)

-- A walk over an axis and others.
pub record Rows (n : ℕ) (ns : List ℕ) (room : ℕ) : Type 0 where
  pub first : 0 < n
  pub some : 0 < count ns
  pub few : n ≤ room
  pub whole : room ≡ n * count ns
  pub size : room / n ≡ count ns

module _ {n : ℕ} {ns : List ℕ} {w : ℕ} {ws : List ℕ} {m room : ℕ} (k : Walk (n ∷ ns) (w ∷ ws) m room) where
  pub walk_rows : Rows n ns room
  unfolding count
  walk_rows =
      let b = factor n (count ns) room k.whole k.some in
      record { first = b.0; some = b.1; few = b.2; whole = k.whole; size = ap (λ x. x / n) k.whole ∙ mul-div_cancel_left (count ns) b.0 }

  reached-in : (i j : ℕ) → i < n → j < count ns → i * w + dot (place ns j) ws < m
  unfolding count
  reached-in i j l h =
      let x : i * count ns + j < n * count ns = digits_lt l h in
      omega (arith, k.reach (i * count ns + j) (omega (arith, k.whole)), dot-place n ns w ws i j h)

  pub walk_from : LineIn n w m
  walk_from i l = omega (arith, reached-in i 0 l walk_rows.some)

  pub walk-inner : (i rest part : ℕ) → i < n → rest ≡ m - i * w → part ≡ count ns → Walk ns ws rest part
  walk-inner i rest part l e q = record {
    axes = omega (arith, k.axes);
    some = omega (arith, walk_rows.some);
    whole = q;
    reach = λ j h. omega (arith, reached-in i j l (omega arith));
  }

-- A walk's lists, taken apart as the code does.
module _ {ns ws : List ℕ} {m room : ℕ} (k : Walk ns ws m room) where
  pub walk_split : 0 < length ns → Walk (get_or ns 0 0 ∷ others (length ns) ns) (get_or ws 0 0 ∷ others (length ns) ws) m room
  walk_split h = subst₂ (λ x y. Walk x y m room) (first-others (length ns) ns refl h) (first-others (length ns) ws (sym k.axes) h) k

  pub walked-split : (r : List ℤ) → 0 < length ns
      → walked (get_or ns 0 0 ∷ others (length ns) ns) (get_or ws 0 0 ∷ others (length ns) ws) r ≡ walked ns ws r
  walked-split r h =
      sym (ap₂ (λ x y. walked x y r) (first-others (length ns) ns refl h) (first-others (length ns) ws (sym k.axes) h))

  -- No axes: one element. One axis: a line.
  module _ (e : length ns ≡ 0) where
    no-axes : ns ≡ []
    no-axes = sym (take_all 0 ns (omega arith))

    pub reach-none : LineIn room 1 m
    unfolding count
    reach-none i l = omega (arith, k.reach 0 k.some, k.whole, ap count no-axes)

    pub walked_none : (r : List ℤ) → strided room 1 r ≡ walked ns ws r
    unfolding strided walked count place dot
    walked_none r =
        ap (λ n. tab n (λ i. get_or r (i * 1) (pos 0))) (k.whole ∙ ap count no-axes)
        ∙ tab-ext 1 _ _ (λ i l. ap (λ x. get_or r x (pos 0)) (let z : i * 1 ≡ 0 = omega arith in z))
        ∙ sym (ap (λ x. walked x ws r) no-axes)

  module _ (e : length ns ≡ 1) where
    one-axis : ns ≡ get_or ns 0 0 ∷ []
    one-axis = first-others 1 ns (sym e) (omega arith)

    pub reach-line : LineIn room (get_or ws 0 0) m
    unfolding count
    reach-line i l = walk_from (walk_split (omega arith)) i (omega (arith, k.whole, ap count one-axis))

    pub walked_line : (r : List ℤ) → strided room (get_or ws 0 0) r ≡ walked ns ws r
    unfolding strided walked count place dot
    walked_line r =
        let w : ℕ = get_or ws 0 0 in
        ap (λ c. tab c (λ i. get_or r (i * w) (pos 0))) (k.whole ∙ ap count one-axis)
        ∙ tab-ext (get_or ns 0 0 * 1) _ _ (λ i l. ap (λ v. get_or r v (pos 0)) (sym (add-zero (i * w)) ∙ ap (λ v. v * w + 0) (sym (div-one i))))
        ∙ sym (ap₂ (λ x y. walked x y r) one-axis (first-others 1 ws (sym e ∙ sym k.axes) (omega arith)))

-- A walk part by part: i parts of the result are there.
module _ {n : ℕ} {ns : List ℕ} {w : ℕ} {ws : List ℕ} {room : ℕ} (r : List ℤ) (k : Walk (n ∷ ns) (w ∷ ws) (length r) room) {out₀ out : List ℤ} {i : ℕ}
    (b : Blockwise n (room / n) (reached (n ∷ ns) (w ∷ ws) r) out₀ out (i * (room / n)) i) where
  pub walked-room : i < n → i * (room / n) + room / n ≤ room
  walked-room l = blockwise-room b room l (rw (walk_rows k).size (omega (arith, (walk_rows k).whole)))

  -- One more.
  abbrev c : ℕ
  c = room / n

  pub walked_more : (last : List ℤ) → i < n → length last ≡ length (take (i * c + c - i * c) (drop (i * c) out)) → last ≡ walked ns ws (rest_of r (i * w))
      → Blockwise n c (reached (n ∷ ns) (w ∷ ws) r) out₀ (put_mid (i * c) (i * c + c - i * c) out last) ((i + 1) * c) (i + 1)
  unfolding walked
  walked_more last l e q =
      let s : c ≡ count ns = (walk_rows k).size in
      let z : (i + 1) * c ≡ i * c + c = omega arith in
      rw z (blockwise-next b last l e
      (put-list (reached (n ∷ ns) (w ∷ ws) r) (pos 0) (i * c) c (i * c + c) out out₀ last b.done refl (ap length q ∙ length-tab _ _ ∙ sym s)
      (λ j l.
      let l' : j < count ns = omega arith in
      ap (λ x. get_or r x (pos 0)) (ap (λ x. dot (place (n ∷ ns) (i * x + j)) (w ∷ ws)) s ∙ dot-place n ns w ws i j l')
      ∙ sym (rest-at r (i * w) (dot (place ns j) ws))
      ∙ sym (ap (λ x. get_or x j (pos 0)) q ∙ get_or-tab (count ns) _ j (pos 0) l'))))

  -- All of them.
  pub walked_all : n ≤ i → length out₀ ≡ room → out ≡ walked (n ∷ ns) (w ∷ ws) r
  unfolding walked count
  walked_all h e =
      blockwise-all b h ∙ ap (λ x. filled (reached (n ∷ ns) (w ∷ ws) r) (n * x) out₀) (walk_rows k).size
      ∙ filled-whole _ (n * count ns) out₀ (omega (arith, (walk_rows k).whole))

-- The places of a walk, row by row.
spot-place : (ns ws : List ℕ) (q : ℕ) → length ws ≡ length ns → q < count ns → Spot (row_axes ns ws) (dot (place ns q) ws) q
unfolding row_axes count place dot
spot-place [] [] q e h = let z : q ≡ 0 = omega arith in here refl z
spot-place [] (w ∷ ws) q e h = absurd (omega arith)
spot-place (n ∷ ns) [] q e h = absurd (omega arith)
spot-place (n ∷ ns) (w ∷ ws) q e h =
    let b = row_in n (count ns) q h in
    let x : q ≡ q / count ns * count ns + q % count ns = sym (div-add-mod' q (count ns)) in
    further {a = axis_by n w (count ns)} (q / count ns) _ _ b.1 (spot-place ns ws (q % count ns) (omega arith) (mod-lt q b.0)) refl x

place-spot : (ns ws : List ℕ) {d e : ℕ} → length ws ≡ length ns → Spot (row_axes ns ws) d e → (e < count ns) × (dot (place ns e) ws ≡ d)
unfolding row_axes count place dot
place-spot [] [] h (here p q) = (omega arith, sym p)
place-spot [] (w ∷ ws) h s = absurd (omega arith)
place-spot (n ∷ ns) [] h s = absurd (omega arith)
place-spot (n ∷ ns) (w ∷ ws) {d} {e} h (further i c f l s p q) =
    let t = place-spot ns ws (omega arith) s in
    (rw q (digits_lt l t.0), ap (λ x. dot (place (n ∷ ns) x) (w ∷ ws)) q ∙ dot-place n ns w ws i f t.0 ∙ ap (◌+◌ (i * w)) t.1 ∙ sym p)

placed-walk : {ns ws : List ℕ} {r : List ℤ} {m room : ℕ} {out last : List ℤ} → Walk ns ws m room → length out ≡ room
    → Placed (row_axes ns ws) r out last → last ≡ walked ns ws r
unfolding walked
placed-walk {ns} {ws} {r} {m} {room} {out} {last} k e p =
    ext_get_or (pos 0) last (walked ns ws r) (p.room ∙ e ∙ k.whole ∙ sym (length-tab (count ns) _))
    (λ q l. (p.each (walked ns ws r) wanted).1 _ q (spot-place ns ws q k.axes (omega (arith, p.room, k.whole))))
  where
    wanted : Wanted (row_axes ns ws) r (walked ns ws r)
    wanted d e s =
        let t = place-spot ns ws k.axes s in
        get_or-tab (count ns) (reached ns ws r) e (pos 0) t.0 ∙ ap (λ x. get_or r x (pos 0)) t.1

reach-walk : {ns ws : List ℕ} {m room : ℕ} → Walk ns ws m room → Reach (row_axes ns ws) m room
reach-walk {ns} {ws} k = record {
  some = (_, 0, spot-place ns ws 0 k.axes (omega (arith, k.some, k.whole)));
  lie = λ d e s.
      let t = place-spot ns ws k.axes s in
      (rw t.1 at (k.reach e (omega (arith, k.whole))), omega (arith, k.whole));
}

-- Blocks along an axis and others: the first of those, and the ones after it.
rows_split : (ns ws : List ℕ) → 0 < length ns → length ws ≡ length ns
    → row_axes ns ws ≡ axis_by (get_or ns 0 0) (get_or ws 0 0) (count (others (length ns) ns)) ∷ row_axes (others (length ns) ns) (others (length ns) ws)
unfolding row_axes
rows_split ns ws h e = ap₂ row_axes (first-others (length ns) ns refl h) (first-others (length ns) ws (sym e) h)

pub rows-one : (ns ws : List ℕ) → length ns ≡ 1 → length ws ≡ length ns → row_axes ns ws ≡ axis_by (get_or ns 0 0) (get_or ws 0 0) 1 ∷ []
unfolding row_axes count
rows-one ns ws h e = ap₂ row_axes (first-others 1 ns (sym h) (omega arith)) (first-others 1 ws (sym h ∙ sym e) (omega arith))

module _ {near : Axis} {ns ws : List ℕ} {size m room : ℕ} (k : Blocked near ns ws size m room) where
  abbrev n : ℕ
  n = get_or ns 0 0

  abbrev inner : List ℕ
  inner = others (length ns) ns

  across : Reach (axis_by n (get_or ws 0 0) (count inner) ∷ (near ∷ row_axes inner (others (length ns) ws))) m room
  across = reach-swap (rw (rows_split ns ws k.some k.axes) at k.reach)

  pub blocked-first : 0 < n
  blocked-first = reach-some across

  blocked-step : size / n ≡ count inner
  unfolding count
  blocked-step =
      ap (λ x. x / n) (k.size_is ∙ ap count (first-others (length ns) ns refl k.some)) ∙ mul-div_cancel_left (count inner) blocked-first

  pub blocked-from : StartsIn n (get_or ws 0 0) (size / n) m room
  blocked-from i l = rw blocked-step (reach_from across i l)

  pub blocked-all : {r out last : List ℤ} (i : ℕ) → i ≡ n
      → Placed (near ∷ (axis_by i (get_or ws 0 0) (size / n) ∷ row_axes inner (others (length ns) ws))) r out last
      → Placed (near ∷ row_axes ns ws) r out last
  blocked-all i e p = rw (rows_split ns ws k.some k.axes) (rw (e, blocked-step) at p)

pub blocked-inner : {near : Axis} {ns ws : List ℕ} {size : ℕ} (r out₀ out : List ℤ) → Blocked near ns ws size (length r) (length out₀)
    → length out ≡ length out₀ → (i : ℕ) → i < get_or ns 0 0 → 1 < length ns
    → Blocked near (others (length ns) ns) (others (length ns) ws) (size / get_or ns 0 0) (length (rest_of r (i * get_or ws 0 0)))
    (length (rest_of out (i * (size / get_or ns 0 0))))
blocked-inner {near} {ns} {ws} r out₀ out k z i l h =
    let x = ap length (first-others (length ns) ns refl k.some) in
    let y = ap length (first-others (length ns) ws (sym k.axes) k.some) in
    rw (blocked-step k) (record { axes = omega (arith, k.axes); some = omega arith; size_is = refl; reach = reach-inner r out₀ out (across k) z i l })

-- A walk by blocks along its first axis, whose neighbours are a part of the result apart.
module _ {ns ws : List ℕ} {m room : ℕ} (k : Walk ns ws m room) (h : 1 < length ns) where
  abbrev first_axis : Axis
  first_axis = axis_by (get_or ns 0 0) (get_or ws 0 0) (room / get_or ns 0 0)

  size : room / get_or ns 0 0 ≡ count (others (length ns) ns)
  size = (walk_rows (walk_split k (omega arith))).size

  pub walk-blocked : Blocked first_axis (others (length ns) ns) (others (length ns) ws) (room / get_or ns 0 0) m room
  walk-blocked =
      let w = walk_split k (omega arith) in
      let x = ap length (first-others (length ns) ns refl (omega arith)) in
      record {
        axes = omega (arith, w.axes);
        some = omega arith;
        size_is = size;
        reach = rw (ap (axis_by (get_or ns 0 0) (get_or ws 0 0)) size) (rw (rows_split ns ws (omega arith) k.axes) at (reach-walk k));
      }

  pub blocked-walk : {r out last : List ℤ} → length out ≡ room
      → Placed (first_axis ∷ row_axes (others (length ns) ns) (others (length ns) ws)) r out last → last ≡ walked ns ws r
  blocked-walk {out = out} e p = placed-walk {out = out} k e (rw (rows_split ns ws (omega arith) k.axes) (rw size at p))
