-- Law 4: the first n along an axis joined to what dropping n leaves.
use mathlib.Core.Path.{◌≡◌, refl, sym, ap, ap₂, ◌∙◌}
use mathlib.Core.List.{List}
use mathlib.Core.Bool.{true, not, cond, ◌&&◌}
use Prim.Native.Nat.{ℕ, ◌+◌, ◌-◌, ◌≤◌, ◌<◌}
use native.Mathlib.Decide.{dec_lt}
use native.Mathlib.Omega.{arith}
use borrow.Author.Tests.{lt-ltb, le-ltb, eq-eqb, ne_eqb}
use lib.ListN.{length, get_or, set, length-set}
use lib.Seq.{set-set, set-get_or, get_or-set_same}
use lib.Dec.{eqb, ltb}
use lib.IntN.{ℤ, pos, ◌-ℤ◌}
use Rattle.shape.specs.Shape.{shape_rule, without}
use Rattle.shape.proofs.Places.{In}
use Rattle.shape.proofs.Axis.{in-length, in-at, in-set}
use Rattle.shape.proofs.Rule.{shorter-rule}
use Rattle.meaning.specs.Array.{Array, array_of, at, build}
use Rattle.meaning.specs.Terms.{rank, axis, int_same, within, from_zero, same_lengths}
use Rattle.meaning.specs.Primitives.{Side, side, higher, ranks_fit, catenate, takes, dropped_lengths, drops}
use Rattle.meaning.specs.Reply.{primitives, named, reply}
use Rattle.meaning.proofs.Arrays.{Whole, build-lengths, at-build, build-ext, build-at, form-whole}
use Rattle.meaning.proofs.Positions.{within-lt}
use Rattle.meaning.proofs.Scalars.{array-as}
use Rattle.meaning.proofs.Without.{without-set}
use Rattle.meaning.proofs.Sides.{same-lengths, whole, side-whole, higher-left}
use Rattle.meaning.proofs.Replies.{NoneMet}
use Rattle.laws.specs.Words.{given}
use Rattle.laws.specs.Laws.{FirstAndRest}
use Rattle.laws.proofs.Calls.{result, array-rule, GivesArray, gives, same-array, listed, lists-array}
use Rattle.laws.proofs.Cut.{firsts, lesser, length-firsts, length-lesser, sizes-firsts, lengths-lesser, first_part, front-lengths, takes_front}
use Rattle.laws.proofs.Cut.{back, back-lengths, drops-back}

-- Two arrays of equal rank joined along axis k.
unfoldable pub joined_arrays : ℕ → Array → Array → Array
joined_arrays k a b =
    build
    (set a.lengths k (axis a k + axis b k))
    (λ p. cond (ltb (get_or p k 0) (axis a k)) (at a p) (at b (set p k (get_or p k 0 - axis a k))))

-- The result of 22 for the sides l and r of lengths ns.
abbrev beside : ℕ → List ℕ → Side → Side → Array
beside k ns l r =
    build
    (set ns k (l.extent + r.extent))
    (λ p. cond (ltb (get_or p k 0) l.extent) (l.element p) (r.element (set p k (get_or p k 0 - l.extent))))

module _ (G K : ℤ) (a b : Array) (h : 0 < rank a) (e : rank a ≡ rank b) where
  catenate-joined : result (catenate G K a b) ≡ joined_arrays (from_zero G K) a b
  unfolding catenate joined_arrays
  catenate-joined =
      let k : ℕ = from_zero G K in
      ap (λ ns. beside k ns (side ns k a) (side ns k b)) (higher-left a b h (omega arith))
      ∙ ap₂ (beside k a.lengths) (side-whole a.lengths k a h refl) (side-whole a.lengths k b (omega arith) (sym e))

  -- It is not refused where the other lengths agree.
  catenate-none : within (K -ℤ G) (rank a) ≡ true → without (from_zero G K) b.lengths ≡ without (from_zero G K) a.lengths
      → NoneMet (catenate G K a b).refusals
  unfolding catenate ranks_fit
  catenate-none t q =
      let k : ℕ = from_zero G K in
      let ns : higher a b ≡ a.lengths = higher-left a b h (omega arith) in
      let l : side a.lengths k a ≡ whole a k = side-whole a.lengths k a h refl in
      let r : side a.lengths k b ≡ whole b k = side-whole a.lengths k b (omega arith) (sym e) in (
        rw (ne_eqb (rank a) 0 (λ z. omega arith), ne_eqb (rank b) 0 (λ z. omega arith), eq-eqb (rank a) (rank b) e),
        (
          ap (λ s. not (within (K -ℤ G) (length s))) ns ∙ ap not t,
          (
            ap (λ s. not (same_lengths (side s k a).others (without k s) && same_lengths (side s k b).others (without k s))) ns
                ∙ ap₂ (λ x y. not (same_lengths x.others (without k a.lengths) && same_lengths y.others (without k a.lengths))) l r
                ∙ ap₂ (λ x y. not (x && y)) (same-lengths (without k a.lengths))
                (ap (λ s. same_lengths s (without k a.lengths)) q ∙ same-lengths (without k a.lengths)),
            tt,
          ),
        ),
      )

-- The first n and the rest are the array.
module _ (a : Array) (k n : ℕ) (w : Whole a) (l : k < rank a) (h : n ≤ axis a k) where
  front-axis : axis (first_part a k n) k ≡ n
  front-axis = ap (λ t. get_or t k 0) (front-lengths a k n) ∙ get_or-set_same a.lengths k n 0 l

  back-axis : axis (back a k n) k ≡ axis a k - n
  back-axis = ap (λ t. get_or t k 0) (back-lengths a k n) ∙ get_or-set_same a.lengths k _ 0 l

  kept : (m i : ℕ) (p : List ℕ) → In a.lengths p → i < m → In (set a.lengths k m) (set p k i)
  kept m i p j b = in-set a.lengths p k m i j b

  same_at : (p : List ℕ) → In a.lengths p → Dec (get_or p k 0 < n)
      → cond (ltb (get_or p k 0) n) (at (first_part a k n) p) (at (back a k n) (set p k (get_or p k 0 - n))) ≡ at a p
  unfolding first_part back
  same_at p i (yes b) = rw (lt-ltb (get_or p k 0) n b) (at-build (set a.lengths k n) (at a) p (rw (set-get_or p k 0) at (kept n (get_or p k 0) p i b)))
  same_at p i (no b) =
      let x : ℕ = get_or p k 0 - n in
      let lp : k < length p = omega (arith, in-length a.lengths p i) in
      let e : get_or (set p k x) k 0 + n ≡ get_or p k 0 = omega (arith, get_or-set_same p k x 0 lp) in
      rw (le-ltb (get_or p k 0) n (omega arith))
      (at-build (set a.lengths k (axis a k - n)) (λ q. at a (set q k (get_or q k 0 + n))) (set p k x)
      (kept _ x p i (omega (arith, in-at a.lengths p k i l)))
      ∙ ap (at a) (set-set p k x _ ∙ ap (set p k) e ∙ set-get_or p k 0))

  front-back : joined_arrays k (first_part a k n) (back a k n) ≡ a
  unfolding joined_arrays
  front-back =
      ap₂ (λ x y. build (set (first_part a k n).lengths k (x + y))
      (λ p. cond (ltb (get_or p k 0) x) (at (first_part a k n) p) (at (back a k n) (set p k (get_or p k 0 - x))))) front-axis back-axis
      ∙ ap (λ t. build t (λ p. cond (ltb (get_or p k 0) n) (at (first_part a k n) p) (at (back a k n) (set p k (get_or p k 0 - n)))))
      (ap (λ s. set s k (n + (axis a k - n))) (front-lengths a k n)
      ∙ set-set a.lengths k n _
      ∙ ap (set a.lengths k) (let q : n + (axis a k - n) ≡ axis a k = omega arith in q)
      ∙ set-get_or a.lengths k 0)
      ∙ build-ext a.lengths _ (at a) (λ p i. same_at p i (dec_lt (get_or p k 0) n))
      ∙ build-at a w

-- The shape rule, carried along an equation of lengths.
rule-by : {ms ns : List ℕ} → ms ≡ ns → shape_rule (length ns) ns ≡ true → shape_rule (length ms) ms ≡ true
rule-by e h = ap (λ s. shape_rule (length s) s) e ∙ h

-- The lengths along which an axis becomes shorter.
shorter : (ns : List ℕ) (k m : ℕ) → m ≤ get_or ns k 0 → shape_rule (length ns) ns ≡ true → shape_rule (length (set ns k m)) (set ns k m) ≡ true
shorter ns k m h s = ap (λ r. shape_rule r (set ns k m)) (length-set ns k m) ∙ shorter-rule (length ns) ns k m h s

pub first-and-rest : FirstAndRest
unfolding named primitives int_same takes drops
first-and-rest G K K₁ K₂ n l₁ l₂ r out₁ out₂ out o h t n≤ s₁ s₂ room₁ room₂ room =
    let a : Array = array_of r in
    let ns : List ℕ = a.lengths in
    let k : ℕ = from_zero G K in
    let l : k < rank a = within-lt (K -ℤ G) (rank a) t in
    let w : Whole a = form-whole r h.form in
    let good : shape_rule (length ns) ns ≡ true = array-rule r h in
    let x : Array = first_part a k n in
    let y : Array = back a k n in
    let some : 0 < rank a = omega arith in
    let fs : List ℤ = firsts ns k n in
    let ds : List ℤ = lesser ns k n in
    let first : GivesArray (reply (pos 23) G K₁ l₁ r out₁) (result (takes (listed l₁ fs) a)) =
    gives (record {
      left_is = lists-array l₁ fs s₁;
      right_is = refl;
      left-form = s₁.form;
      right-form = h.form;
      origin = o;
      room = room₁;
      limit = rule-by (sizes-firsts ns k n) (shorter ns k n n≤ good);
      own = (
        ap not s₁.list,
        (
          ap (λ b. not (eqb (length fs) (rank b))) (array-as (length fs) a some)
              ∙ ap not (eq-eqb (length fs) (rank a) (length-firsts ns k n)),
          tt,
        ),
      );
    }) in
    let rest : GivesArray (reply (pos 24) G K₂ l₂ r out₂) (result (drops (listed l₂ ds) a)) =
    gives (record {
      left_is = lists-array l₂ ds s₂;
      right_is = refl;
      left-form = s₂.form;
      right-form = h.form;
      origin = o;
      room = room₂;
      limit =
          rule-by (ap (λ b. dropped_lengths ds b.lengths) (array-as (length ds) a some)
          ∙ lengths-lesser ns k n) (shorter ns k (axis a k - n) (omega arith) good);
      own = (
        ap not s₂.list,
        (
          ap (λ b. not (eqb (length ds) (rank b))) (array-as (length ds) a some)
              ∙ ap not (eq-eqb (length ds) (rank a) (length-lesser ns k n)),
          tt,
        ),
      );
    }) in
    let rx : rank x ≡ rank a = ap length (front-lengths a k n) ∙ length-set ns k n in
    let ry : rank y ≡ rank a = ap length (back-lengths a k n) ∙ length-set ns k (axis a k - n) in
    let whole : result (catenate G K x y) ≡ a = catenate-joined G K x y (omega arith) (rx ∙ sym ry) ∙ front-back a k n w l n≤ in
    let both : GivesArray (reply (pos 22) G K (given (reply (pos 23) G K₁ l₁ r out₁)) (given (reply (pos 24) G K₂ l₂ r out₂)) out) (result (catenate G K x y)) =
    gives (record {
      left_is = first.array ∙ takes_front (array_of l₁).lengths a k n some n≤;
      right_is = rest.array ∙ drops-back (array_of l₂).lengths a k n some;
      left-form = first.good.form;
      right-form = rest.good.form;
      origin = o;
      room = room;
      limit = rule-by (sym (build-lengths (catenate G K x y).lengths (catenate G K x y).element) ∙ ap (λ c. c.lengths) whole) good;
      own = catenate-none G K x y (omega arith) (rx ∙ sym ry) (ap (within (K -ℤ G)) rx ∙ t)
          (ap (without k) (back-lengths a k n) ∙ without-set ns k (axis a k - n) ∙ sym (ap (without k) (front-lengths a k n) ∙ without-set ns k n));
    }) in
    (first.number, rest.number, both.number, same-array r h both whole)
