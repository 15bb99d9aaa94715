-- A call of 27 or 28: what it asks, and what it gives.
use mathlib.Core.Path.{◌≡◌, refl, sym, ap, ap₂, ◌∙◌}
use mathlib.Core.List.{List, [], ◌∷◌, ◌++◌}
use mathlib.Core.Bool.{Bool, true, false, not, cond, ◌&&◌, ◌||◌, or-true}
use Prim.Native.Nat.{ℕ, ◌≤◌, ◌<◌}
use native.Mathlib.Omega.{arith}
use borrow.Author.Tests.{eq-eqb, eqb-true, not-false}
use lib.ListN.{length, get_or, drop, set, replicate, length-replicate}
use lib.Seq.{get_or-take}
use lib.Dec.{eqb}
use lib.IntN.{ℤ, pos, ◌-ℤ◌}
use Rattle.std.specs.Prelude.{Result, Ok, Err}
use Rattle.std.specs.Result.{result_and}
use Rattle.shape.specs.declared.Shape.{Shape}
use Rattle.shape.specs.Shape.{max_rank, counted, count, count_of, shape_of, with_length}
use Rattle.shape.proofs.Bools.{no_way}
use Rattle.shape.proofs.Made.{with-length-is, made-stands, stands-count}
use Rattle.meaning.specs.Array.{Operand, Array, array_of, good_form, build}
use Rattle.meaning.specs.Refusal.{Rule, ◌unless◌, number, precedence, winner, meets}
use Rattle.meaning.specs.Refusal.Refusal.{RANK, AXIS, LENGTH, DOMAIN}
use Rattle.meaning.specs.Terms.{rank, axis, as_vector, is_list, within, from_zero, int_same, every, is_bit}
use Rattle.meaning.specs.Primitives.{Meaning, compress, expand}
use Rattle.meaning.specs.Reply.{primitives, named}
use Rattle.meaning.proofs.Positions.{within-below}
use Rattle.meaning.proofs.Winner.{neither, unmet, first_met, or_else, else-first, first-append}
use Rattle.answer.specs.Answer.{lent, WellFormed, early, own}
use Rattle.answer.specs.Refused.{meant, asked}
use Rattle.answer.specs.declared.refusal.Refusal as code
use Rattle.answer.proofs.Exits.{number-some}
use Rattle.answer.proofs.Lent.{Lent, formed, rank-of}
use Rattle.answer.proofs.Order.{Names, Own, own_first, Ready, Roomy}
use Rattle.masks.specs.Steps.Actions.{action_number, masking, vector_shape, repeats, mask_fits, mask_rules, mask_of, suits, width, takes_at, taken}
use Rattle.masks.specs.Steps.Actions.{mask_element, Masked}
use Rattle.masks.proofs.Vectors.{read-good, read-long, read-lent, read-array, read-alone}

-- In turn: L is a list, K names an axis, and what the mask can meet.
abbrev pub mask_order : Bool → Bool → Bool → List Rule → ℕ
mask_order a list inside rules = or_else (first_met (RANK unless list ∷ AXIS unless inside ∷ [])) (own (action_number a) rules)

in-turn : (n : ℕ) (front rest : List Rule) → Own n (front ++ rest) → Own n rest → own n (front ++ rest) ≡ or_else (first_met front) (own n rest)
in-turn n front rest h k = own_first n (front ++ rest) h ∙ first-append front rest ∙ ap (or_else (first_met front)) (sym (own_first n rest k))

-- What the two tests of a mask come to: 27 asks LENGTH first, 28 DOMAIN.
abbrev mask-asks : Bool → Bool → Bool → ℕ
mask-asks a fits bits = own (action_number a) (LENGTH unless fits ∷ DOMAIN unless bits ∷ [])

compress-turn : (f d : Bool) → or_else (cond f 0 (number LENGTH)) (cond d 0 (number DOMAIN)) ≡ mask-asks false f d
unfolding precedence winner meets
compress-turn true true = refl
compress-turn true false = refl
compress-turn false d = refl

expand-turn : (f d : Bool) → or_else (cond d 0 (number DOMAIN)) (cond f 0 (number LENGTH)) ≡ mask-asks true f d
unfolding precedence winner meets
expand-turn true true = refl
expand-turn false true = refl
expand-turn true false = refl
expand-turn false false = refl

module _ {a : Bool} {f d : Bool} (repeated : Bool) (l : List ℤ) (n : ℕ) (fits : f ≡ mask_fits a repeated l n) (bits : d ≡ every is_bit l) where
  told : {x : Bool} → a ≡ x → mask-asks x f d ≡ own (action_number a) (mask_rules a repeated l n)
  told is = ap (λ (y : Bool). mask-asks y f d) (sym is) ∙ ap₂ (mask-asks a) fits bits

  pub compress-told : a ≡ false → or_else (cond f 0 (number LENGTH)) (cond d 0 (number DOMAIN)) ≡ own (action_number a) (mask_rules a repeated l n)
  compress-told is = compress-turn f d ∙ told is

  pub expand-told : a ≡ true → or_else (cond d 0 (number DOMAIN)) (cond f 0 (number LENGTH)) ≡ own (action_number a) (mask_rules a repeated l n)
  expand-told is = expand-turn f d ∙ told is

-- Two tests, one after the other.
pub and-asked : {A B : Type 0} (x : Result A code.Refusal) (y : Result B code.Refusal) → asked (result_and x y) ≡ or_else (asked x) (asked y)
unfolding asked
and-asked (Ok u) y = refl
and-asked (Err e) y = sym (else-first (number (meant e)) _ (number-some e))

-- What is known where nothing of that is met.
pub record Accepts (a : Bool) (repeated inside : Bool) (l : List ℤ) (n : ℕ) : Type 0 where
  pub has : inside ≡ true
  pub fitting : mask_fits a repeated l n ≡ true

holds : (b : Bool) → (not b || false) ≡ false → b ≡ true
holds b h = not-false b (neither (not b) false h).0

module _ (G K : ℤ) (L R : Operand) where
  abbrev l : List ℤ
  l = (array_of L).elements

  abbrev w : Array
  w = as_vector (array_of R)

  abbrev first : List Rule
  first = RANK unless is_list (array_of L) ∷ AXIS unless within (K -ℤ G) (rank w) ∷ []

  pub mask-names : (a : Bool) → Names (action_number a) 2 G K L R (masking a G K (array_of L) (array_of R))
  unfolding primitives named int_same masking compress expand precedence
  mask-names false = record { number = refl; arity = refl; meaning = refl; own = refl }
  mask-names true = record { number = refl; arity = refl; meaning = refl; own = refl }

  -- What it asks, in turn, and what the result is.
  pub masking-own : (a : Bool) → own (action_number a) (masking a G K (array_of L) (array_of R)).refusals
      ≡ mask_order a (is_list (array_of L)) (within (K -ℤ G) (rank w)) (mask_rules a (repeats a (rank (array_of R))) l (axis w (from_zero G K)))
  unfolding masking compress expand mask_fits precedence winner meets
  masking-own false = in-turn 27 first (drop 2 (masking false G K (array_of L) (array_of R)).refusals) (mask-names false).own refl
  masking-own true = in-turn 28 first (drop 2 (masking true G K (array_of L) (array_of R)).refusals) (mask-names true).own refl

  accepts : (a : Bool) → own (action_number a) (masking a G K (array_of L) (array_of R)).refusals ≡ 0
      → Accepts a (repeats a (rank (array_of R))) (within (K -ℤ G) (rank w)) l (axis w (from_zero G K))
  unfolding masking compress expand mask_fits meets
  accepts false h = record { has = holds _ (unmet 27 _ h AXIS); fitting = holds _ (unmet 27 _ h LENGTH) }
  accepts true h = record { has = holds _ (unmet 28 _ h AXIS); fitting = holds _ (unmet 28 _ h LENGTH) }

  masking-lengths : (a : Bool) → (masking a G K (array_of L) (array_of R)).lengths
      ≡ set w.lengths (from_zero G K) (width a (mask_of a l (axis w (from_zero G K))))
  unfolding masking compress expand mask_of width
  masking-lengths false = refl
  masking-lengths true = refl

  masking-element : (a : Bool) → (masking a G K (array_of L) (array_of R)).element ≡ mask_element a (repeats a (rank (array_of R))) l w (from_zero G K)
  unfolding masking compress expand mask_of takes_at taken
  masking-element false = refl
  masking-element true = refl

-- What it asks, by the shape s that R is read with.
pub mask-own : (a : Bool) (G K : ℤ) (L : Operand) {R : Operand} {rs s : Shape} {b : List ℤ} → WellFormed rs b → lent rs b ≡ R → s ≡ vector_shape rs
    → own (action_number a) (masking a G K (array_of L) (array_of R)).refusals
    ≡ mask_order a (is_list (array_of L)) (within (K -ℤ G) s.rank)
    (mask_rules a (repeats a rs.rank) (array_of L).elements (get_or (counted s) (from_zero G K) 0))
mask-own a G K L {R} {rs} {s} {b} f v read =
    let g = formed f in
    let k : ℕ = from_zero G K in
    let rules : ℕ → ℕ → List Rule = λ n m. mask_rules a (repeats a n) (array_of L).elements m in
    ap (λ o. own (action_number a) (masking a G K (array_of L) (array_of o)).refusals) (sym v)
    ∙ masking-own G K L (lent rs b) a
    ∙ ap₂ (λ (w : Array) n. mask_order a (is_list (array_of L)) (within (K -ℤ G) (rank w)) (rules n (axis w k))) (read-array rs read b g.rank_is) g.rank_is
    ∙ ap (λ n. mask_order a (is_list (array_of L)) (within (K -ℤ G) n) (rules rs.rank (get_or (counted s) k 0)))
    (rank-of s b (read-long rs read g.long) (read-good rs read g.good))

-- A mask that fits suits the axis with an element for each position.
mask-suits : (a : Bool) (l : List ℤ) (n : ℕ) → mask_fits a false l n ≡ true → suits a (mask_of a l n) n ≡ true
unfolding mask_fits suits mask_of
mask-suits true l n h = h
mask-suits false l n h = by (eqb (length l) 1) h
  where
    by : (b : Bool) → (b || eqb n 1 || eqb (length l) n) ≡ true → (eqb n 1 || eqb (length (cond b (replicate n (get_or l 0 (pos 0))) l)) n) ≡ true
    by true h = rw (eq-eqb _ n (length-replicate n (get_or l 0 (pos 0)))) (or-true (eqb n 1))
    by false h = h

repeats-alone : (a : Bool) (n : ℕ) → repeats a n ≡ true → (a ≡ true) × (n ≡ 0)
repeats-alone false n h = no_way h
repeats-alone true n h = (refl, eqb-true n 0 h)

alike : (P : List ℤ → ℕ → Array → ℕ → Type 0) {l l' : List ℤ} {n n' : ℕ} {w w' : Array} {k k' : ℕ} → l ≡ l' → n ≡ n' → w ≡ w' → k ≡ k'
    → P l n w k → P l' n' w' k'
alike P e f g h p = rw (e, f, g, h) at p

-- What is known of a call where FORM, ORIGIN and its own refusals are not met: s is the shape that R is read with, l the mask.
pub record Known (a : Bool) (G K : ℤ) (L : Operand) (rs : Shape) (l r : List ℤ) (s : Shape) (axis : ℕ) : Type 0 where
  pub fine : early (good_form L && good_form (lent rs r)) G ≡ 0
  pub right : Lent rs r
  pub none : own (action_number a) (masking a G K (array_of L) (array_of (lent rs r))).refusals ≡ 0
  pub read : s ≡ vector_shape rs
  pub axis-is : axis ≡ from_zero G K
  pub mask : l ≡ (array_of L).elements

module _ {a : Bool} {G K : ℤ} {L : Operand} {rs : Shape} {l r : List ℤ} {s : Shape} {axis : ℕ} (d : Known a G K L rs l r s axis) where
  abbrev given : Meaning
  given = masking a G K (array_of L) (array_of (lent rs r))

  abbrev right : Array
  right = array_of (lent s r)

  abbrev rep : Bool
  rep = repeats a rs.rank

  good : Lent s r
  good = read-lent rs d.read r d.right

  -- The mask, R and its rank, and the axis, as the program sees them.
  seen : (P : List ℤ → ℕ → Array → ℕ → Type 0)
      → P (array_of L).elements (rank (array_of (lent rs r))) (as_vector (array_of (lent rs r))) (from_zero G K)
      → P l rs.rank right axis
  seen P x =
      let h = d.right.rank_is in
      alike P (sym d.mask) h (read-array rs d.read r h) (sym d.axis-is) x

  known : Accepts a rep (within (K -ℤ G) (rank right)) l (get_or (counted s) axis 0)
  known =
      seen (λ l n w k. Accepts a (repeats a n) (within (K -ℤ G) (rank w)) l (get_or w.lengths k 0))
      (accepts G K L (lent rs r) a d.none)

  pub known-has : axis < s.rank
  known-has = within-below _ _ _ _ good.rank_is d.axis-is known.has

  pub known-high : s.rank ≤ max_rank
  known-high = good.high

  -- The result has m positions, by what `width_of` answered.
  module _ {m : ℕ} (w : m ≡ width a (mask_of a l (get_or s.lens axis 0))) where
    wide : m ≡ width a (mask_of a l (get_or (counted s) axis 0))
    wide = w ∙ ap (λ n. width a (mask_of a l n)) (sym (get_or-take s.rank s.lens axis 0 known-has))

    lengths-are : given.lengths ≡ set (counted s) axis m
    lengths-are =
        seen (λ l n w k. given.lengths ≡ set w.lengths k (width a (mask_of a l (get_or w.lengths k 0))))
        (masking-lengths G K L (lent rs r) a)
        ∙ ap (set (counted s) axis) (sym wide)

    module _ {shape : Shape} (made : shape ≡ with_length s axis m) where
      pub shape_is : shape ≡ shape_of given.lengths
      shape_is = made ∙ with-length-is s axis m good.high known-has ∙ ap shape_of (sym lengths-are)

      pub known-ready : Ready (action_number a) 2 G K L (lent rs r) (given) shape
      known-ready =
          record { names = mask-names G K L (lent rs r) a; fine = d.fine; none = d.none; stands = made-stands shape _ shape_is }

      module _ {total room : ℕ} (t : total ≡ count_of shape) (roomy : Roomy shape room) where
        whole : count given.lengths ≡ total
        whole = sym (t ∙ stands-count known-ready.stands roomy.good)

        pub known-masked : Masked a rep l s axis m total r room
        known-masked = record {
          form = good.form;
          has = known-has;
          whole = ap count (sym lengths-are) ∙ whole;
          small = omega (arith, roomy.small);
          space = omega (arith, roomy.space);
          wide = wide;
          fitting = λ e. mask-suits a l _ (ap (λ x. mask_fits a x l (get_or (counted s) axis 0)) (sym e) ∙ known.fitting);
          alone = λ e. let x = repeats-alone a rs.rank e in (x.0, read-alone rs d.read x.1);
        }

        pub known_out : (out : List ℤ) → (build (set (counted s) axis m) (mask_element a rep l right axis)).elements ++ drop total out
            ≡ (build given.lengths given.element).elements ++ drop (count given.lengths) out
        known_out out =
            let same = seen (λ l n w k. given.element ≡ mask_element a (repeats a n) l w k) (masking-element G K L (lent rs r) a) in
            ap₂ (λ x f. (build x f).elements ++ drop total out) (sym lengths-are) (sym same)
            ∙ ap (λ n. (build given.lengths given.element).elements ++ drop n out) (sym whole)
