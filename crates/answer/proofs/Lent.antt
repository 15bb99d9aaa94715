-- What is known of a lent operand.
use mathlib.Core.Path.{◌≡◌, refl, sym, ap, ◌∙◌}
use mathlib.Core.List.{List}
use mathlib.Core.Bool.{Bool, true, false, ◌&&◌}
use Prim.Native.Nat.{ℕ, ◌≤◌, ◌<◌}
use native.Mathlib.Omega.{arith}
use lib.ListN.{length, get_or}
use lib.Seq.{length-take-le, get_or-take}
use lib.Dec.{leb}
use lib.IntN.{ℤ}
use Rattle.shape.specs.declared.Shape.{Shape}
use Rattle.shape.specs.Shape.{max_rank, max_count, counted, count, good_shape, count_of, shape_rule}
use Rattle.shape.proofs.Bools.{both}
use Rattle.shape.proofs.Counts.{good-rank, count-good, count-of, good-count, bad-count}
use Rattle.shape.proofs.Made.{Stands}
use Rattle.meaning.specs.Array.{array_of, good_form}
use Rattle.meaning.specs.Terms.{rank, axis}
use Rattle.meaning.specs.Refusal.{number}
use Rattle.meaning.specs.Refusal.Refusal.{FORM, ORIGIN}
use Rattle.meaning.specs.Reply.{is_origin}
use Rattle.meaning.proofs.Arrays.{form-shape, form-room, form-whole}
use Rattle.answer.specs.Answer.{lent, WellFormed, early}
use Rattle.answer.proofs.Order.{early-first}

module _ (s : Shape) (b : List ℤ) where
  pub form-bad : max_count < count_of s → good_form (lent s b) ≡ false
  unfolding good_form
  form-bad h = rw (bad-count s h)

  pub form-by : count_of s ≤ max_count → good_form (lent s b) ≡ leb (count_of s) (length b)
  unfolding good_form
  form-by h =
      let g : good_shape s ≡ true = good-count s h in
      ap (λ t. t && leb (count (counted s)) (length b)) g ∙ ap (λ c. leb c (length b)) (sym (count-of s g))

-- The rank of an operand whose shape is good, whatever its buffer holds.
pub rank-of : (s : Shape) (b : List ℤ) → length s.lens ≡ max_rank → good_shape s ≡ true → rank (array_of (lent s b)) ≡ s.rank
rank-of s b l g = length-take-le s.rank s.lens (omega (arith, good-rank s g))

-- An operand of good form, as the program sees it.
pub record Lent (s : Shape) (b : List ℤ) : Type 0 where
  pub form : good_form (lent s b) ≡ true
  pub good : good_shape s ≡ true
  pub high : s.rank ≤ max_rank
  pub long : length s.lens ≡ max_rank
  pub rank_is : rank (array_of (lent s b)) ≡ s.rank
  pub rule : shape_rule (rank (array_of (lent s b))) (counted s) ≡ true
  pub count-is : count_of s ≡ count (counted s)
  pub count_small : count (counted s) ≤ max_count
  pub room : count (counted s) ≤ length b
  pub whole : length (array_of (lent s b)).elements ≡ count (counted s)

pub lent-good : (s : Shape) (b : List ℤ) → length s.lens ≡ max_rank → good_form (lent s b) ≡ true → Lent s b
lent-good s b l h =
    let g : good_shape s ≡ true = form-shape (lent s b) h in
    let c : count_of s ≡ count (counted s) = count-of s g in
    let high : s.rank ≤ max_rank = good-rank s g in
    let rank_is : rank (array_of (lent s b)) ≡ s.rank = rank-of s b l g in
    record {
      form = h;
      good = g;
      high = high;
      long = l;
      rank_is = rank_is;
      rule = ap (λ r. shape_rule r (counted s)) rank_is ∙ g;
      count-is = c;
      count_small = omega (arith, count-good s g);
      room = form-room (lent s b) h;
      whole = form-whole (lent s b) h;
    }

-- So is every operand that a call goes on with.
pub formed : {s : Shape} {b : List ℤ} → WellFormed s b → Lent s b
formed {s} {b} w = lent-good s b w.long w.form

-- The length of an axis that counts.
pub axis-is : (s : Shape) (b : List ℤ) (k : ℕ) → k < s.rank → axis (array_of (lent s b)) k ≡ get_or s.lens k 0
axis-is s b k h = get_or-take s.rank s.lens k 0 h

module _ {s : Shape} {b : List ℤ} (g : Lent s b) where
  -- A shape that is the operand's stands for its lengths.
  pub lent-stands : Stands s (array_of (lent s b)).lengths
  lent-stands = record { rank = sym g.rank_is; lengths = λ h. refl }

-- FORM and ORIGIN were not met.
pub record Fine (form : Bool) (G : ℤ) : Type 0 where
  pub forms : form ≡ true
  pub origin : is_origin G ≡ true

module _ (G : ℤ) where
  pub early-form : (form : Bool) → form ≡ false → early form G ≡ number FORM
  early-form form h = early-first form G ∙ rw h

  pub early-origin : (form : Bool) → form ≡ true → is_origin G ≡ false → early form G ≡ number ORIGIN
  early-origin form h o = early-first form G ∙ rw (h, o)

  pub early-none : (form : Bool) → form ≡ true → is_origin G ≡ true → early form G ≡ 0
  early-none form h o = early-first form G ∙ rw (h, o)

  pub early-left : (a b : Bool) → a ≡ false → early (a && b) G ≡ number FORM
  early-left a b h = early-form (a && b) (rw h)

  pub early-right : (a b : Bool) → a ≡ true → early (a && b) G ≡ early b G
  early-right a b h = rw h

  pub early-fine : (form : Bool) → early form G ≡ 0 → Fine form G
  early-fine form h = by form refl (is_origin G) refl h
    where
      by : (f : Bool) → form ≡ f → (o : Bool) → is_origin G ≡ o → early form G ≡ 0 → Fine form G
      by false e o t h = absurd (omega (arith, early-form form e))
      by true e false t h = absurd (omega (arith, early-origin form e t))
      by true e true t h = record { forms = e; origin = t }

-- All that a call knows where neither was met, of one operand and of two.
pub record FineOne (G : ℤ) (s : Shape) (b : List ℤ) : Type 0 where
  pub none : early (good_form (lent s b)) G ≡ 0
  pub origin : is_origin G ≡ true
  pub operand : Lent s b

pub fine-one : (G : ℤ) (s : Shape) (b : List ℤ) → length s.lens ≡ max_rank → early (good_form (lent s b)) G ≡ 0 → FineOne G s b
fine-one G s b long h =
    let f = early-fine G (good_form (lent s b)) h in
    record { none = h; origin = f.origin; operand = lent-good s b long f.forms }

pub record FineTwo (G : ℤ) (ls : Shape) (l : List ℤ) (rs : Shape) (r : List ℤ) : Type 0 where
  pub none : early (good_form (lent ls l) && good_form (lent rs r)) G ≡ 0
  pub origin : is_origin G ≡ true
  pub left : Lent ls l
  pub right : Lent rs r

pub fine-two : (G : ℤ) (ls : Shape) (l : List ℤ) (rs : Shape) (r : List ℤ) → length ls.lens ≡ max_rank → length rs.lens ≡ max_rank
    → early (good_form (lent ls l) && good_form (lent rs r)) G ≡ 0 → FineTwo G ls l rs r
fine-two G ls l rs r a b h =
    let f = early-fine G (good_form (lent ls l) && good_form (lent rs r)) h in
    let t = both (good_form (lent ls l)) (good_form (lent rs r)) f.forms in
    record { none = h; origin = f.origin; left = lent-good ls l a t.0; right = lent-good rs r b t.1 }
