-- Law 5: ravelled elements reshaped to the old lengths.
use mathlib.Core.Path.{◌≡◌, refl, ap, ◌∙◌}
use mathlib.Core.List.{List, [], ◌∷◌, map}
use mathlib.Core.Bool.{true, not}
use Prim.Native.Nat.{ℕ, ◌/◌, ◌%◌}
use native.Mathlib.Nat.{mod-eq_of_lt, div-one, mul-one}
use lib.ListN.{length, get_or}
use lib.IntN.{pos, nat_abs}
use Rattle.shape.specs.Shape.{count}
use Rattle.shape.specs.Place.{index, place}
use Rattle.shape.proofs.Places.{index-lt}
use Rattle.shape.proofs.Rule.{rule-count, vector-rule}
use Rattle.meaning.specs.Array.{Operand, Array, array_of, at, tab, build}
use Rattle.meaning.specs.Terms.{int_same, negative, every}
use Rattle.meaning.specs.Primitives.{ravel, reshape}
use Rattle.meaning.specs.Reply.{primitives, named, reply}
use Rattle.meaning.proofs.Tab.{tab-ext, tab-get_or}
use Rattle.meaning.proofs.Arrays.{Whole, build-ext, build-at, form-whole}
use Rattle.laws.specs.Words.{given}
use Rattle.laws.specs.Laws.{RavelledReshaped}
use Rattle.laws.proofs.Calls.{result, array-rule, GivesArray, gives, same-array, listed, lists-array}

-- Sizes of numbers that are not negative.
pub sizes-pos : (p : List ℕ) → map nat_abs (map pos p) ≡ p
sizes-pos [] = refl
sizes-pos (i ∷ p) = ap (λ q. i ∷ q) (sizes-pos p)

pub not_negative : (p : List ℕ) → every (λ z. not (negative z)) (map pos p) ≡ true
unfolding every negative
not_negative [] = refl
not_negative (i ∷ p) = not_negative p

-- 12 gives the elements as a vector.
ravel-is : (a : Array) → result (ravel a) ≡ record { lengths = length a.elements ∷ []; elements = a.elements }
unfolding ravel build count place
ravel-is a =
    ap (λ xs. record { lengths = length a.elements ∷ []; elements = xs })
    (ap (λ n. tab n (λ j. get_or a.elements (j / 1) (pos 0))) (mul-one (length a.elements))
    ∙ tab-ext (length a.elements) _ _ (λ j h. ap (λ i. get_or a.elements i (pos 0)) (div-one j))
    ∙ tab-get_or a.elements (pos 0))

-- 21 by the lengths of a, of a's own elements.
reshape-is : (l ns : List ℕ) (a : Array) → Whole a
    → result (reshape (record { lengths = l; elements = map pos a.lengths }) (record { lengths = ns; elements = a.elements })) ≡ a
unfolding reshape at
reshape-is l ns a w =
    ap (λ s. build s (λ p. get_or a.elements (index s p % length a.elements) (pos 0))) (sizes-pos a.lengths)
    ∙ build-ext a.lengths _ (at a) (λ p i. ap (λ j. get_or a.elements j (pos 0)) (mod-eq_of_lt (rw w (index-lt a.lengths p i))))
    ∙ build-at a w

pub ravelled-reshaped : RavelledReshaped
unfolding named primitives int_same ravel reshape
ravelled-reshaped G K₁ K₂ l₁ l r out₁ out o h s room₁ room =
    let a : Array = array_of r in
    let w : Whole a = form-whole r h.form in
    let once : Operand = given (reply (pos 12) G K₁ l₁ r out₁) in
    let first : GivesArray (reply (pos 12) G K₁ l₁ r out₁) (result (ravel a)) =
    gives (record {
      left_is = refl;
      right_is = refl;
      left-form = refl;
      right-form = h.form;
      origin = o;
      room = room₁;
      limit = vector-rule (length a.elements) (rw w (rule-count _ _ (array-rule r h)));
      own = tt;
    }) in
    let line : Array = record { lengths = length a.elements ∷ []; elements = a.elements } in
    let held : array_of once ≡ line = first.array ∙ ravel-is a in
    let second : GivesArray (reply (pos 21) G K₂ l once out) (result (reshape (listed l (map pos a.lengths)) line)) =
    gives (record {
      left_is = lists-array l _ s;
      right_is = held;
      left-form = s.form;
      right-form = first.good.form;
      origin = o;
      room = room;
      limit = rw (sizes-pos a.lengths) (array-rule r h);
      own = (ap not s.list, (ap not (not_negative a.lengths), tt));
    }) in
    (first.number, second.number, same-array r h second (reshape-is (array_of l).lengths (length a.elements ∷ []) a w))
