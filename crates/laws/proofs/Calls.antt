-- Calls that succeed, and calls that follow them, with the primitive open.
use mathlib.Core.Path.{◌≡◌, sym, ap, ap₂, subst₂, ◌∙◌}
use mathlib.Core.List.{List, [], ◌∷◌, ◌++◌}
use mathlib.Core.Bool.{true, ◌||◌}
use Prim.Native.Nat.{ℕ, ◌-◌}
use native.Mathlib.Omega.{arith}
use borrow.Author.Tests.{le-leb, eqb-true}
use lib.ListN.{length, get_or, take, drop, replicate, length-append, length-replicate}
use lib.Seq.{take_at, length-take-le}
use lib.Dec.{eqb, leb}
use lib.IntN.{ℤ, pos}
use Rattle.shape.specs.Shape.{max_rank, count, shape_rule, shape_of}
use Rattle.shape.proofs.Bools.{both}
use Rattle.shape.proofs.Rule.{rule-rank}
use Rattle.shape.proofs.Made.{made_counted}
use Rattle.meaning.specs.Array.{Operand, Array, array_of, good_form, build}
use Rattle.meaning.specs.Terms.{rank, is_list}
use Rattle.meaning.specs.Primitives.{Meaning}
use Rattle.meaning.specs.Reply.{Reply, primitives, named, meaning_of, settle, reply}
use Rattle.meaning.proofs.Arrays.{build-whole, form-shape}
use Rattle.meaning.proofs.Replies.{NoneMet, Passes, success}
use Rattle.laws.specs.Words.{IsArray, IsOrigin, IsLong, given, Succeeds, Same, Lists, IsSingle, occurs, AsOften}

-- The result of a meaning.
abbrev pub result : Meaning → Array
result m = build m.lengths m.element

-- An array has as many lengths as its rank says.
pub array-rank : (r : Operand) → IsArray r → rank (array_of r) ≡ r.shape.rank
array-rank r h = length-take-le _ r.shape.lens (omega (arith, h.lengths, rule-rank _ _ (form-shape r h.form)))

-- So its lengths keep the shape rule.
pub array-rule : (r : Operand) → IsArray r → shape_rule (rank (array_of r)) (array_of r).lengths ≡ true
array-rule r h = rw (array-rank r h) (form-shape r h.form)

-- A reply that gives the array a.
pub record GivesArray (y : Reply) (a : Array) : Type 0 where
  pub number : Succeeds y
  pub rank : y.shape.rank ≡ length a.lengths
  pub array : array_of (given y) ≡ a
  pub good : IsArray (given y)

module _ (y : Reply) (ns : List ℕ) (xs out : List ℤ) (e : y ≡ record { number = 0; shape = shape_of ns; out = xs ++ drop (count ns) out })
    (w : length xs ≡ count ns) (h : shape_rule (length ns) ns ≡ true) where
  given-array : array_of (given y) ≡ record { lengths = ns; elements = xs }
  given-array =
      ap (λ a. array_of (given a)) e
      ∙ ap₂ (λ l c. record { lengths = l; elements = take c (xs ++ drop (count ns) out) }) (made_counted ns) (ap count (made_counted ns))
      ∙ ap (λ v. record { lengths = ns; elements = v }) (take_at xs (drop (count ns) out) (count ns) w)

  long : length (ns ++ replicate {A = ℕ} (max_rank - length ns) 0) ≡ max_rank
  long = length-append ns _ ∙ (rw length-replicate (omega (arith, rule-rank _ ns h)))

  given-good : IsArray (given y)
  unfolding good_form
  given-good = rw e (record {
    lengths = long;
    form =
        rw (made_counted ns, h)
        (le-leb (count ns) (length (xs ++ drop (count ns) out)) (rw (length-append xs (drop (count ns) out)) (omega (arith, w))));
  })

  settled : GivesArray y (record { lengths = ns; elements = xs })
  settled = record { number = ap (λ a. a.number) e; rank = ap (λ a. a.shape.rank) e; array = given-array; good = given-good }

-- A call gives the primitive's result where nothing is met.
gives-own : (n G K : ℤ) (L R : Operand) (out : List ℤ) → IsLong n G K L R out → Passes (named n primitives) G L R (meaning_of n G K L R)
    → GivesArray (reply n G K L R out) (result (meaning_of n G K L R))
unfolding settle build
gives-own n G K L R out room f =
    let m : Meaning = meaning_of n G K L R in
    settled (reply n G K L R out) m.lengths (result m).elements out (success n G K L R out f room) (build-whole m.lengths m.element) f.limit

-- Nothing refuses a call whose operands hold the arrays A and B.
pub record Unrefused (n G K : ℤ) (L R : Operand) (out : List ℤ) (A B : Array) : Type 0 where
  pub left_is : array_of L ≡ A
  pub right_is : array_of R ≡ B
  pub left-form : (leb (named n primitives).operands 1 || good_form L) ≡ true
  pub right-form : good_form R ≡ true
  pub origin : IsOrigin G
  pub room : IsLong n G K L R out
  pub limit : let ns : List ℕ = ((named n primitives).meaning G K A B).lengths in shape_rule (length ns) ns ≡ true
  pub own : NoneMet ((named n primitives).meaning G K A B).refusals

-- It gives the primitive's result for them.
pub gives : {n G K : ℤ} {L R : Operand} {out : List ℤ} {A B : Array} → Unrefused n G K L R out A B
    → GivesArray (reply n G K L R out) (result ((named n primitives).meaning G K A B))
gives {n} {G} {K} {L} {R} {out} h =
    let m : Array → Array → Meaning = (named n primitives).meaning G K in
    subst₂ (λ A B. Passes (named n primitives) G L R (m A B) → GivesArray (reply n G K L R out) (result (m A B))) h.left_is h.right_is
    (gives-own n G K L R out h.room)
    (record { left = h.left-form; right = h.right-form; origin = h.origin; limit = h.limit; own = h.own })

-- Two replies that give one array are the same.
pub same-arrays : {y z : Reply} {a b : Array} → GivesArray y a → GivesArray z b → a ≡ b → Same (given y) (given z)
same-arrays {y} {z} {a} {b} g h e =
    let q : array_of (given y) ≡ array_of (given z) = g.array ∙ e ∙ sym h.array in
    record { rank = g.rank ∙ ap (λ c. length c.lengths) e ∙ sym h.rank; lengths = ap (λ c. c.lengths) q; elements = ap (λ c. c.elements) q }

-- A reply that gives the array of r.
pub same-array : {y : Reply} {a : Array} (r : Operand) → IsArray r → GivesArray y a → a ≡ array_of r → Same (given y) r
same-array {y} {a} r h g e =
    let q : array_of (given y) ≡ array_of r = g.array ∙ e in
    record { rank = g.rank ∙ ap (λ c. length c.lengths) e ∙ array-rank r h; lengths = ap (λ c. c.lengths) q; elements = ap (λ c. c.elements) q }

-- What a reply gives holds each number as often as r.
pub as-often : {y : Reply} {b : Array} (r : Operand) → GivesArray y b → ((x : ℤ) → occurs x b.elements ≡ occurs x (array_of r).elements)
    → AsOften (given y) r
as-often r g f x = ap (λ c. occurs x c.elements) g.array ∙ f x

-- A single lists its element.
pub single-lists : (l : Operand) (a : ℤ) → IsSingle l a → Lists l (a ∷ [])
single-lists l a s =
    let w = both (is_list (array_of l)) (eqb (length (array_of l).elements) 1) s.single in
    record { form = s.form; list = w.0; elements = one (array_of l).elements (eqb-true (length (array_of l).elements) 1 w.1) s.element }
  where
    one : (xs : List ℤ) → length xs ≡ 1 → get_or xs 0 (pos 0) ≡ a → xs ≡ a ∷ []
    one [] e q = absurd (omega arith)
    one (x ∷ []) e q = ap (λ y. y ∷ []) q
    one (x ∷ (y ∷ xs)) e q = absurd (omega arith)

-- The array of an operand that lists xs.
abbrev pub listed : Operand → List ℤ → Array
listed l xs = record { lengths = (array_of l).lengths; elements = xs }

pub lists-array : (l : Operand) (xs : List ℤ) → Lists l xs → array_of l ≡ listed l xs
lists-array l xs s = ap (λ v. record { lengths = (array_of l).lengths; elements = v }) s.elements
