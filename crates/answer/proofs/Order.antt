-- A reply by the order in which a call asks, with the primitive open.
use mathlib.Core.Path.{◌≡◌, refl, sym, ap, ap₂, ◌∙◌}
use mathlib.Core.List.{List, [], ◌∷◌, ◌++◌}
use mathlib.Core.Bool.{Bool, true, false, not, cond, ◌&&◌, ◌||◌}
use Prim.Native.Nat.{ℕ, zero, suc, ◌≤◌}
use native.Mathlib.Omega.{arith}
use borrow.Author.Tests.{le-leb, lt-leb, leb-true}
use lib.ListN.{length, drop}
use lib.Dec.{leb}
use lib.IntN.{ℤ, pos}
use Rattle.shape.specs.declared.Shape.{Shape}
use Rattle.shape.specs.Shape.{max_count, count, count_of, good_shape, shape_rule, shape_of, made_of, scalar}
use Rattle.shape.proofs.Bools.{both}
use Rattle.shape.proofs.Counts.{good-count, count-good, count-bad}
use Rattle.shape.proofs.Made.{Stands, stands-rule, stands-count, stands-made}
use Rattle.meaning.specs.Array.{Operand, good_form, build}
use Rattle.meaning.specs.Refusal.{Refusal, Rule, ◌unless◌, number, precedence, winner}
use Rattle.meaning.specs.Refusal.Refusal.{FORM, ORIGIN, LIMIT, SPACE}
use Rattle.meaning.specs.Primitives.{Meaning}
use Rattle.meaning.specs.Reply.{Reply, primitives, named, is_origin, result_rules, refusals, meaning_of, settle, reply}
use Rattle.meaning.proofs.Winner.{has, from, sorted, first_met, winner-first, or_else, else-first, first-append}
use Rattle.answer.specs.Answer.{early, own, late, answer_of, accepted, Replied}
use Rattle.answer.specs.Refused.{answered}
use Rattle.answer.specs.declared.Answer.{Answer}
use Rattle.answer.proofs.Exits.{Refuses}
use Rattle.std.specs.Prelude.{Ok}

-- What is asked before a primitive's own refusals, and after them.
pub early-first : (form : Bool) (G : ℤ) → early form G ≡ cond (not form) (number FORM) (cond (not (is_origin G)) (number ORIGIN) 0)
unfolding early precedence
early-first form G = winner-first 0 (FORM unless form ∷ ORIGIN unless is_origin G ∷ []) refl

pub late-first : (n room : ℕ) → late n room ≡ cond (not (leb n max_count)) (number LIMIT) (cond (not (leb n room)) (number SPACE) 0)
unfolding late precedence
late-first n room = winner-first 0 (LIMIT unless leb n max_count ∷ SPACE unless leb n room ∷ []) refl

-- A primitive's own refusals stand in the order in which they win, after FORM and ORIGIN and before LIMIT and SPACE: one computed test.
abbrev around : List Rule → List Rule
around rules = FORM unless true ∷ FORM unless true ∷ ORIGIN unless true ∷ (rules ++ (LIMIT unless true ∷ SPACE unless true ∷ []))

abbrev pub Own : ℕ → List Rule → Type 0
Own n rules = (sorted (precedence n) rules && sorted (precedence n) (around rules)) ≡ true

pub own_first : (n : ℕ) (rules : List Rule) → Own n rules → own n rules ≡ first_met rules
own_first n rules h = winner-first n rules (both (sorted (precedence n) rules) (sorted (precedence n) (around rules)) h).0

-- Whether the rules are met does not count.
sorted-alike : (xs : List Refusal) (rules : List Rule) (a b : Bool)
    → sorted xs (rules ++ (LIMIT unless true ∷ SPACE unless true ∷ [])) ≡ sorted xs (rules ++ (LIMIT unless a ∷ SPACE unless b ∷ []))
sorted-alike xs [] a b = refl
sorted-alike xs (r ∷ rules) a b = ap (λ t. has xs r.refusal && t) (sorted-alike (from r.refusal xs) rules a b)

-- FORM, of either operand, and ORIGIN, and then what comes after.
in-turn : (a b o : Bool) (w : ℕ)
    → cond (not a) (number FORM) (cond (not b) (number FORM) (cond (not o) (number ORIGIN) w))
    ≡ or_else (cond (not (a && b)) (number FORM) (cond (not o) (number ORIGIN) 0)) w
in-turn true true true w = refl
in-turn true true false w = refl
in-turn true false o w = refl
in-turn false b o w = refl

-- FORM and ORIGIN, as a call of a primitive with so many operands asks them.
abbrev pub early_of : ℕ → ℤ → Operand → Operand → ℕ
early_of operands G L R = early ((leb operands 1 || good_form L) && good_form R) G

-- A call's primitive: number n of the table, which takes so many operands and means m.
pub record Names (n operands : ℕ) (G K : ℤ) (L R : Operand) (m : Meaning) : Type 0 where
  pub number : (named (pos n) primitives).number ≡ n
  pub arity : (named (pos n) primitives).operands ≡ operands
  pub meaning : meaning_of (pos n) G K L R ≡ m
  pub own : Own n m.refusals

-- The replies of a call whose primitive is named: each refusal where nothing before it was met, and the success.
abbrev refused_reply : ℕ → List ℤ → Reply
refused_reply n out = record { number = n; shape = scalar; out = out }

abbrev given_reply : Meaning → List ℤ → Reply
given_reply m out = record {
  number = 0;
  shape = shape_of m.lengths;
  out = (build m.lengths m.element).elements ++ drop (count m.lengths) out;
}

refused-is : (w : ℕ) (m : Meaning) (out : List ℤ) → (w ≡ 0 → ⊥) → settle w m out ≡ refused_reply w out
unfolding settle
refused-is zero m out h = absurd (h refl)
refused-is (suc w) m out h = refl

-- By whether the shape rule is kept, and whether there is room.
abbrev by_tests : Bool → Bool → ℕ
by_tests rule room = cond (not rule) (number LIMIT) (cond (not room) (number SPACE) 0)

-- What LIMIT and SPACE come to for a shape that stands for the result's lengths.
late_is : {s : Shape} {ns : List ℕ} (room : ℕ) → Stands s ns → late (count_of s) room ≡ first_met (result_rules ns room)
unfolding count_of
late_is {s} {ns} room h = late-first (count_of s) room ∙ by (good_shape s) refl
  where
    by : (g : Bool) → good_shape s ≡ g → by_tests (leb (count_of s) max_count) (leb (count_of s) room) ≡ first_met (result_rules ns room)
    by true g =
        ap₂ (λ a c. by_tests a (leb c room)) (le-leb (count_of s) max_count (count-good s g)) (stands-count h g)
        ∙ ap (λ a. by_tests a (leb (count ns) room)) (sym g ∙ stands-rule h)
    by false g =
        ap (λ a. by_tests a (leb (count_of s) room)) (lt-leb (count_of s) max_count (omega (arith, count-bad s g)))
        ∙ ap (λ a. by_tests a (leb (count ns) room)) (sym g ∙ stands-rule h)

-- What a call of a primitive with so many operands asks, in turn.
abbrev rules_of : ℕ → ℤ → Operand → Operand → Meaning → ℕ → List Rule
rules_of operands G L R m room =
    FORM unless (leb operands 1 || good_form L) ∷ FORM unless good_form R ∷ ORIGIN unless is_origin G ∷ (m.refusals ++ result_rules m.lengths room)

sorted-rules : (n operands : ℕ) (G : ℤ) (L R : Operand) (m : Meaning) (room : ℕ) → Own n m.refusals
    → sorted (precedence n) (rules_of operands G L R m room) ≡ true
sorted-rules n operands G L R m room o =
    let xs : List Refusal = precedence n in
    ap (λ t. has xs FORM && (has (from FORM xs) FORM && (has (from FORM (from FORM xs)) ORIGIN && t)))
    (sym (sorted-alike (from ORIGIN (from FORM (from FORM xs))) m.refusals (shape_rule (length m.lengths) m.lengths) (leb (count m.lengths) room)))
    ∙ (both (sorted xs m.refusals) (sorted xs (around m.refusals)) o).1

module _ {n operands : ℕ} {G K : ℤ} {L R : Operand} {m : Meaning} (names : Names n operands G K L R m) (out : List ℤ) where
  abbrev late-rules : List Rule
  late-rules = result_rules m.lengths (length out)

  -- A call's number, in the order in which it asks.
  number_is : winner (precedence (named (pos n) primitives).number) (refusals (named (pos n) primitives) G L R (meaning_of (pos n) G K L R) (length out))
      ≡ or_else (early_of operands G L R) (or_else (own n m.refusals) (first_met late-rules))
  unfolding refusals
  number_is =
      ap₂ (λ x y. winner (precedence x) (rules_of (named (pos n) primitives).operands G L R y (length out))) names.number names.meaning
      ∙ ap (λ x. winner (precedence n) (rules_of x G L R m (length out))) names.arity
      ∙ winner-first n (rules_of operands G L R m (length out)) (sorted-rules n operands G L R m (length out) names.own)
      ∙ in-turn (leb operands 1 || good_form L) (good_form R) (is_origin G) (first_met (m.refusals ++ late-rules))
      ∙ ap₂ or_else (sym (early-first ((leb operands 1 || good_form L) && good_form R) G))
      (first-append m.refusals late-rules ∙ ap (λ x. or_else x (first_met late-rules)) (sym (own_first n m.refusals names.own)))

  -- The number that the order of asking gives, and the reply.
  abbrev in_order : ℕ
  in_order = or_else (early_of operands G L R) (or_else (own n m.refusals) (first_met late-rules))

  abbrev replied : Reply
  replied = reply (pos n) G K L R out

  reply-is : (w : ℕ) → in_order ≡ w → replied ≡ settle w m out
  unfolding reply
  reply-is w e = ap₂ (λ v y. settle v y out) (number_is ∙ e) names.meaning

  refused-reply : (a : Answer) (w : ℕ) → Refuses a w → in_order ≡ w → Replied a out replied
  refused-reply a w e h =
      let q : replied ≡ refused_reply w out = reply-is w h ∙ refused-is w m out e.some in
      record { answer = e.is ∙ sym (ap answer_of q); buffer = sym (ap (λ y. y.out) q) }

  -- Early: a number that is not 0, of FORM and ORIGIN.
  pub early-replied : {a : Answer} {w : ℕ} → Refuses a w → w ≡ early_of operands G L R → Replied a out replied
  early-replied {a} {w} e q =
      refused-reply a w e (ap (λ x. or_else x (or_else (own n m.refusals) (first_met late-rules))) (sym q) ∙ else-first w _ e.some)

  module _ (fine : early_of operands G L R ≡ 0) where
    -- Own: of the primitive's.
    pub own-replied : {a : Answer} {w : ℕ} → Refuses a w → w ≡ own n m.refusals → Replied a out replied
    own-replied {a} {w} e q =
        refused-reply a w e (ap₂ (λ x y. or_else x (or_else y (first_met late-rules))) fine (sym q) ∙ else-first w _ e.some)

-- All that is known of a call where neither FORM nor ORIGIN nor a refusal of the primitive's own was met: s stands for the result's lengths.
pub record Ready (n operands : ℕ) (G K : ℤ) (L R : Operand) (m : Meaning) (s : Shape) : Type 0 where
  pub names : Names n operands G K L R m
  pub fine : early_of operands G L R ≡ 0
  pub none : own n m.refusals ≡ 0
  pub stands : Stands s m.lengths

-- A success with the shape that `as_result` makes of s.
pub as-result : {n operands : ℕ} {G K : ℤ} {L R : Operand} {m : Meaning} {s t : Shape} → Ready n operands G K L R m s
    → good_shape s ≡ true → t ≡ made_of s.rank s.lens → t ≡ shape_of m.lengths
as-result ready g e = e ∙ stands-made ready.stands g

module _ {n operands : ℕ} {G K : ℤ} {L R : Operand} {m : Meaning} {s : Shape} (ready : Ready n operands G K L R m s) (out : List ℤ) where
  late-order : in_order ready.names out ≡ late (count_of s) (length out)
  late-order =
      ap₂ (λ x y. or_else x (or_else y (first_met (result_rules m.lengths (length out))))) ready.fine ready.none
      ∙ sym (late_is (length out) ready.stands)

  -- Late: w is what `late` answered, of what `count` answered of s.
  module _ {w c : ℕ} (q : w ≡ late c (length out)) (n-is : c ≡ count_of s) where
    w-is : w ≡ late (count_of s) (length out)
    w-is = q ∙ ap (λ x. late x (length out)) n-is

    -- LIMIT and SPACE.
    pub late-replied : {a : Answer} → Refuses a w → Replied a out (reply (pos n) G K L R out)
    late-replied {a} e = refused-reply ready.names out a w e (late-order ∙ sym w-is)

    -- The result.
    pub given-replied : {t : Shape} {last : List ℤ} → w ≡ 0 → t ≡ shape_of m.lengths
        → last ≡ (build m.lengths m.element).elements ++ drop (count m.lengths) out → Replied (answered (Ok t)) last (reply (pos n) G K L R out)
    unfolding settle answered
    given-replied z e f =
        let y : reply (pos n) G K L R out ≡ given_reply m out = reply-is ready.names out 0 (late-order ∙ sym w-is ∙ z) in
        record { answer = ap accepted e ∙ sym (ap answer_of y); buffer = f ∙ sym (ap (λ x. x.out) y) }

-- Neither LIMIT nor SPACE was met.
pub record Roomy (s : Shape) (room : ℕ) : Type 0 where
  pub good : good_shape s ≡ true
  pub small : count_of s ≤ max_count
  pub space : count_of s ≤ room

pub late-fine : {w c : ℕ} {s : Shape} (room : ℕ) → w ≡ late c room → c ≡ count_of s → w ≡ 0 → Roomy s room
late-fine {w} {c} {s} room q e z = by (leb c max_count) refl (leb c room) refl (sym (late-first c room) ∙ sym q ∙ z)
  where
    by : (a : Bool) → leb c max_count ≡ a → (b : Bool) → leb c room ≡ b → by_tests a b ≡ 0 → Roomy s room
    by false p b q e = absurd (omega arith)
    by true p false q e = absurd (omega arith)
    by true p true t o =
        let l : count_of s ≤ max_count = omega (arith, leb-true c max_count p) in
        record { good = good-count s l; small = l; space = omega (arith, leb-true c room t) }
