-- 15 and 26: what they ask, and what they give.
use mathlib.Core.Path.{◌≡◌, refl, sym, ap, ap₂, subst, ◌∙◌}
use mathlib.Core.List.{List, ◌++◌, map}
use mathlib.Core.Bool.{true, not, cond}
use Prim.Native.Nat.{ℕ}
use borrow.Author.Tests.{eq-eqb}
use lib.ListN.{length, drop}
use lib.Dec.{eqb}
use lib.IntN.{ℤ, pos}
use Rattle.std.specs.Prelude.{Result, Ok, Err}
use Rattle.shape.specs.declared.Shape.{Shape}
use Rattle.shape.specs.Shape.{count, count_of, shape_of}
use Rattle.shape.proofs.Made.{made-stands, stands-count}
use Rattle.meaning.specs.Array.{Operand, Array, array_of, at, build}
use Rattle.meaning.specs.Refusal.{number, precedence}
use Rattle.meaning.specs.Refusal.Refusal.{RANK, LENGTH, DOMAIN}
use Rattle.meaning.specs.Terms.{rank, is_list, int_same, from_zero}
use Rattle.meaning.specs.Primitives.{Meaning, sent_lengths, brought_back, backwards, transpose, transpose_by}
use Rattle.meaning.specs.Reply.{primitives, named, reply}
use Rattle.answer.specs.Answer.{own, Replied}
use Rattle.answer.specs.Refused.{asked, answered}
use Rattle.answer.specs.declared.refusal.Refusal.{Refusal}
use Rattle.answer.proofs.Exits.{refuses}
use mir.Syntax.{w32}
use mir.Val.{SFits, to_z, of_z}
use Rattle.signed.proofs.Reading.{read32}
use Rattle.answer.proofs.Order.{Names, own_first, early_of, Ready, Roomy, late-fine, late-replied, given-replied}
use Rattle.transposes.specs.declared.Sent.{Sent}
use Rattle.transposes.specs.Steps.Sent.{Route, route, in_domain, sent_elements}
use Rattle.transposes.specs.Steps.Outcome.{Sending, Moved}

module _ (G K : ℤ) (L R : Operand) where
  pub transpose-names : Names 15 1 G K L R (transpose (array_of R))
  unfolding primitives named int_same transpose precedence
  transpose-names = record { number = refl; arity = refl; meaning = refl; own = refl }

  pub by_names : Names 26 2 G K L R (transpose_by G (array_of L) (array_of R))
  unfolding primitives named int_same transpose_by precedence
  by_names = record { number = refl; arity = refl; meaning = refl; own = refl }

-- What they ask, in turn.
pub transpose-own : (a : Array) → own 15 (transpose a).refusals ≡ 0
unfolding transpose precedence
transpose-own a = own_first 15 _ refl

pub by-own : (G : ℤ) (l r : Array) → own 26 (transpose_by G l r).refusals
    ≡ cond (not (is_list l)) (number RANK)
    (cond (not (eqb (length l.elements) (rank r))) (number LENGTH) (cond (not (in_domain G (rank r) l.elements)) (number DOMAIN) 0))
unfolding transpose_by precedence
by-own G l r = own_first 26 _ refl

-- L is a list of as many elements as R has axes: what is left is DOMAIN.
pub by-domain : (G : ℤ) (l r : Array) → is_list l ≡ true → length l.elements ≡ rank r
    → own 26 (transpose_by G l r).refusals ≡ cond (not (in_domain G (length l.elements) l.elements)) (number DOMAIN) 0
by-domain G l r h e = by-own G l r ∙ rw (h, eq-eqb (length l.elements) (rank r) e, e)

-- What they mean, by the axes to which they send.
pub record Means (m : Meaning) (ts : List ℕ) (a : Array) : Type 0 where
  pub lengths : m.lengths ≡ sent_lengths ts a.lengths
  pub element : m.element ≡ (λ p. at a (brought_back ts p))

pub transpose-means : (a : Array) → Means (transpose a) (backwards (rank a)) a
unfolding transpose
transpose-means a = record { lengths = refl; element = refl }

pub by-means : (G : ℤ) (l r : Array) → Means (transpose_by G l r) (map (from_zero G) l.elements) r
unfolding transpose_by
by-means G l r = record { lengths = refl; element = refl }

-- The reply to a call whose axes are sent.
module _ {R : Operand} {ts : List ℕ} {m : Meaning} (g : Means m ts (array_of R)) {n operands : ℕ} {G K : ℤ} {L : Operand} (names : Names n operands G K L R m)
    (fine : early_of operands G L R ≡ 0) (none : own n m.refusals ≡ 0) where
  abbrev shape : Shape
  shape = shape_of (sent_lengths ts (array_of R).lengths)

  shape_is : shape ≡ shape_of m.lengths
  shape_is = ap shape_of (sym g.lengths)

  ready : Ready n operands G K L R m shape
  ready = record { names = names; fine = fine; none = none; stands = made-stands shape m.lengths shape_is }

  sent-out : (out : List ℤ) → Roomy shape (length out)
      → sent_elements ts (array_of R) ++ drop (count_of shape) out ≡ (build m.lengths m.element).elements ++ drop (count m.lengths) out
  sent-out out f =
      ap (λ n. sent_elements ts (array_of R) ++ drop n out) (stands-count (made-stands shape m.lengths shape_is) f.good)
      ∙ sym (ap₂ (λ x y. (build x y).elements ++ drop (count m.lengths) out) g.lengths g.element)

  moved-replied : (out last : List ℤ) (x : Result Shape Refusal) → Moved (route R ts) out last x → Replied (answered x) last (reply (pos n) G K L R out)
  unfolding asked
  moved-replied out last (Ok t) v =
      given-replied ready out v.asks refl refl (v.shape_is ∙ shape_is) (v.elements ∙ sent-out out (late-fine _ v.asks refl refl))
  moved-replied out last (Err d) v = rw (v.kept) (late-replied ready out v.asks refl (refuses d))

  pub sent-replied : {out last : List ℤ} {x : Result Shape Refusal} {s : Route} → s ≡ route R ts → Moved s out last x
      → Replied (answered x) last (reply (pos n) G K L R out)
  sent-replied {out} {last} {x} e v = moved-replied out last x (subst (λ (s : Route). Moved s out last x) e v)

-- What `sent_by` tells, of the origin read from a local and of operands that were handed over.
abbrev tells : Result Sent Refusal → ℤ → Operand → Operand → Type 0
tells x G L R = Sending x (own 26 (transpose_by G (array_of L) (array_of R)).refusals) (route R (map (from_zero G) (array_of L).elements))

pub sending-at : {x : Result Sent Refusal} {G : ℤ} {l L r R : Operand} → SFits w32 G → l ≡ L → r ≡ R → tells x (to_z w32 (of_z w32 G)) l r → tells x G L R
sending-at {x} {G} {l} {L} {r} {R} f d e h =
    subst (λ (R : Operand). tells x G L R) e (subst (λ (L : Operand). tells x G L r) d (subst (λ (H : ℤ). tells x H l r) (read32 G f) h))
