-- When a call succeeds, and what it then gives.
use mathlib.Core.Path.{◌≡◌, refl, sym, ap, ap₂, ◌∙◌}
use mathlib.Core.List.{List, [], ◌∷◌, ◌++◌}
use mathlib.Core.Bool.{true, false, not, ◌&&◌, ◌||◌, and-false}
use Prim.Native.Nat.{ℕ, zero, suc, ◌≤◌}
use borrow.Author.Tests.{le-leb, leb-true, not-false}
use lib.ListN.{length}
use lib.Dec.{leb}
use lib.IntN.{ℤ}
use Rattle.shape.specs.Shape.{count, shape_rule}
use Rattle.meaning.specs.Array.{Operand, good_form}
use Rattle.meaning.specs.Refusal.{Refusal, Rule, same, meets, winner}
use Rattle.meaning.specs.Primitives.{Meaning}
use Rattle.meaning.proofs.Winner.{same-itself, neither, unmet}
use Rattle.meaning.specs.Reply.{Primitive, primitives, named, is_origin, result_rules, refusals, meaning_of, settle, reply}

-- No rule is met.
abbrev pub NoneMet : List Rule → Type 0
NoneMet [] = Unit {0}
NoneMet (r ∷ rules) = (r.met ≡ false) × NoneMet rules

meets-none : (x : Refusal) (rules : List Rule) → NoneMet rules → meets x rules ≡ false
unfolding meets
meets-none x [] h = refl
meets-none x (r ∷ rules) h =
    ap₂ (λ a b. same x r.refusal && a || b) h.0 (meets-none x rules h.1) ∙ ap (λ a. a || false) (and-false (same x r.refusal))

pub none-wins : (xs : List Refusal) (rules : List Rule) → NoneMet rules → winner xs rules ≡ 0
unfolding winner
none-wins [] rules h = refl
none-wins (x ∷ xs) rules h = rw (meets-none x rules h) (none-wins xs rules h)

-- What a call asks beside room in its output buffer.
pub record Passes (p : Primitive) (G : ℤ) (L R : Operand) (m : Meaning) : Type 0 where
  pub left : (leb p.operands 1 || good_form L) ≡ true
  pub right : good_form R ≡ true
  pub origin : is_origin G ≡ true
  pub limit : shape_rule (length m.lengths) m.lengths ≡ true
  pub own : NoneMet m.refusals

-- Rules one after another.
none_both : (rs ts : List Rule) → NoneMet rs → NoneMet ts → NoneMet (rs ++ ts)
none_both [] ts h k = k
none_both (r ∷ rs) ts h k = (h.0, none_both rs ts h.1 k)

none_each : (rs ts : List Rule) → NoneMet (rs ++ ts) → NoneMet rs × NoneMet ts
none_each [] ts h = (tt, h)
none_each (r ∷ rs) ts h = let w = none_each rs ts h.1 in ((h.0, w.0), w.1)

passes_none : {p : Primitive} {G : ℤ} {L R : Operand} {m : Meaning} {room : ℕ} → Passes p G L R m → count m.lengths ≤ room
    → NoneMet (refusals p G L R m room)
unfolding refusals
passes_none {m = m} {room = room} f h =
    let late : NoneMet (result_rules m.lengths room) = (ap not f.limit, (ap not (le-leb _ _ h), tt)) in
    (ap not f.left, (ap not f.right, (ap not f.origin, none_both m.refusals (result_rules m.lengths room) f.own late)))

-- Then it succeeds.
pub success : (n G K : ℤ) (L R : Operand) (out : List ℤ) → Passes (named n primitives) G L R (meaning_of n G K L R)
    → count (meaning_of n G K L R).lengths ≤ length out → reply n G K L R out ≡ settle 0 (meaning_of n G K L R) out
unfolding reply
success n G K L R out f h = ap (λ w. settle w (meaning_of n G K L R) out) (none-wins _ _ (passes_none f h))

-- And back: a call that succeeds has met nothing, so it gave the primitive's result.
none-met : (rules : List Rule) → ((x : Refusal) → meets x rules ≡ false) → NoneMet rules
unfolding meets
none-met [] h = tt
none-met (r ∷ rules) h =
    let x : Refusal = r.refusal in
    let own = neither (same x x && r.met) (meets x rules) (h x) in
    (sym (ap (λ b. b && r.met) (same-itself x)) ∙ own.0, none-met rules (λ y. (neither (same y x && r.met) (meets y rules) (h y)).1))

settled-number : (w : ℕ) (m : Meaning) (out : List ℤ) → (settle w m out).number ≡ w
unfolding settle
settled-number zero m out = refl
settled-number (suc w) m out = refl

module _ (n G K : ℤ) (L R : Operand) (out : List ℤ) (h : (reply n G K L R out).number ≡ 0) where
  abbrev m : Meaning
  m = meaning_of n G K L R

  pub passed : Passes (named n primitives) G L R m × (count m.lengths ≤ length out)
  unfolding reply refusals
  passed =
      let p : NoneMet (refusals (named n primitives) G L R m (length out)) =
      none-met _ (unmet (named n primitives).number _ (sym (settled-number _ m out) ∙ h)) in
      let t = none_each m.refusals (result_rules m.lengths (length out)) p.1.1.1 in (
        record {
          left = not-false _ p.0;
          right = not-false _ p.1.0;
          origin = not-false _ p.1.1.0;
          limit = not-false _ t.1.0;
          own = t.0;
        },
        leb-true _ _ (not-false _ t.1.1.0),
      )
