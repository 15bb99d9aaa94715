use Rattle.std.proofs.Common.{rules, ◌≡◌, ◌∙◌, sym, true, length, get_or, ℤ, pos}
use native.Mathlib.Omega.{arith}
use mathlib.Core.Path.{refl}
use mathlib.Core.Bool.{not, cond}
use lib.Dec.{eqb}
use mir.Syntax.{w32}
use mir.Val.{SFits, to_z, of_z}
use lib.Signed.{lt_z}
use borrow.Author.Tests.{eq-eqb, ne_eqb}
use Rattle.meaning.specs.Array.{array_of}
use Rattle.meaning.specs.Refusal.{number}
use Rattle.meaning.specs.Refusal.Refusal.{LENGTH, DOMAIN}
use Rattle.meaning.specs.Terms.{negative, is_list}
use Rattle.meaning.specs.Primitives.{interval}
use Rattle.signed.proofs.Reading.{read32}
use Rattle.signed.proofs.Sign.{below-zero}
use Rattle.answer.specs.Answer.{own}
use Rattle.answer.specs.Refused.{asked}
use Rattle.vectors.proofs.Calls.{interval-own}
use Rattle.vectors.proofs.interval_length.Goals as goal
use Rattle.vectors.proofs.interval_length.Goals.{After-elements}

pub returns-then-not-is_list-clause-number : goal.returns-then-not-is_list-clause-number
unfolding asked
returns-then-not-is_list-clause-number c G = sym (interval-own G (array_of c.args.r.now) ∙ rw (sym c.if-not-is_list.ensures))

-- A list: what is left is LENGTH and DOMAIN.
rest : (c : After-elements) (G : ℤ) → own 13 (interval G (array_of c.args.r.now)).refusals
    ≡ cond (not (eqb (length c.elements.result.now) 1)) (number LENGTH) (cond (negative (get_or c.elements.result.now 0 (pos 0))) (number DOMAIN) 0)
rest c G =
    let l : is_list (array_of c.args.r.now) ≡ true = sym c.if-not-is_list.ensures in
    interval-own G (array_of c.args.r.now) ∙ rw (l, c.elements.ensures) refl

pub returns-in_default-clause-number : goal.returns-in_default-clause-number
unfolding asked
returns-in_default-clause-number c G =
    sym (rest c.before G ∙ rw (ne_eqb (length c.elements.result.now) 1 (λ e. omega (arith, c.in_default.len_below))))

pub returns-in_default-2-clause-number : goal.returns-in_default-2-clause-number
unfolding asked
returns-in_default-2-clause-number c G =
    sym (rest c.before G ∙ rw (ne_eqb (length c.elements.result.now) 1 (λ e. omega (arith, c.in_default.len_at_least))))

-- One element: what is left is DOMAIN.
single : (c : After-elements) (G : ℤ) → SFits w32 (get_or c.elements.result.now 0 (pos 0)) → length c.elements.result.now ≡ 1
    → own 13 (interval G (array_of c.args.r.now)).refusals
    ≡ cond (lt_z (to_z w32 (of_z w32 (get_or c.elements.result.now 0 (pos 0)))) (pos 0)) (number DOMAIN) 0
single c G f one =
    rest c G ∙ rw (eq-eqb _ 1 one, read32 _ f, below-zero (get_or c.elements.result.now 0 (pos 0)))

pub returns-then-z-lt0-clause-number : goal.returns-then-z-lt0-clause-number
unfolding asked
returns-then-z-lt0-clause-number c G =
    let one : length c.elements.result.now ≡ 1 = omega (arith, c.in-len1.len_below, c.in-len1.len_at_least) in
    let f : SFits w32 (get_or c.elements.result.now 0 (pos 0)) = search rules in
    sym (single c.before.before.before G f one ∙ rw c.if-z-lt0.true)

pub returns-clause-number : goal.returns-clause-number
unfolding asked
returns-clause-number c G =
    let one : length c.elements.result.now ≡ 1 = omega (arith, c.in-len1.len_below, c.in-len1.len_at_least) in
    let f : SFits w32 (get_or c.elements.result.now 0 (pos 0)) = search rules in
    sym (single c.before.before.before.before.before G f one ∙ rw c.if-z-lt0.false)
