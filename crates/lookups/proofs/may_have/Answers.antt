use Rattle.std.proofs.Common.{◌≡◌, ◌∙◌, sym, true, false, length, get_or, pos, int_eq, ℤ, Bool, ℕ, ◌<◌}
use mathlib.Core.Path.{refl}
use native.Mathlib.Omega.{arith}
use Rattle.std.proofs.lemmas.Cmp.{int_eq_equiv}
use Rattle.shape.proofs.Bools.{no_way}
use Rattle.meaning.specs.Terms.{int_same}
use Rattle.signed.proofs.Equal.{int_same-true}
use Rattle.signed.proofs.Reading.{read32}
use Rattle.lookups.proofs.may_have.Goals as goal

not_same : (x y : ℤ) → int_eq y x ≡ false → int_same x y ≡ false
not_same x y e = by (int_same x y) refl
  where
    by : (t : Bool) → int_same x y ≡ t → int_same x y ≡ false
    by true q = let s = int_same-true x y q in no_way (sym e ∙ rw s (int_eq_equiv.refl y))
    by false q = q

pub returns : goal.returns
returns c e =
    let a : (k : ℕ) → k < length c.args.l.now → int_eq (get_or c.args.l.now k (pos 0)) c.args.x ≡ false =
    λ k h. rw (read32 _ c.ranges.x) at ((rw e at c.contains.ensures.cases) k (pos 0) (omega arith) h) in
    record { inside = omega arith; none = λ k h. not_same c.args.x (get_or c.args.l.now k (pos 0)) (a k h) }
