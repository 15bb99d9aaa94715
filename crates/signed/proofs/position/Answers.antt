use Rattle.std.proofs.Common.{◌≡◌, sym, ◌∙◌, false}
use mathlib.Core.Path.{refl}
use borrow.Author.Tests.{lt-ltb, le-ltb}
use lib.IntN.{nat_abs, ◌-ℤ◌}
use Rattle.meaning.specs.Terms.{negative}
use Rattle.meaning.proofs.Positions.{within-size, within-negative}
use Rattle.signed.proofs.Finding.{read-from-zero}
use Rattle.signed.proofs.Reading.{read32}
use Rattle.signed.proofs.Sign.{less-negative}
use Rattle.signed.proofs.position.Goals as goal
use Rattle.signed.proofs.position.Goals.{Else-z-g}

pub returns-then-z-g : goal.returns-then-z-g
returns-then-z-g c =
    let h = rw (read32 c.args.z c.ranges.z, read32 c.args.g c.ranges.g) at c.if-z-g.true in
    rw (within-negative (c.args.z -ℤ c.args.g) c.args.n (sym (less-negative c.args.z c.args.g) ∙ h)) refl

above : (c : Else-z-g) → negative (c.args.z -ℤ c.args.g) ≡ false
above c =
    let h = rw (read32 c.args.z c.ranges.z, read32 c.args.g c.ranges.g) at c.if-z-g.false in
    sym (less-negative c.args.z c.args.g) ∙ h

pub returns-then-i-n : goal.returns-then-i-n
returns-then-i-n c =
    let e = c.from_zero-i.ensures ∙ read-from-zero c.args.z c.args.g c.ranges.z c.ranges.g in
    let h = rw e at c.if-i-n.true in
    rw (e, within-size (c.args.z -ℤ c.args.g) c.args.n (above c.before.before), lt-ltb (nat_abs (c.args.z -ℤ c.args.g)) c.args.n h) refl

pub returns-else-i-n : goal.returns-else-i-n
returns-else-i-n c =
    let e = c.from_zero-i.ensures ∙ read-from-zero c.args.z c.args.g c.ranges.z c.ranges.g in
    let h = rw e at c.if-i-n.false in
    rw (within-size (c.args.z -ℤ c.args.g) c.args.n (above c.before.before), le-ltb (nat_abs (c.args.z -ℤ c.args.g)) c.args.n h) refl
