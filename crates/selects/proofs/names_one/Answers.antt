use Rattle.std.proofs.Common.{◌≡◌, sym, ◌∙◌, false}
use mathlib.Core.Path.{refl}
use lib.IntN.{◌-ℤ◌}
use Rattle.meaning.specs.Terms.{negative}
use Rattle.meaning.proofs.Positions.{within-size, within-negative}
use Rattle.signed.proofs.Finding.{read-from-zero}
use Rattle.signed.proofs.Reading.{read32}
use Rattle.signed.proofs.Sign.{less-negative}
use Rattle.selects.proofs.names_one.Goals as goal

pub returns-then-z-g : goal.returns-then-z-g
returns-then-z-g c =
    let h = rw (read32 c.args.z c.ranges.z, read32 c.args.g c.ranges.g) at c.if-z-g.true in
    rw (within-negative (c.args.z -ℤ c.args.g) c.args.n (sym (less-negative c.args.z c.args.g) ∙ h)) refl

pub known_position-requires : goal.known_position-requires
known_position-requires c =
    let h = rw (read32 c.args.z c.ranges.z, read32 c.args.g c.ranges.g) at c.if-z-g.false in
    rw (read32 c.args.z c.ranges.z, read32 c.args.g c.ranges.g) (sym (less-negative c.args.z c.args.g) ∙ h)

pub returns : goal.returns
returns c =
    let h = rw (read32 c.args.z c.ranges.z, read32 c.args.g c.ranges.g) at c.if-z-g.false in
    let above : negative (c.args.z -ℤ c.args.g) ≡ false = sym (less-negative c.args.z c.args.g) ∙ h in
    rw (c.known_position.ensures ∙ read-from-zero c.args.z c.args.g c.ranges.z c.ranges.g, within-size (c.args.z -ℤ c.args.g) c.args.n above) refl
