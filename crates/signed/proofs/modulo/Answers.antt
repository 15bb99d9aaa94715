use Rattle.std.proofs.Common.{sym, ◌∙◌}
use mathlib.Core.Path.{ap}
use lib.IntN.{nat_abs}
use borrow.Author.Tests.{ne_eqb}
use Rattle.meaning.proofs.Modulo.{modulo-negative, modulo-size}
use Rattle.signed.proofs.Reading.{read32}
use Rattle.signed.proofs.Sign.{below-zero}
use Rattle.signed.proofs.modulo.Goals as goal

pub returns-then-negative : goal.returns-then-negative
returns-then-negative c =
    let h = rw (read32 c.args.z c.ranges.z) at c.if-negative.true in
    rw (ne_eqb c.args.n 0 c.if-n-eq0.false)
    (modulo-negative c.args.z c.args.n _ (sym (below-zero c.args.z) ∙ h) (c.magnitude-m.ensures ∙ ap nat_abs (read32 _ c.ranges.z)))

pub returns-else-negative : goal.returns-else-negative
returns-else-negative c =
    let h = rw (read32 c.args.z c.ranges.z) at c.if-negative.false in
    rw (ne_eqb c.args.n 0 c.if-n-eq0.false)
    (modulo-size c.args.z c.args.n _ (sym (below-zero c.args.z) ∙ h) (c.magnitude-m.ensures ∙ ap nat_abs (read32 _ c.ranges.z)))
