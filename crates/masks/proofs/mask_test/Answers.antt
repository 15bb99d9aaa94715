use Rattle.std.proofs.Common.{◌∙◌}
use mathlib.Core.Path.{ap, ap₂}
use Rattle.meaning.proofs.Winner.{or_else}
use Rattle.answer.specs.Refused.{asked}
use Rattle.masks.proofs.Actions.{flag_on, flag_off}
use Rattle.masks.proofs.Calls.{and-asked, compress-told, expand-told}
use Rattle.masks.proofs.mask_test.Goals as goal

pub returns-then-this-ne0 : goal.returns-then-this-ne0
returns-then-this-ne0 g c =
    ap asked c.and.ensures ∙ and-asked _ _ ∙ ap₂ or_else c.unless-bits.ensures c.unless-fits.ensures
    ∙ expand-told c.args.repeated c.args.l.now c.args.n c.mask_fits.ensures c.all_bits.ensures (flag_on _ c.if-this-ne0.true)

pub returns-else-this-ne0 : goal.returns-else-this-ne0
returns-else-this-ne0 g c =
    ap asked c.and-else-this-ne0.ensures ∙ and-asked _ _ ∙ ap₂ or_else c.unless-fits.ensures c.unless-bits.ensures
    ∙ compress-told c.args.repeated c.args.l.now c.args.n c.mask_fits.ensures c.all_bits.ensures (flag_off _ c.if-this-ne0.false)
