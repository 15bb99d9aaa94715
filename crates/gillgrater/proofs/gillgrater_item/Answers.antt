use Rattle.std.proofs.Common.{◌∙◌}
use mathlib.Core.Path.{ap, ap₂}
use Rattle.signed.proofs.Reading.{read32}
use Rattle.items.specs.declared.Part.{Part}
use Rattle.items.specs.Part.{part_in, item_part}
use Rattle.items.proofs.Given.{part-elements}
use Rattle.gillgrater.proofs.gillgrater_item.Goals as goal

pub returns-clause-elements : goal.returns-clause-elements
returns-clause-elements c =
    let e = c.leading_part.ensures ∙ ap₂ (item_part c.lent.result) (read32 _ c.ranges.g) (read32 _ c.ranges.i)
    ∙ ap (λ o. item_part o c.args.g c.args.i) c.lent.ensures in
    ap (λ (p : Part). part_in p c.args.r.now) e ∙ part-elements _ c.args.g c.args.i
