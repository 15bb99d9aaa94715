use Rattle.std.proofs.Common.{◌∙◌}
use mathlib.Core.Path.{ap}
use Rattle.meaning.specs.Terms.{is_bit}
use Rattle.meaning.specs.Reply.{is_origin}
use Rattle.signed.proofs.Reading.{read32}
use Rattle.signed.proofs.is_origin.Goals as goal

pub returns : goal.returns
unfolding is_origin
returns c = c.is_bit.ensures ∙ ap is_bit (read32 _ c.ranges.g)
