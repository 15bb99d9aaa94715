use Rattle.std.proofs.Common.{◌∙◌, sym}
use mathlib.Core.Path.{ap}
use Rattle.meaning.specs.Array.{array_of}
use Rattle.meaning.specs.Terms.{rank}
use Rattle.answer.proofs.Lent.{formed}
use Rattle.answer.proofs.Formed.rank.Goals as goal

pub returns : goal.returns
returns c = sym (formed c.self.invariant).rank_is ∙ ap (λ o. rank (array_of o)) c.self.view_is
