use Rattle.std.proofs.Common.{◌∙◌, sym, length}
use mathlib.Core.Path.{ap}
use Rattle.meaning.specs.Array.{array_of}
use Rattle.answer.proofs.Lent.{formed}
use Rattle.answer.proofs.Formed.count.Goals as goal

pub returns : goal.returns
returns c =
    let g = formed c.self.invariant in
    c.count.ensures ∙ g.count-is ∙ sym g.whole ∙ ap (λ o. length (array_of o).elements) c.self.view_is
