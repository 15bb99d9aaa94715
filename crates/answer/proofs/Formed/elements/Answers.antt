use Rattle.std.proofs.Common.{arith, ◌∙◌, sym}
use mathlib.Core.Path.{ap}
use lib.Seq.{length-take-le}
use lib.ListN.{take}
use Rattle.meaning.specs.Array.{array_of}
use Rattle.answer.proofs.Lent.{formed}
use Rattle.answer.proofs.Formed.elements.Goals as goal

pub slice_bounds-result-end : goal.slice_bounds-result-end
slice_bounds-result-end c =
    let g = formed c.self.invariant in
    sym (length-take-le c.count.result c.self.inside.elements.now (omega (arith, g.room, g.count-is, c.count.ensures)))

pub returns : goal.returns
returns c =
    let g = formed c.self.invariant in
    ap (λ k. take k c.self.inside.elements.now) (c.count.ensures ∙ g.count-is) ∙ ap (λ o. (array_of o).elements) c.self.view_is
