use Rattle.std.proofs.Common.{arith, sym, ◌∙◌}
use mathlib.Core.Path.{ap}
use Rattle.meaning.specs.Array.{good_form}
use borrow.Author.Tests.{lt-leb}
use Rattle.shape.specs.Shape.{max_count}
use Rattle.answer.proofs.Lent.{form-bad, form-by}
use Rattle.answer.proofs.Operand.good_form.Goals as goal

pub returns-then-count-le-MAX_COUNT : goal.returns-then-count-le-MAX_COUNT
returns-then-count-le-MAX_COUNT c =
    rw (c.count-count.ensures)
    (sym (form-by c.self.inside.shape c.self.inside.elements.now (omega (arith, c.count-count.ensures))) ∙ ap good_form c.self.view_is)

pub returns-else-count-le-MAX_COUNT : goal.returns-else-count-le-MAX_COUNT
returns-else-count-le-MAX_COUNT c =
    lt-leb c.count-count.result max_count (omega arith)
    ∙ sym (form-bad c.self.inside.shape c.self.inside.elements.now (omega (arith, c.count-count.ensures))) ∙ ap good_form c.self.view_is
