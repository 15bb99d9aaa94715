use borrow.Author.Tests.{eq-eqb, ne_eqb}
use Rattle.masks.specs.Steps.Actions.{vector_shape}
use Rattle.masks.proofs.as_vector.Goals as goal

pub returns-then-s-eq0 : goal.returns-then-s-eq0
unfolding vector_shape
returns-then-s-eq0 c = rw (eq-eqb _ 0 c.if-s-eq0.true) c.vector.ensures

pub returns : goal.returns
unfolding vector_shape
returns c = rw (ne_eqb _ 0 c.if-s-eq0.false)
