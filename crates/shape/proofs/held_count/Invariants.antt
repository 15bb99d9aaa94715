use Rattle.std.proofs.Common.{◌≡◌, take}
use Rattle.shape.specs.Shape.{count, held}
use Rattle.shape.proofs.held_count.Given as goal

abbrev pub invariant-loop-n : goal.invariant-loop-n
invariant-loop-n l = l.total ≡ held (count (take l.n-index l.lens))
