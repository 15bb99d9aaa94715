-- Of the axes passed none is too long, and the total is their count held at the limit.
use Rattle.std.proofs.Common.{◌≡◌, true, take}
use Rattle.shape.specs.Shape.{count, held, small}
use Rattle.shape.proofs.Shape.count.Given as goal

abbrev pub invariant-loop-n : goal.invariant-loop-n
invariant-loop-n l = (l.total ≡ held (count (take l.n-index l.n-items))) × (small (take l.n-index l.n-items) ≡ true)
