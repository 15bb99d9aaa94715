use Rattle.std.proofs.Common.{◌≡◌}
use Rattle.masks.proofs.Ones.{before}
use Rattle.masks.proofs.count_ones.Given as goal

abbrev pub invariant-loop-z : goal.invariant-loop-z
invariant-loop-z l = l.n ≡ before l.z-index l.l
