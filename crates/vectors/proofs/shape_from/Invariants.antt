use Rattle.std.proofs.Common.{◌≡◌, ◌-◌, ◌++◌, map, nat_abs}
use lib.ListN.{take, replicate}
use Rattle.shape.specs.Shape.{max_rank}
use Rattle.vectors.proofs.shape_from.Given as goal

abbrev pub invariant-loop-i : goal.invariant-loop-i
invariant-loop-i l = l.lens ≡ take l.i (map nat_abs l.l) ++ replicate (max_rank - l.i) 0
