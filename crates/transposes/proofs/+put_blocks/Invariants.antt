use Rattle.std.proofs.Common.{◌∷◌, length}
use Rattle.transposes.specs.Steps.Placed.{Placed, row_axes}
use Rattle.transposes.proofs.Placing.{axis_by, StartsIn}
use Rattle.transposes.proofs.Walking.{others}
use Rattle.transposes.proofs.+put_blocks.Given as goal

abbrev pub decreases-put_blocks : goal.decreases-put_blocks
decreases-put_blocks l = length l.lens.now

abbrev pub invariant-loop-i : goal.invariant-loop-i
invariant-loop-i l = record {
  placed : Placed (l.near ∷ (axis_by l.i l.apart l.step ∷ row_axes (others (length l.lens) l.lens) (others (length l.lens) l.strides)))
      l.r l.initial.out l.out;
  starts : StartsIn l.n l.apart l.step (length l.r) (length l.initial.out);
}
