use Rattle.std.proofs.Common.{[], ◌∷◌, length}
use Rattle.transposes.specs.Steps.Placed.{Placed}
use Rattle.transposes.proofs.Placing.{axis_by, StartsIn}
use Rattle.transposes.proofs.put_plane.Given as goal

abbrev pub invariant-loop-i : goal.invariant-loop-i
invariant-loop-i l = record {
  placed : Placed (axis_by l.i l.axis.stride l.axis.step ∷ (l.line ∷ [])) l.r l.initial.out l.out;
  starts : StartsIn l.axis.length l.axis.stride l.axis.step (length l.r) (length l.initial.out);
}
