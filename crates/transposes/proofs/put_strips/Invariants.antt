use Rattle.std.proofs.Common.{[], ◌∷◌, ◌≤◌, length}
use Rattle.transposes.specs.Steps.Placed.{Placed}
use Rattle.transposes.proofs.Placing.{axis_by, StartsIn}
use Rattle.transposes.proofs.put_strips.Given as goal

abbrev pub invariant-loop-i : goal.invariant-loop-i
invariant-loop-i l = record {
  placed : Placed (axis_by l.i l.last.stride l.last.step ∷ (l.near ∷ [])) l.r l.initial.out l.out;
  starts : StartsIn l.last.length l.last.stride l.last.step (length l.r) (length l.initial.out);
  before : l.i ≤ l.end;
}
