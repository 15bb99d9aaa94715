use Rattle.std.proofs.Common.{◌∷◌, ◌*◌, length}
use Rattle.copying.proofs.Blockwise.{Blockwise}
use Rattle.transposes.specs.Steps.Strides.{LineIn}
use Rattle.transposes.proofs.Walking.{others, reached}
use Rattle.transposes.proofs.+walk.Given as goal

abbrev pub decreases-walk : goal.decreases-walk
decreases-walk l = length l.lens.now

abbrev pub invariant-loop-i : goal.invariant-loop-i
invariant-loop-i l = record {
  done : Blockwise l.n l.size (reached (l.n ∷ others (length l.lens) l.lens) (l.stride ∷ others (length l.lens) l.strides) l.r)
      l.initial.out l.out (l.i * l.size) l.i;
  starts : LineIn l.n l.stride (length l.r);
}
