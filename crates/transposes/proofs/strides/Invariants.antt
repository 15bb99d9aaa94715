use Rattle.std.proofs.Common.{ℕ, ◌<◌, get_or}
use Rattle.shape.specs.Shape.{max_rank}
use Rattle.transposes.proofs.Passing.{Summed}
use Rattle.transposes.proofs.strides.Given as goal

abbrev pub invariant-loop-i : goal.invariant-loop-i
invariant-loop-i l = record {
  summed : Summed l.sent-inside.to l.r-inside.shape l.sums l.step l.i;
  below : (j : ℕ) → j < l.r-inside.shape.rank → get_or l.sent-inside.to j 0 < max_rank;
}
