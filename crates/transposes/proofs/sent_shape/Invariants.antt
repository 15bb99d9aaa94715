use Rattle.std.proofs.Common.{ℕ, ◌<◌, take, get_or}
use Rattle.shape.specs.Shape.{max_rank, counted}
use Rattle.transposes.proofs.Passing.{Shortest}
use Rattle.transposes.proofs.sent_shape.Given as goal

abbrev pub invariant-loop-i : goal.invariant-loop-i
invariant-loop-i l = record {
  shortest : Shortest (take l.r-inside.shape.rank l.sent-inside.to) (counted l.r-inside.shape) l.lens l.i;
  below : (j : ℕ) → j < l.r-inside.shape.rank → get_or l.sent-inside.to j 0 < max_rank;
}
