use Rattle.std.proofs.Common.{◌≡◌, ◌+◌, ◌*◌}
use Rattle.copying.proofs.Blockwise.{Blockwise}
use Rattle.joins.specs.Steps.{runs_at}
use Rattle.joins.proofs.put_runs.Given as goal

abbrev pub invariant-loop-o : goal.invariant-loop-o
invariant-loop-o l =
    (l.at ≡ l.o * l.size + l.first)
    × Blockwise l.outer l.size (runs_at l.run l.first l.size l.initial.out) l.initial.out l.out (l.o * l.size) l.o
