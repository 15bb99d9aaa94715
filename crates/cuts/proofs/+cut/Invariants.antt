use Rattle.std.proofs.Common.{length, ◌≡◌, ◌+◌, ◌*◌}
use Rattle.copying.specs.Steps.{filled}
use Rattle.cuts.specs.Steps.{cut_at}
use Rattle.cuts.proofs.+cut.Given as goal

abbrev pub decreases-cut : goal.decreases-cut
decreases-cut l = length l.table.now

abbrev pub invariant-loop-i : goal.invariant-loop-i
invariant-loop-i l = l.out ≡ filled (cut_at l.table l.r) (l.axis.start + l.i * l.axis.block) l.initial.out
