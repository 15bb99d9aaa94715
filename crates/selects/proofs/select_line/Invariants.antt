use Rattle.std.proofs.Common.{◌≡◌}
use Rattle.copying.specs.Steps.{filled}
use Rattle.selects.specs.Steps.{rows_at}
use Rattle.selects.proofs.select_line.Given as goal

abbrev pub invariant-loop-i : goal.invariant-loop-i
invariant-loop-i l = l.out ≡ filled (rows_at l.choice 1 l.r) l.i l.initial.out
