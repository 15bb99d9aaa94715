use Rattle.std.proofs.Common.{◌≡◌, ◌++◌, take, drop}
use denote.Param.{number}
use Rattle.copying.specs.Steps.{ordered}
use Rattle.copying.specs.contracts.copy_each.{BACK-type}
use Rattle.copying.proofs.copy_each.Given as goal

abbrev pub invariant-loop-i : goal.invariant-loop-i
invariant-loop-i g l = l.out ≡ take l.i (ordered (BACK-type g.row.T (number g.row.BACK)) (take l.n l.src)) ++ drop l.i l.fn.out
