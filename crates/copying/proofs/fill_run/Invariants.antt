use Rattle.std.proofs.Common.{◌≡◌, ◌++◌, replicate, drop}
use Rattle.copying.proofs.fill_run.Given as goal

abbrev pub invariant-loop-o : goal.invariant-loop-o
invariant-loop-o g l = l.out ≡ replicate l.o-index l.x ++ drop l.o-index l.fn.out
