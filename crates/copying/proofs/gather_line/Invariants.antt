use Rattle.std.proofs.Common.{length}
use Rattle.copying.specs.Gather.{rows_by}
use Rattle.copying.proofs.Blockwise.{Blockwise}
use Rattle.copying.proofs.gather_line.Given as goal

abbrev pub invariant-loop-q : goal.invariant-loop-q
invariant-loop-q l = Blockwise (length l.at) 1 (rows_by l.at 1 l.r) l.fn.out l.out l.q l.q
