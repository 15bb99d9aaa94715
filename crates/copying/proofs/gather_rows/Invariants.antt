use Rattle.std.proofs.Common.{length}
use Rattle.copying.specs.Gather.{rows_by}
use Rattle.copying.proofs.Blockwise.{Blockwise}
use Rattle.copying.proofs.gather_rows.Given as goal

abbrev pub invariant-loop-x : goal.invariant-loop-x
invariant-loop-x l = Blockwise (length l.at) l.inner (rows_by l.at l.inner l.r) l.fn.out l.out l.to l.x-index
