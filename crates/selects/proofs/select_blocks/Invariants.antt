use Rattle.std.proofs.Common.{◌*◌, length}
use Rattle.copying.proofs.Blockwise.{Blockwise}
use Rattle.selects.specs.Steps.{blocks_at}
use Rattle.selects.proofs.select_blocks.Given as goal

abbrev pub invariant-loop-o : goal.invariant-loop-o
invariant-loop-o l = Blockwise l.a.outer (length l.choice.numbers * l.a.inner) (blocks_at l.choice l.a l.r) l.initial.out l.out l.at l.o
