use Rattle.std.proofs.Common.{◌*◌}
use Rattle.copying.specs.Gather.{gathered_at}
use Rattle.copying.proofs.Blockwise.{Blockwise}
use Rattle.copying.proofs.gather_blocks.Given as goal

abbrev pub invariant-loop-o : goal.invariant-loop-o
invariant-loop-o l =
    let b = l.fn.b in
    Blockwise b.outer (b.made * b.inner) (gathered_at l.at l.first b l.r l.fn.out) l.fn.out l.out (l.o * (b.made * b.inner)) l.o
