use Rattle.std.proofs.Common.{◌*◌, true}
use Rattle.copying.proofs.Blockwise.{Blockwise}
use Rattle.masks.specs.Steps.Rows.{placed}
use Rattle.masks.proofs.open_blocks.Given as goal

abbrev pub invariant-loop-o : goal.invariant-loop-o
invariant-loop-o l =
    let b = l.initial.b in
    Blockwise b.outer (b.made * b.inner) (placed true l.l b l.r) l.initial.out l.out (l.o * (b.made * b.inner)) l.o
