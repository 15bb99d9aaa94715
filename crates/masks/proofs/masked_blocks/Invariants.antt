use Rattle.std.proofs.Common.{◌*◌}
use denote.Param.{number}
use Rattle.masks.specs.contracts.masked_blocks.{EXPANDS-type}
use Rattle.copying.proofs.Blockwise.{Blockwise}
use Rattle.masks.specs.Steps.Rows.{placed}
use Rattle.masks.proofs.masked_blocks.Given as goal

abbrev pub invariant-loop-o : goal.invariant-loop-o
invariant-loop-o g l =
    let b = l.initial.b in
    Blockwise b.outer (b.made * b.inner) (placed (EXPANDS-type (number g.row.EXPANDS)) l.l b l.r) l.initial.out l.out (l.o * (b.made * b.inner)) l.o
