use Rattle.std.proofs.Common.{length}
use Rattle.sheet.proofs.Cut.{Going}
use Rattle.sheet.proofs.Sheet.take_chunk.Given as goal

abbrev pub invariant-loop-end : goal.invariant-loop-end
invariant-loop-end g l =
    Going l.initial.self l.self (g.W.Write.contents l.initial.sink) (g.W.Write.contents l.sink) l.chunk l.rest

abbrev pub decreases-loop-end : goal.decreases-loop-end
decreases-loop-end g l = length l.rest
