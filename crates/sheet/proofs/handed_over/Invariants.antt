use Rattle.std.proofs.Common.{length}
use Rattle.sheet.proofs.Sent.{Handing}
use Rattle.sheet.proofs.handed_over.Given as goal

abbrev pub invariant-loop-rest : goal.invariant-loop-rest
invariant-loop-rest g l = Handing (g.W.Write.contents l.initial.sink) (g.W.Write.contents l.sink) l.text l.rest

abbrev pub decreases-loop-rest : goal.decreases-loop-rest
decreases-loop-rest g l = length l.rest
