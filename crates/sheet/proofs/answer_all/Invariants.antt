use Rattle.sheet.proofs.Run.{Running}
use Rattle.sheet.proofs.answer_all.Given as goal

abbrev pub invariant-loop : goal.invariant-loop
invariant-loop g l =
    let remaining = g.R.Read.remaining in
    let contents = g.W.Write.contents in
    Running (remaining l.initial.source) (remaining l.source) (contents l.initial.sink) (contents l.sink) l.sheet l.counter
