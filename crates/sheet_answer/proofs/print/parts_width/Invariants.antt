use Rattle.sheet_answer.proofs.Parts.{Summed}
use Rattle.sheet_answer.proofs.print.parts_width.Given as goal

abbrev pub invariant-loop-part : goal.invariant-loop-part
invariant-loop-part g l = Summed g.T.Part.text l.parts g.T.Part.most l.sum l.part-index
