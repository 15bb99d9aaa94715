use Rattle.std.proofs.Common.{ap, map, le_trans}
use Rattle.std.proofs.lemmas.List.{nil_from_length}
use Rattle.sheet_line.specs.Text.{following}
use Rattle.sheet_answer.proofs.Writing.{left-room, left-more, left-empty}
use Rattle.sheet_answer.proofs.Parts.{following-last, last-short}
use Rattle.sheet_answer.proofs.print.Writer.put_parts.Goals as goal

pub put-requires : goal.put-requires
put-requires g c = le_trans (last-short g.T.Part.text _ _ c.in-Some.ensures.steps) (left-room c.loop-part.invariant c.requires)

pub loop-part-preserved : goal.loop-part-preserved
loop-part-preserved g c = left-more c.loop-part.invariant c.put.ensures _ (following-last g.T.Part.text _ _ c.in-Some.ensures.steps)

pub returns : goal.returns
unfolding following
returns g c = left-empty c.loop-part.invariant (ap (λ l. following (map g.T.Part.text l)) (nil_from_length _ c.in-None.ensures.steps.0))
