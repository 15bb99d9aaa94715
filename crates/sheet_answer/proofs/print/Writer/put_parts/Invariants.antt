use Rattle.std.proofs.Common.{map}
use Rattle.sheet_line.specs.Text.{following}
use Rattle.sheet_answer.proofs.Writing.{Left}
use Rattle.sheet_answer.proofs.print.Writer.put_parts.Given as goal

abbrev pub invariant-loop-part : goal.invariant-loop-part
invariant-loop-part g l =
    Left l.fn.self l.self (following (map g.T.Part.text l.parts)) (following (map g.T.Part.text l.part-iterator.iter.rest.now))
