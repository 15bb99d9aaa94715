use Rattle.std.proofs.Common.{length}
use Rattle.sheet_line.specs.Call.{next_number}
use Rattle.sheet_line.proofs.Readers.{SoFar}
use Rattle.sheet_line.proofs.numbers.Reader.elements.Given as goal

abbrev pub invariant-loop-z : goal.invariant-loop-z
invariant-loop-z l = SoFar next_number l.fn.self l.reader (length l.fn.out) l.out l.z-index
