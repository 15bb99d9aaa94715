use Rattle.std.proofs.Common.{◌≡◌, true, length, take}
use Rattle.shape.specs.Shape.{small}
use Rattle.sheet_line.specs.Call.{max_held, natural}
use Rattle.sheet_line.proofs.Readers.{SoFar}
use Rattle.sheet_line.proofs.numbers.Reader.lengths.Given as goal

abbrev pub invariant-loop-n : goal.invariant-loop-n
invariant-loop-n l = SoFar (natural max_held) l.fn.self l.self (length l.fn.lens) l.lens l.n-index × (small (take l.n-index l.lens) ≡ true)
