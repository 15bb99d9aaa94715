use Rattle.cuts.proofs.Building.{Built}
use Rattle.cuts.proofs.CutCall.table_of.Given as goal

abbrev pub invariant-loop-axis : goal.invariant-loop-axis
invariant-loop-axis l = Built l.self.kind l.self.lens l.self.numbers.now l.table l.stride l.block l.axis
