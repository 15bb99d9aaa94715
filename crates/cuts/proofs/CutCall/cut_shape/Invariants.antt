use Rattle.std.proofs.Common.{◌≡◌, ◌-◌, ◌++◌, length, take}
use lib.ListN.{replicate}
use Rattle.shape.specs.Shape.{max_rank}
use Rattle.cuts.specs.Steps.{cut_lengths}
use Rattle.cuts.proofs.CutCall.cut_shape.Given as goal

abbrev pub invariant-loop-axis : goal.invariant-loop-axis
invariant-loop-axis l =
    let zs = l.self.numbers.now in
    l.lens ≡ take l.axis (cut_lengths l.self.kind zs (take (length zs) l.self.lens)) ++ replicate (max_rank - l.axis) 0
