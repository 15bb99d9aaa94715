use Rattle.std.proofs.Common.{◌+◌, ◌*◌}
use Rattle.copying.proofs.Blockwise.{Blockwise}
use Rattle.turns.specs.Steps.{cut_blocks}
use Rattle.turns.proofs.shift.Given as goal

abbrev pub invariant-loop : goal.invariant-loop
invariant-loop l =
    let size = l.fn.w.length * l.fn.w.inner in
    Blockwise l.fn.w.outer size (cut_blocks l.r size (l.from + l.before)) l.initial.out l.out l.at l.counter
