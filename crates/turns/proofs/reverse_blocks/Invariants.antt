use Rattle.std.proofs.Common.{◌*◌}
use Rattle.copying.proofs.Blockwise.{Blockwise}
use Rattle.turns.specs.declared.Turn.TheVariants.{Back}
use Rattle.turns.specs.Steps.{turned_at}
use Rattle.turns.proofs.reverse_blocks.Given as goal

abbrev pub invariant-loop : goal.invariant-loop
invariant-loop l = Blockwise l.w.outer (l.w.length * l.w.inner) (turned_at Back l.r l.w.length l.w.inner) l.initial.out l.out l.at l.counter
