use Rattle.std.proofs.Common.{◌*◌, length}
use Rattle.copying.proofs.Blockwise.{Blockwise}
use Rattle.selects.specs.Steps.{rows_at}
use Rattle.selects.proofs.select_rows.Given as goal

abbrev pub invariant-loop-q : goal.invariant-loop-q
invariant-loop-q l = Blockwise (length l.choice.numbers) l.inner (rows_at l.choice l.inner l.r) l.initial.out l.out (l.q * l.inner) l.q
