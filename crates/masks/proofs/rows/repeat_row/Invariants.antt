use Rattle.std.proofs.Common.{◌*◌}
use Rattle.masks.proofs.Chosen.{Chosen}
use Rattle.masks.proofs.rows.repeat_row.Given as goal

abbrev pub invariant-loop-i : goal.invariant-loop-i
invariant-loop-i l = Chosen (λ j. 0) l.r l.m l.inner l.fn.out l.out (l.i * l.inner) l.i
