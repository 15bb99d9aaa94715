use Rattle.std.proofs.Common.{◌*◌, length, replicate, pos}
use Rattle.masks.proofs.Scattered.{Scattered}
use Rattle.masks.proofs.rows.opened_rows.Given as goal

abbrev pub invariant-loop-q : goal.invariant-loop-q
invariant-loop-q l = Scattered l.l l.r l.inner (replicate (length l.l * l.inner) (pos 0)) l.out (l.q * l.inner) l.q
