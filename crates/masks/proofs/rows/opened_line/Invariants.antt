use Rattle.masks.proofs.Scattered.{Scattered}
use Rattle.masks.proofs.rows.opened_line.Given as goal

abbrev pub invariant-loop-q : goal.invariant-loop-q
invariant-loop-q l = Scattered l.l l.r 1 l.fn.out l.out l.q l.q
