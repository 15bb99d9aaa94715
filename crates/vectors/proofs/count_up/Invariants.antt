use Rattle.std.proofs.Common.{◌≡◌, ◌+◌, pos, nat_abs, ◌+ℤ◌}
use Rattle.copying.specs.Steps.{filled}
use Rattle.vectors.proofs.count_up.Given as goal

abbrev pub invariant-loop-o : goal.invariant-loop-o
invariant-loop-o l = (l.x ≡ pos (nat_abs l.first + l.o-index)) × (l.out ≡ filled (λ j. l.first +ℤ pos j) l.o-index l.fn.out)
