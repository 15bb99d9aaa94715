use Rattle.std.proofs.Common.{◌≡◌, get_or}
use Rattle.copying.specs.Steps.{filled}
use Rattle.vectors.specs.Steps.{element_of}
use Rattle.vectors.proofs.put_lengths.Given as goal

abbrev pub invariant-loop-i : goal.invariant-loop-i
invariant-loop-i l = l.out ≡ filled (λ j. element_of (get_or l.lens j 0)) l.i l.initial.out
