use Rattle.std.proofs.Common.{◌≡◌, ◌+◌, ◌*◌, [], ◌∷◌}
use Rattle.copying.specs.Steps.{filled}
use Rattle.cuts.specs.Steps.{cut_at}
use Rattle.cuts.proofs.cut_rows.Given as goal

abbrev pub invariant-loop-i : goal.invariant-loop-i
invariant-loop-i l = l.out ≡ filled (cut_at (l.rows ∷ (l.runs ∷ [])) l.r) (l.rows.start + l.i * l.rows.block) l.initial.out
