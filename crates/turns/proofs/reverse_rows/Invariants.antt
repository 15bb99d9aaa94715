use Rattle.std.proofs.Common.{◌≡◌, ◌+◌, ◌*◌}
use Rattle.copying.specs.Steps.{filled}
use Rattle.turns.specs.Steps.{back_at}
use Rattle.turns.proofs.reverse_rows.Given as goal

-- The rows from i on are written, up to `to`.
abbrev pub invariant-loop-i : goal.invariant-loop-i
invariant-loop-i l = (l.to + l.i * l.w.inner ≡ l.w.length * l.w.inner) × (l.out ≡ filled (back_at l.r l.w.length l.w.inner) l.to l.initial.out)
