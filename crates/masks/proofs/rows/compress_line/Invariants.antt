use Rattle.std.proofs.Common.{◌-◌, length, pos}
use Rattle.meaning.specs.Terms.{ones}
use Rattle.masks.specs.Steps.Rows.{kept_rows}
use Rattle.masks.proofs.Kept.{Front}
use Rattle.masks.proofs.rows.compress_line.Given as goal

abbrev pub invariant-loop-to : goal.invariant-loop-to
invariant-loop-to l = Front l.l (kept_rows (ones l.l) 1 l.r) (pos 0) l.initial.out l.out l.to l.i

abbrev pub decreases-loop-to : goal.decreases-loop-to
decreases-loop-to l = length l.l - l.i
