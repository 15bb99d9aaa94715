use Rattle.std.proofs.Common.{◌-◌, arith, length, length-drop, drop, take_all, None, Some}
use Rattle.signed.proofs.Reading.{read32}
use Rattle.lookups.specs.Steps.{Finds}
use Rattle.lookups.proofs.Finding.{found-after}
use Rattle.lookups.proofs.position_from.Goals as goal
use Rattle.lookups.proofs.position_from.Goals.{After-first_at}

after : (c : After-first_at) → Finds c.args.x (drop c.passed-start.result c.args.l.now) c.first_at.result
after c =
    let n = c.passed-start.result in
    let l = c.args.l.now in
    let rest = take_all (length l - n) (drop n l) (rw length-drop (omega arith)) in
    rw (read32 _ c.ranges.x, rest) at c.first_at.ensures

pub returns-in_err-first_at : goal.returns-in_err-first_at
returns-in_err-first_at c =
    let f = rw c.in_err-first_at.was at (after (goal.at.returns-in_err-first_at c).After-first_at) in
    rw c.from_residual.ensures (found-after _ _ _ (rw (read32 _ c.ranges.x) at c.passed-start.ensures) None f)

pub returns : goal.returns
returns c =
    let f = rw c.in_ok-first_at.was at (after (goal.at.returns c).After-first_at) in
    found-after _ _ _ (rw (read32 _ c.ranges.x) at c.passed-start.ensures) (Some c.in_ok-first_at.field-0) f
