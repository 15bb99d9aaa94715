use Rattle.std.proofs.Common.{◌≤◌, ◌<◌, rules}
use Rattle.shape.specs.Shape.{max_rank, around_of}
use Rattle.shape.proofs.Surround.{all-zero, around-is}
use Rattle.shape.proofs.Shape.around.Goals as goal

pub returns-then-not-has_axis : goal.returns-then-not-has_axis
unfolding around_of
returns-then-not-has_axis c = rw (← c.if-not-has_axis.ensures) (all-zero _ _ _ c.default.ensures)

pub returns : goal.returns
returns c =
    let s = c.args.self in
    let high : s.rank ≤ max_rank = search rules in
    let on : c.args.axis < s.rank = search rules in
    around-is s c.args.axis high on _ _ c.held_count.ensures c.held_count-2.ensures
