use Rattle.std.proofs.Common.{◌≡◌, ◌≤◌, ◌<◌, ◌-◌, ◌∙◌, sym, length, rules, arith}
use Rattle.shape.specs.Shape.{max_rank, counted, without, without_axis}
use Rattle.shape.proofs.Made.{made-is, without-axis-is}
use Rattle.shape.proofs.Shifted.{moved_front}
use Rattle.shape.proofs.Shape.without_axis.Goals as goal

pub returns-then-not-has_axis : goal.returns-then-not-has_axis
unfolding without_axis
returns-then-not-has_axis c = rw (← c.if-not-has_axis.ensures) c.scalar.ensures

pub returns : goal.returns
returns c =
    let s = c.args.self in
    let k = c.args.axis in
    let high : s.rank ≤ max_rank = search rules in
    let on : k < s.rank = search rules in
    let long : length s.lens ≡ max_rank = search rules in
    c.of_lengths.ensures
    ∙ made-is (without k (counted s)) (s.rank - 1) _ (omega arith) (moved_front s.lens _ k s.rank on (omega arith) c.copy_within.ensures.after)
    ∙ sym (without-axis-is s k high on)
