use Rattle.std.proofs.Common.{◌≡◌, ◌∙◌, true, false, sym, rules, arith}
use Rattle.shape.specs.Shape.{good_shape}
use Rattle.shape.proofs.Counts.{good-rank, good-count, bad-count}
use Rattle.shape.proofs.Successor.{inside-is, successor-marked, successor-bad, successor-outside}
use Rattle.shape.proofs.Place.successor.Goals as goal
use Rattle.shape.proofs.Place.successor.Goals.{then-marked-via-then-marked, then-marked-via-else-marked+then-count-gt-MAX_COUNT}
use Rattle.shape.proofs.Place.successor.Goals.{then-marked-via-else-marked+else-count-gt-MAX_COUNT+then-not-inside}

pub inside-requires : goal.inside-requires
inside-requires c = good-rank c.args.s (good-count c.args.s (omega arith))

pub returns-then-marked : goal.returns-then-marked
returns-then-marked c =
    let p = c.args.self in
    let s = c.args.s in
    c.at_end.ensures
    ∙ elim c.then-marked.branch [
      | then-marked-via-then-marked w ↦ sym (successor-marked p s w.if-marked.true)
      | then-marked-via-else-marked+then-count-gt-MAX_COUNT w ↦ sym (successor-bad p s (bad-count s (omega arith)))
      | then-marked-via-else-marked+else-count-gt-MAX_COUNT+then-not-inside w ↦
          let good : good_shape s ≡ true = good-count s (omega arith) in
          sym (successor-outside p s (sym (inside-is p s false (search rules) (search rules) (good-rank s good) w.if-not-inside.ensures)))
    ]

pub stepped-requires : goal.stepped-requires
stepped-requires c =
    let p = c.args.self in
    let s = c.args.s in
    let good : good_shape s ≡ true = good-count s (omega arith) in
    (c.if-marked.false, (good, sym (inside-is p s true (search rules) (search rules) (good-rank s good) c.if-not-inside.ensures)))
