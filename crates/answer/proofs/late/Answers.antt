use Rattle.std.proofs.Common.{arith}
use mathlib.Core.Path.{refl}
use borrow.Author.Tests.{le-leb, lt-leb}
use Rattle.shape.specs.Shape.{max_count}
use Rattle.answer.specs.Refused.{asked}
use Rattle.answer.proofs.Order.{late-first}
use Rattle.answer.proofs.late.Goals as goal

pub returns-then-count-gt-MAX_COUNT : goal.returns-then-count-gt-MAX_COUNT
unfolding asked
returns-then-count-gt-MAX_COUNT c = rw (late-first, lt-leb c.args.count max_count (omega arith)) refl

pub returns-then-room-count : goal.returns-then-room-count
unfolding asked
returns-then-room-count c =
    rw (late-first, le-leb c.args.count max_count (omega arith), lt-leb c.args.count c.args.room (omega arith)) refl

pub returns : goal.returns
unfolding asked
returns c = rw (late-first, le-leb c.args.count max_count (omega arith), le-leb c.args.count c.args.room (omega arith)) refl
