use Rattle.std.proofs.Common.{arith, ◌∙◌}
use Rattle.copying.proofs.Runs.{filled_none}
use Rattle.joins.proofs.Blocks.{wide}
use Rattle.joins.proofs.Into.{into-left, into-right, into-small, into-out}
use Rattle.joins.proofs.join_into.Goals as goal

pub returns-then-total-eq0 : goal.returns-then-total-eq0
returns-then-total-eq0 c = rw c.if-total-eq0.true (filled_none _ _)

pub widened-x-requires : goal.widened-x-requires
widened-x-requires c =
    let a = c.args.along in
    omega (arith, into-small c.requires a.high a.has a.long c.if-total-eq0.false c.around-w.ensures)

pub widened-y-requires : goal.widened-y-requires
widened-y-requires c =
    let a = c.args.along in
    omega (arith, into-small c.requires a.high a.has a.long c.if-total-eq0.false c.around-w.ensures)

pub overflow_add-size : goal.overflow_add-size
overflow_add-size c =
    let a = c.args.along in
    let x = wide (c.x.view_is ∙ c.widened-x.ensures) in
    let y = wide (c.y.view_is ∙ c.widened-y.ensures) in
    omega (arith, x, y, into-small c.requires a.high a.has a.long c.if-total-eq0.false c.around-w.ensures)

pub put_runs-requires : goal.put_runs-requires
put_runs-requires c =
    let a = c.args.along in
    let x = wide (c.x.view_is ∙ c.widened-x.ensures) in
    let y = wide (c.y.view_is ∙ c.widened-y.ensures) in
    rw (c.widened-x.ensures, x, y) (into-left c.requires a.high a.has a.long c.if-total-eq0.false c.around-w.ensures)

pub put_runs-requires-2 : goal.put_runs-requires-2
put_runs-requires-2 c =
    let a = c.args.along in
    let x = wide (c.x.view_is ∙ c.widened-x.ensures) in
    let y = wide (c.y.view_is ∙ c.widened-y.ensures) in
    rw (c.put_runs.auto.out, c.widened-y.ensures, x, y) (into-right c.requires a.high a.has a.long c.if-total-eq0.false c.around-w.ensures)

pub returns : goal.returns
returns c =
    let a = c.args.along in
    let x = wide (c.x.view_is ∙ c.widened-x.ensures) in
    let y = wide (c.y.view_is ∙ c.widened-y.ensures) in
    let p = rw (c.widened-x.ensures, x, y) at c.put_runs.ensures in
    let q = rw (c.widened-y.ensures, x, y) at c.put_runs-2.ensures in
    into-out c.requires a.high a.has a.long c.if-total-eq0.false c.around-w.ensures c.args.out.now c.put_runs.new.out c.put_runs-2.new.out p q
