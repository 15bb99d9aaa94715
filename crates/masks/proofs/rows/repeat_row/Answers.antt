use Rattle.std.proofs.Common.{arith, rules, ◌∙◌, get_or, pos}
use Rattle.signed.proofs.Reading.{read32}
use Rattle.masks.proofs.Chosen.{chosen_none_at, chosen-next, repeated-one, repeated-row}
use Rattle.masks.proofs.rows.repeat_row.Goals as goal

pub returns-then-inner-eq1 : goal.returns-then-inner-eq1
returns-then-inner-eq1 c =
    c.fill_run.ensures
    ∙ repeated-one c.args.r.now c.args.m c.args.inner c.args.out.now _ c.if-inner-eq1.true (omega arith)
    (read32 (get_or c.args.r.now 0 (pos 0)) (search rules))

pub loop-i-init : goal.loop-i-init
loop-i-init c = chosen_none_at _ _ _ _ _

pub loop-i-preserved : goal.loop-i-preserved
loop-i-preserved c = chosen-next c.loop-i.i (repeated-row c.loop-i.invariant (omega arith) (omega arith) (omega arith) _ c.copy_run.ensures)
