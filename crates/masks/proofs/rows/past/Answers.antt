use Rattle.std.proofs.Common.{arith, rules, ◌≡◌, ◌∙◌, not, get_or, pos}
use denote.Param.{number}
use Rattle.masks.specs.Steps.Actions.{one_at}
use Rattle.masks.specs.contracts.rows.past.{ONE-type}
use Rattle.masks.proofs.Ones.{read-one}
use Rattle.masks.proofs.Stretches.{other-bool, same_bool, alike-more}
use Rattle.masks.proofs.rows.past.Goals as goal

pub returns-then-l-e : goal.returns-then-l-e
returns-then-l-e g c =
    let one : one_at c.args.l.now c.loop-e.e ≡ not (ONE-type (number g.row.ONE)) =
    read-one (get_or c.args.l.now c.loop-e.e (pos 0)) (search rules) ∙ other-bool _ _ c.if-l-e.true in
    record { starts = omega arith; within = omega arith; alike = c.loop-e.invariant; ends = λ h. one }

pub loop-e-preserved : goal.loop-e-preserved
loop-e-preserved g c =
    alike-more _ c.args.l.now c.args.i c.loop-e.e c.loop-e.invariant
    (read-one (get_or c.args.l.now c.loop-e.e (pos 0)) (search rules) ∙ same_bool _ _ c.if-l-e.false)
