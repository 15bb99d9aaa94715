use Rattle.std.proofs.Common.{arith, rules, ◌∙◌, get_or, set, pos, w32}
use mathlib.Core.Path.{refl, ap, ap₂}
use mir.Val.{SFits}
use Rattle.signed.proofs.Reading.{read32}
use Rattle.copying.proofs.Runs.{filled_none, filled-one}
use Rattle.selects.proofs.Rows.{one-row}
use Rattle.selects.proofs.select_line.Goals as goal

pub loop-i-init : goal.loop-i-init
loop-i-init c = filled_none _ _

pub loop-i-preserved : goal.loop-i-preserved
loop-i-preserved c =
    let a = c.args in
    let i = c.loop-i.i in
    let w : SFits w32 (get_or c.args.r.now c.at.result (pos 0)) = search rules in
    let e = read32 _ w ∙ ap (λ x. get_or a.r.now x (pos 0)) c.at.ensures ∙ one-row a.choice.now a.r.now i in
    ap₂ (λ x y. set x i y) c.loop-i.invariant e
    ∙ filled-one _ (pos 0) _ i a.out.now (omega (arith, c.requires.space, c.loop-i-test.true, c.len-i-end.ensures)) refl
