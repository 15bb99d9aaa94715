use Rattle.std.proofs.Common.{rules, arith, ◌∙◌, ap, get_or, pos, w32}
use mir.Val.{SFits}
use Rattle.signed.proofs.Reading.{read32}
use Rattle.meaning.specs.Array.{tab}
use Rattle.copying.proofs.Runs.{filled_none, filled-one, filled-whole}
use Rattle.vectors.specs.Steps.{element_of}
use Rattle.vectors.proofs.put_lengths.Goals as goal

pub loop-i-init : goal.loop-i-init
loop-i-init c = filled_none _ _

pub loop-i-preserved : goal.loop-i-preserved
loop-i-preserved c =
    let i = c.loop-i.i in
    let f : SFits w32 c.element.result = search rules in
    rw (c.loop-i.invariant) (filled-one _ (pos 0) _ i c.args.out.now (omega (arith, c.requires, c.loop-i-test.true)) (read32 _ f ∙ c.element.ensures))

pub returns : goal.returns
returns c =
    c.loop-i.invariant
    ∙ filled-whole _ c.loop-i.i c.args.out.now (omega (arith, c.requires, c.loop-i-test.false))
    ∙ ap (λ k. tab k (λ j. element_of (get_or c.args.lens j 0))) (omega (arith, c.requires, c.loop-i-test.false, c.loop-i.auto.i-end))
