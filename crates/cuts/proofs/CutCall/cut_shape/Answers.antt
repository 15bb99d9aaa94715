use Rattle.std.proofs.Common.{rules, ◌≡◌, ◌∙◌, ap, arith, length, get_or, pos}
use mir.Syntax.{w32}
use mir.Val.{SFits}
use Rattle.shape.specs.Shape.{max_rank}
use Rattle.signed.proofs.Reading.{read32}
use Rattle.cuts.specs.Steps.{cut_length}
use Rattle.cuts.proofs.Building.{lengths-more, lengths-all}
use Rattle.cuts.proofs.CutCall.cut_shape.Goals as goal

pub loop-axis-preserved : goal.loop-axis-preserved
loop-axis-preserved c =
    let k = c.loop-axis.axis in
    let f : SFits w32 (get_or c.args.self.now.numbers.now k (pos 0)) = search rules in
    let long : length c.args.self.now.lens ≡ max_rank = search rules in
    rw (c.loop-axis.invariant)
    (lengths-more c.args.self.now.kind c.args.self.now.numbers.now c.args.self.now.lens k _ long (omega arith) (omega arith)
    (c.cut_length.ensures ∙ ap (λ x. cut_length c.args.self.now.kind x (get_or c.args.self.now.lens k 0)) (read32 _ f)))

pub returns : goal.returns
returns c =
    let all : c.loop-axis.axis ≡ length c.args.self.now.numbers.now = omega arith in
    let long : length c.args.self.now.lens ≡ max_rank = search rules in
    lengths-all c.args.self.now.kind c.args.self.now.numbers.now c.args.self.now.lens long (omega arith) all c.loop-axis.invariant
