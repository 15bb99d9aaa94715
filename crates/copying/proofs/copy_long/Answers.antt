use Rattle.std.proofs.Common.{arith, ◌∙◌, ◌≤◌, ap, length, take, replicate, pos}
use Rattle.std.proofs.lemmas.List.{length-replicate}
use Rattle.shape.specs.Shape.{max_count}
use Rattle.copying.specs.Runs.{copied}
use Rattle.copying.proofs.Runs.{copied_through}
use Rattle.copying.proofs.copy_long.Goals as goal

pub returns : goal.returns
unfolding copied
returns c =
    let src = c.args.src.now in
    let out = c.args.out.now in
    let held = replicate max_count (pos 0) in
    let room : length src ≤ length held = omega (arith, c.requires, length-replicate max_count (pos 0)) in
    c.copy_each-2.ensures ∙ ap (λ held. copied (take (length src) held) out) c.copy_each.ensures ∙ copied_through src held out room
