use Rattle.std.proofs.Common.{rules, ◌∙◌, length, get_or, pos, w32}
use mathlib.Core.Path.{ap}
use lib.ListN.{replicate}
use mir.Val.{SFits}
use Rattle.signed.proofs.Reading.{read32}
use Rattle.joins.proofs.Blocks.{one-run, many-run}
use Rattle.joins.proofs.put_run.Goals as goal

pub returns-then-run : goal.returns-then-run
returns-then-run c =
    let q = rw (← c.run.view_is) at c.requires in
    let f : SFits w32 (get_or c.run.inside.elements.now 0 (pos 0)) = search rules in
    rw (← c.run.view_is) (one-run _ _ _ c.args.o q.0 c.if-run.true (c.fill_run.ensures ∙ ap (replicate (length c.args.out.now)) (read32 _ f)))

pub returns : goal.returns
returns c =
    let q = rw (← c.run.view_is) at c.requires in
    let room = rw c.if-run.false at q.1.has in
    rw (← c.run.view_is) (many-run _ _ _ c.args.o q.0 c.if-run.false room c.copy_run.ensures)
