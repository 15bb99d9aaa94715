use Rattle.std.proofs.Common.{◌∙◌}
use Rattle.turns.proofs.Rows.{line-reversed}
use Rattle.turns.proofs.reverse_block.Goals as goal

pub returns-then-w-eq1 : goal.returns-then-w-eq1
returns-then-w-eq1 c =
    let w = c.args.w in
    c.reverse_run.ensures ∙ line-reversed c.args.r.now c.args.out.now w.length w.inner c.if-w-eq1.true c.requires.0 c.requires.1
