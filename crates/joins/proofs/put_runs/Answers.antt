use Rattle.std.proofs.Common.{arith, ◌≡◌, ◌+◌, ◌≤◌, length}
use Rattle.copying.proofs.Parts.{part-long}
use Rattle.copying.proofs.Blockwise.{blockwise-none, blockwise-at, blockwise-all}
use Rattle.joins.proofs.Blocks.{wide, run_room, run_more}
use Rattle.joins.proofs.put_runs.Goals as goal

pub loop-o-init : goal.loop-o-init
loop-o-init c = (omega arith, blockwise-at (blockwise-none _ _ _ _))

pub loop-o-preserved : goal.loop-o-preserved
loop-o-preserved c =
    let inv = c.loop-o.invariant in
    let more = c.loop-o-test.true in
    let w : c.run.inside.width ≡ c.args.run.now.width = wide c.run.view_is in
    let room : c.loop-o.at + c.run.inside.width ≤ length c.loop-o.out =
    omega (arith, w, inv.0, inv.1.long, c.requires.within, run_room c.args.run.now c.requires inv.1 more) in
    let put = rw (← c.run.view_is) at c.put_run.ensures in
    let fits = rw (← c.run.view_is) at c.requires in
    let held = rw (← c.run.view_is) at inv.1 in (
      omega (arith, inv.0),
      rw (← c.run.view_is)
          (run_more _ fits held more c.loop-o.at inv.0 _ _ (part-long c.loop-o.out c.loop-o.at _ room) c.put_run.auto.out put),
    )

pub returns : goal.returns
returns c = blockwise-all c.loop-o.invariant.1 c.loop-o-test.false
