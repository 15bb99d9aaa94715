use Rattle.std.proofs.Common.{arith}
use Rattle.transposes.proofs.Placing.{reach_from, reach-inner, placed-none, placed_one, placed-more}
use Rattle.transposes.proofs.put_plane.Goals as goal

pub loop-i-init : goal.loop-i-init
loop-i-init c = record { placed = placed-none _; starts = reach_from c.requires }

pub put_line-requires : goal.put_line-requires
put_line-requires c = reach-inner c.args.r.now c.args.out.now c.loop-i.out c.requires c.loop-i.invariant.placed.room c.loop-i.i (omega arith)

pub loop-i-preserved : goal.loop-i-preserved
loop-i-preserved c = record {
  placed = placed-more c.loop-i.invariant.placed (placed_one _ _ (omega (arith, c.loop-i.invariant.starts)) c.put_line.ensures);
  starts = c.loop-i.invariant.starts;
}
