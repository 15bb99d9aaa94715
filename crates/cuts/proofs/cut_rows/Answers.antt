use Rattle.std.proofs.Common.{◌≡◌, arith, refl}
use borrow.Author.Tests.{eqb-true}
use Rattle.cuts.proofs.Cutting.{cut-begin, cut-end}
use Rattle.cuts.proofs.Rows.{rows_step}
use Rattle.cuts.proofs.cut_rows.Goals as goal

pub loop-i-init : goal.loop-i-init
loop-i-init c = cut-begin refl c.args.r.now c.requires.0 c.clear_rows.ensures

pub loop-i-preserved : goal.loop-i-preserved
loop-i-preserved c =
    rows_step c.args.r.now c.requires (λ e. eqb-true _ _ e) c.clear_rows.ensures c.loop-i-test.true c.loop-i.invariant c.copy_run.ensures

pub returns : goal.returns
returns c =
    let all : c.loop-i.i ≡ c.args.rows.now.len = omega arith in
    cut-end refl c.args.r.now c.requires.0 c.clear_rows.ensures all c.loop-i.invariant
