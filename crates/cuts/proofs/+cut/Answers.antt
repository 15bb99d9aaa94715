use Rattle.std.proofs.Common.{◌≡◌, arith, length, rules}
use Rattle.cuts.proofs.Cutting.{cut-begin, cut-end, cut-last, cut_step, cut-nothing, fits_on}
use Rattle.cuts.proofs.+cut.Goals as goal

pub returns-in_default : goal.returns-in_default
returns-in_default t c = cut-nothing c.args.table.now c.args.r.now c.args.out.now c.in_default.ensures.cases c.requires c.copy_run.ensures

pub returns-then-is_empty : goal.returns-then-is_empty
returns-then-is_empty t c =
    let e = c.in-Some.ensures.cases.0 in
    let f = fits_on e c.requires in
    let none : length c.in-Some.rest.now ≡ 0 = search rules in
    cut-last e c.args.r.now f.0 c.clear_outside.ensures none f.1 c.copy_run-then-is_empty.ensures

pub loop-i-init : goal.loop-i-init
loop-i-init t c =
    let e = c.in-Some.ensures.cases.0 in
    cut-begin e c.args.r.now (fits_on e c.requires).0 c.clear_outside.ensures

pub loop-i-preserved : goal.loop-i-preserved
loop-i-preserved t c =
    let e = c.in-Some.ensures.cases.0 in
    cut_step e c.args.r.now (fits_on e c.requires).0 c.clear_outside.ensures c.loop-i-test.true c.loop-i.invariant c.cut.ensures

pub returns : goal.returns
returns t c =
    let e = c.in-Some.ensures.cases.0 in
    let all : c.loop-i.i ≡ c.in-Some.axis.now.len = omega arith in
    cut-end e c.args.r.now (fits_on e c.requires).0 c.clear_outside.ensures all c.loop-i.invariant
