use Rattle.std.proofs.Common.{rules, ◌≡◌, ◌<◌, arith, length}
use Rattle.cuts.proofs.Filling.{fill_none, fill-zeros, res-long, fill-fits, fill-cut, fill-copy}
use Rattle.cuts.proofs.CutCall.fill.Goals as goal

pub returns-then-is_empty : goal.returns-then-is_empty
returns-then-is_empty c = let e : length c.args.out.now ≡ 0 = search rules in fill_none c.args.out.now _ e

pub returns-then-is_empty-2 : goal.returns-then-is_empty-2
returns-then-is_empty-2 c = let e : length c.args.r.now ≡ 0 = search rules in fill-zeros _ c.args.r.now c.args.out.now _ e c.fill_run.ensures

pub shared_ref_as_front-cut_axes : goal.shared_ref_as_front-cut_axes
shared_ref_as_front-cut_axes c =
    let a : 0 < length c.args.r.now = search rules in
    let b : 0 < length c.args.out.now = search rules in
    omega (arith, res-long c.requires a b, c.requires.high)

pub returns-then-used-eq0 : goal.returns-then-used-eq0
returns-then-used-eq0 c =
    let a : 0 < length c.args.r.now = search rules in
    let b : 0 < length c.args.out.now = search rules in
    fill-copy c.args.r.now c.args.out.now c.requires a b c.cut_axes-used.ensures.0 c.cut_axes-used.ensures.1 c.if-used-eq0.true c.copy_run.ensures

pub cut-requires : goal.cut-requires
cut-requires c =
    let a : 0 < length c.args.r.now = search rules in
    let b : 0 < length c.args.out.now = search rules in
    fill-fits c.requires a b c.cut_axes-used.ensures.0 c.cut_axes-used.ensures.1 _ c.table_of-table.ensures

pub returns : goal.returns
returns c =
    let a : 0 < length c.args.r.now = search rules in
    let b : 0 < length c.args.out.now = search rules in
    fill-cut c.requires a b c.cut_axes-used.ensures.0 c.cut_axes-used.ensures.1 _ c.table_of-table.ensures c.args.r.now c.cut.ensures
