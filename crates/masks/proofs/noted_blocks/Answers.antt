use Rattle.std.proofs.Common.{arith, rules, ◌≡◌, ◌≤◌, false, length}
use denote.Param.{number}
use Rattle.masks.specs.contracts.noted_blocks.{EXPANDS-type}
use Rattle.masks.proofs.Placing.{gathered-in, gathered-placed}
use Rattle.masks.proofs.noted_blocks.Goals as goal

pub slice_bounds-gather-end : goal.slice_bounds-gather-end
slice_bounds-gather-end g c =
    let h : EXPANDS-type (number g.row.EXPANDS) ≡ false = search rules in
    let short : length c.args.l.now ≤ length c.noted-at.result = omega (arith, c.requires.1.short) in
    let k = (rw h at c.requires.0) in
    omega (arith, gathered-in c.args.l.now c.args.b c.args.r.now c.args.out.now k (c.requires.1.other h) c.noted-at.result short c.noted-at.ensures)

pub returns : goal.returns
returns g c =
    let h : EXPANDS-type (number g.row.EXPANDS) ≡ false = search rules in
    let short : length c.args.l.now ≤ length c.noted-at.result = omega (arith, c.requires.1.short) in
    let k = (rw h at c.requires.0) in
    rw h
    (gathered-placed c.args.l.now c.args.b c.args.r.now c.args.out.now k (c.requires.1.other h) c.noted-at.result short c.noted-at.ensures _
    c.gather.ensures)
