use Rattle.std.proofs.Common.{◌≤◌, length, arith, take_all, rules, w32, SFits, to_z-of_z}
use Rattle.sheet_line.proofs.Readers.{so-far-stop, so_far_more, so-far-all}
use Rattle.sheet_line.proofs.numbers.Reader.elements.Goals as goal

pub returns-in_err-z : goal.returns-in_err-z
returns-in_err-z c = rw c.from_residual.ensures (so-far-stop c.loop-z.invariant c.loop-z-test.true c.in_err-z.ensures)

pub loop-z-preserved : goal.loop-z-preserved
loop-z-preserved c =
    let fits : SFits w32 c.in_ok-z.field-0 = search rules in
    rw (to_z-of_z fits) (so_far_more c.loop-z.invariant c.loop-z-test.true (omega arith) c.in_ok-z.ensures)

pub returns : goal.returns
returns c =
    let all : length c.loop-z.out ≤ length c.args.out.now = omega arith in
    rw (take_all _ c.loop-z.out all, ← c.reader.view_is) at (so-far-all c.loop-z.invariant (omega arith))
