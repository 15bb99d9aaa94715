use Rattle.std.proofs.Common.{rules, to_z-of_z, w32, SFits}
use Rattle.sheet_line.proofs.Calls.{no-primitive, no-origin, no-k, head-is}
use Rattle.sheet_line.proofs.numbers.Reader.head.Goals as goal

pub returns-in_err-primitive : goal.returns-in_err-primitive
returns-in_err-primitive c = rw c.from_residual.ensures (no-primitive c.in_err-primitive.ensures)

pub returns-in_err-origin : goal.returns-in_err-origin
returns-in_err-origin c = rw c.from_residual-in_err-origin.ensures (no-origin _ c.in_ok-primitive.ensures c.in_err-origin.ensures)

pub returns-in_err-k : goal.returns-in_err-k
returns-in_err-k c =
    rw c.from_residual-in_err-k.ensures (no-k _ c.in_ok-primitive.ensures _ c.in_ok-origin.ensures c.in_err-k.ensures)

pub returns : goal.returns
returns c =
    let p : SFits w32 c.in_ok-primitive.primitive = search rules in
    let q : SFits w32 c.in_ok-origin.origin = search rules in
    let s : SFits w32 c.in_ok-k.k = search rules in
    rw (to_z-of_z p, to_z-of_z q, to_z-of_z s) (head-is _ c.in_ok-primitive.ensures _ c.in_ok-origin.ensures _ c.in_ok-k.ensures)
