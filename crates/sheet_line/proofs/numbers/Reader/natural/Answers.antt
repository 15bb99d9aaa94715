use Rattle.std.proofs.Common.{rules, w32, SFits, to_z-of_z}
use Rattle.sheet_line.proofs.Options.{no-value, value-is}
use Rattle.sheet_line.proofs.Readers.{no-natural, natural-over, natural-good, no-count, count-is}
use Rattle.sheet_line.proofs.numbers.Reader.natural.Goals as goal

pub returns-in_err-number-clause-taken : goal.returns-in_err-number-clause-taken
returns-in_err-number-clause-taken c = rw c.from_residual.ensures (no-natural c.args.most c.in_err-number.ensures)

pub returns-in_err-n-clause-taken : goal.returns-in_err-n-clause-taken
returns-in_err-n-clause-taken c =
    let fits : SFits w32 c.in_ok-number.field-0 = search rules in
    let negative = no-value _ _ (rw (to_z-of_z fits) at c.try_from.ensures) c.in_err-n.ensures.value in
    rw c.from_residual-in_err-n.ensures (no-count c.args.most _ fits negative c.in_ok-number.ensures)

pub returns-then-n-most-clause-taken : goal.returns-then-n-most-clause-taken
returns-then-n-most-clause-taken c =
    let fits : SFits w32 c.in_ok-number.field-0 = search rules in
    let count = value-is _ _ c.in_ok-n.n (rw (to_z-of_z fits) at c.try_from.ensures) c.in_ok-n.ensures.value in
    natural-good c.args.most _ (count-is _ c.in_ok-n.n count.0 count.1 c.in_ok-number.ensures) c.if-n-most.true

pub returns-else-n-most-clause-taken : goal.returns-else-n-most-clause-taken
returns-else-n-most-clause-taken c =
    let fits : SFits w32 c.in_ok-number.field-0 = search rules in
    let count = value-is _ _ c.in_ok-n.n (rw (to_z-of_z fits) at c.try_from.ensures) c.in_ok-n.ensures.value in
    natural-over c.args.most _ (count-is _ c.in_ok-n.n count.0 count.1 c.in_ok-number.ensures) c.if-n-most.false
