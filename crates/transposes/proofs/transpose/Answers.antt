use Rattle.std.proofs.Common.{sym, ◌∙◌}
use Rattle.answer.proofs.Early.{early-read, early-exit}
use Rattle.answer.proofs.Exits.{asked_ok}
use Rattle.transposes.proofs.Calls.{transpose-names, transpose-own, transpose-means, sent-replied}
use Rattle.transposes.proofs.transpose.Goals as goal

pub returns-in_err-r : goal.returns-in_err-r
returns-in_err-r c K L =
    early-exit (transpose-names _ K L c.args.r.now) c.ranges.g _ c.early_one.ensures.number c.in_err-r.was _ c.from_residual.ensures.1

pub returns : goal.returns
returns c K L =
    let fine = sym (early-read c.ranges.g c.early_one.result _ c.early_one.ensures.number) ∙ asked_ok c.in_ok-r.was in
    rw (sym c.in_ok-r.ensures.operand)
    (sent-replied (transpose-means _) (transpose-names _ K L _) (rw (sym c.in_ok-r.ensures.operand) at fine) (transpose-own _) c.backwards-sent.ensures
    c.transposed.ensures)
