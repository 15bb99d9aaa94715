use Rattle.std.proofs.lemmas.Result.{IfErr-weaker}
use Rattle.sheet.proofs.Sent.{handed_on}
use Rattle.sheet.proofs.Cut.{cut_before, cut_at_end}
use Rattle.sheet.proofs.Sheet.end.Goals as goal

pub returns-in_err-end_line-clause-short : goal.returns-in_err-end_line-clause-short
returns-in_err-end_line-clause-short g c =
    handed_on _ c.from_residual.result c.from_residual.ensures.1 (λ bytes o. cut_before bytes (rw c.requires at c.in_err-end_line.ensures.short))

pub returns-clause-short : goal.returns-clause-short
returns-clause-short g c =
    let ended = c.in_ok-end_line.ensures in
    IfErr-weaker c.write.result _ _
    (λ s short bytes o. cut_at_end bytes (rw c.requires at (ended.sent bytes (rw c.bytes-last.ensures o))) (rw ended.line at short)) c.write.ensures.short
