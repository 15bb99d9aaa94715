use Rattle.std.proofs.Common.{sym, ◌∙◌}
use Rattle.std.proofs.lemmas.Result.{IfOk-at_ok}
use Rattle.answer.proofs.Early.{early-read, early-exit}
use Rattle.answer.proofs.Exits.{exit, asked_ok}
use Rattle.answer.proofs.Order.{own-replied}
use Rattle.transposes.proofs.Calls.{by_names, by-means, sent-replied, sending-at}
use Rattle.transposes.proofs.transpose_by.Goals as goal

pub returns-in_err-l : goal.returns-in_err-l
returns-in_err-l c K =
    early-exit (by_names _ K c.args.l.now c.args.r.now) c.ranges.g _ c.early_two.ensures.number c.in_err-l.was _ c.from_residual.ensures.1

pub returns-in_err-sent : goal.returns-in_err-sent
returns-in_err-sent c K =
    let fine = sym (early-read c.ranges.g c.early_two.result _ c.early_two.ensures.number) ∙ asked_ok c.in_ok-l.was in
    let o = c.in_ok-l.ensures.operands in
    own-replied (by_names _ K c.args.l.now c.args.r.now) _ fine
    (exit c.in_err-sent.was c.from_residual-in_err-sent.result c.from_residual-in_err-sent.ensures.1)
    (sending-at c.ranges.g o.0 o.1 c.sent_by.ensures).own_is

pub returns : goal.returns
returns c K =
    let fine = sym (early-read c.ranges.g c.early_two.result _ c.early_two.ensures.number) ∙ asked_ok c.in_ok-l.was in
    let o = c.in_ok-l.ensures.operands in
    let s = sending-at c.ranges.g o.0 o.1 c.sent_by.ensures in
    sent-replied (by-means _ _ _) (by_names _ K _ _) fine (sym s.own_is ∙ asked_ok c.in_ok-sent.was) (IfOk-at_ok _ c.in_ok-sent.was s.sent)
    c.transposed.ensures
