use Rattle.std.proofs.Common.{sym, ◌∙◌, ◌-◌, ◌+◌, length, drop, length-drop, take_all, arith}
use Rattle.sheet.proofs.Sent.{handed_on}
use Rattle.sheet.proofs.Cut.{none_taken, line_taken, chunk_taken, chunk_short}
use Rattle.sheet.proofs.Sheet.take_chunk.Goals as goal

pub loop-end-init : goal.loop-end-init
loop-end-init g c = none_taken _ _ _

pub loop-end-preserved : goal.loop-end-preserved
loop-end-preserved g c =
    let rest = c.loop-end.rest.now in
    let end = c.in-Some.end in
    line_taken c.loop-end.invariant end _ _ _ (sym c.newline_in.ensures ∙ c.in-Some.is) (grind arith)
    (take_all (length rest - (end + 1)) (drop (end + 1) rest) (omega (arith, length-drop (end + 1) rest)))
    c.in_ok-take_line.ensures.taken c.in_ok-take_line.ensures.sent

pub returns-in_err-take_line-clause-short : goal.returns-in_err-take_line-clause-short
returns-in_err-take_line-clause-short g c =
    handed_on _ c.from_residual.result c.from_residual.ensures.1 (chunk_short c.loop-end.invariant c.in_err-take_line.ensures.short)

pub returns-clause-taken : goal.returns-clause-taken
returns-clause-taken g c bytes o = (chunk_taken c.loop-end.invariant _ (sym c.newline_in.ensures ∙ c.in_default.is) c.hold_run.ensures bytes o).took

pub returns-clause-sent : goal.returns-clause-sent
returns-clause-sent g c bytes o = (chunk_taken c.loop-end.invariant _ (sym c.newline_in.ensures ∙ c.in_default.is) c.hold_run.ensures bytes o).sent
