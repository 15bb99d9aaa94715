use Rattle.std.proofs.Common.{arith}
use Rattle.sheet_answer.specs.Answer.{result_in}
use Rattle.sheet_answer.proofs.Answers.{refusal-reply}
use Rattle.sheet_answer.proofs.Room.{no-fits}
use Rattle.sheet_answer.proofs.print_reply.Goals as goal

pub returns-clause-count : goal.returns-clause-count
returns-clause-count c =
    rw (refusal-reply c.args.line_number c.args.number (result_in c.args.shape c.args.out.now) c.if-number-eq0.false) c.print_no.ensures.count

pub returns-clause-text : goal.returns-clause-text
returns-clause-text c =
    rw (refusal-reply c.args.line_number c.args.number (result_in c.args.shape c.args.out.now) c.if-number-eq0.false) c.print_no.ensures.text

pub returns-clause-room : goal.returns-clause-room
returns-clause-room c few =
    rw (refusal-reply c.args.line_number c.args.number (result_in c.args.shape c.args.out.now) c.if-number-eq0.false)
    (no-fits c.args.line_number (omega arith) c.args.number (omega arith))
