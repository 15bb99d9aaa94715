use Rattle.std.proofs.Common.{◌≡◌, arith, rules}
use Rattle.sheet_answer.specs.Answer.{no_line, printed_to}
use Rattle.sheet_answer.proofs.Writing.{put-more}
use Rattle.sheet_answer.proofs.Answers.{no_room, all-printed, no_text, no_length}
use Rattle.sheet_answer.proofs.reply.print_no.Goals as goal

pub returns-then-text-need-clause-count : goal.returns-then-text-need-clause-count
returns-then-text-need-clause-count c = omega (arith, no_length c.args.line c.args.refusal)

pub returns-then-text-need-clause-text : goal.returns-then-text-need-clause-text
returns-then-text-need-clause-text c = no_room (no_line c.args.line c.args.refusal) c.args.text.now (omega (arith, no_length c.args.line c.args.refusal))

pub returns-clause-count : goal.returns-clause-count
returns-clause-count c = (omega (arith, no_length c.args.line c.args.refusal), omega arith)

pub returns-clause-text : goal.returns-clause-text
returns-clause-text c =
    let all = put-more (put-more (put-more c.put_byte.ensures c.put_part.ensures) c.put_word.ensures) c.put_digits.ensures in
    let new = c.new-answer.ensures in
    let p : c.put_digits.new.self.text.now ≡ printed_to (no_line c.args.line c.args.refusal) c.args.text.now =
    all-printed (no_text c.args.line c.args.refusal) (omega (arith, new.at, no_length c.args.line c.args.refusal)) new.text all in
    rw (← p) (search rules)
