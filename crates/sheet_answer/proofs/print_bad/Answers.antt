use Rattle.std.proofs.Common.{◌≡◌, arith, rules}
use Rattle.sheet_answer.specs.Answer.{bad_line, printed_to}
use Rattle.sheet_answer.proofs.Writing.{put-more}
use Rattle.sheet_answer.proofs.Answers.{no_room, all-printed, bad-text, bad-length}
use Rattle.sheet_answer.proofs.print_bad.Goals as goal

pub returns-then-text-need-clause-count : goal.returns-then-text-need-clause-count
returns-then-text-need-clause-count c = omega (arith, bad-length c.args.line_number)

pub returns-then-text-need-clause-text : goal.returns-then-text-need-clause-text
returns-then-text-need-clause-text c = no_room (bad_line c.args.line_number) c.args.text.now (omega (arith, bad-length c.args.line_number))

pub returns-clause-count : goal.returns-clause-count
returns-clause-count c = (omega (arith, bad-length c.args.line_number), omega arith)

pub returns-clause-text : goal.returns-clause-text
returns-clause-text c =
    let line = bad_line c.args.line_number in
    let new = c.new-answer.ensures in
    let all = put-more c.put_word.ensures c.put_digits.ensures in
    let p : c.put_digits.new.self.text.now ≡ printed_to line c.args.text.now =
    all-printed (bad-text c.args.line_number) (omega (arith, new.at, bad-length c.args.line_number)) new.text all in
    rw (← p) (search rules)
