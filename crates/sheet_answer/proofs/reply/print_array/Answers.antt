use Rattle.std.proofs.Common.{◌≡◌, arith, rules}
use Rattle.sheet_answer.specs.Answer.{ok_line, printed_to}
use Rattle.sheet_answer.proofs.Writing.{put-more}
use Rattle.sheet_answer.proofs.Answers.{no_room, all-printed, ok-text, ok-length}
use Rattle.sheet_answer.proofs.reply.print_array.Goals as goal

pub returns-then-text-need-clause-count : goal.returns-then-text-need-clause-count
returns-then-text-need-clause-count c = omega (arith, ok-length c.args.line c.args.lens.now c.args.out.now)

pub returns-then-text-need-clause-text : goal.returns-then-text-need-clause-text
returns-then-text-need-clause-text c =
    no_room (ok_line c.args.line (record { lengths = c.args.lens.now; elements = c.args.out.now })) c.args.text.now (
    omega (arith, ok-length c.args.line c.args.lens.now c.args.out.now))

pub returns-then-text-need-clause-room : goal.returns-then-text-need-clause-room
returns-then-text-need-clause-room c few = omega (arith, ok-length c.args.line c.args.lens.now c.args.out.now)

pub returns-clause-count : goal.returns-clause-count
returns-clause-count c = (omega (arith, ok-length c.args.line c.args.lens.now c.args.out.now), omega arith)

pub returns-clause-text : goal.returns-clause-text
returns-clause-text c =
    let line = ok_line c.args.line (record { lengths = c.args.lens.now; elements = c.args.out.now }) in
    let values = put-more (put-more c.put_byte.ensures c.put_parts.ensures) c.put_parts-2.ensures in
    let all = put-more (put-more (put-more values c.put_part.ensures) c.put_word.ensures) c.put_digits.ensures in
    let p : c.put_digits.new.self.text.now ≡ printed_to line c.args.text.now =
    all-printed (ok-text c.args.line c.args.lens.now c.args.out.now)
    (omega (arith, c.new-answer.ensures.at, ok-length c.args.line c.args.lens.now c.args.out.now)) c.new-answer.ensures.text all in
    rw (← p) (search rules)

pub returns-clause-room : goal.returns-clause-room
returns-clause-room c few = omega (arith, ok-length c.args.line c.args.lens.now c.args.out.now)
