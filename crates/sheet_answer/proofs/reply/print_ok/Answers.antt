use Rattle.std.proofs.Common.{ℕ, ◌≡◌, ◌≤◌, [], refl, arith, length-take}
use Rattle.shape.specs.declared.Shape.{Shape}
use Rattle.shape.specs.Shape.{max_rank, max_count, count_of}
use Rattle.shape.proofs.Counts.{good-count, good-rank}
use Rattle.sheet_answer.specs.Answer.{result_in, reply_line}
use Rattle.sheet_answer.proofs.Answers.{nothing-to-print, no_array, good-reply}
use Rattle.sheet_answer.proofs.reply.print_ok.Goals as goal
use Rattle.sheet_answer.proofs.reply.print_ok.Goals.{Joined-then-count-gt-MAX_COUNT}

nothing : (c : Joined-then-count-gt-MAX_COUNT) → reply_line c.args.line 0 (result_in c.args.shape c.args.out.now) ≡ []
nothing c = no_array c.args.line c.args.shape c.args.out.now c.count-count.ensures c.then-count-gt-MAX_COUNT.either

pub returns-then-count-gt-MAX_COUNT-clause-count : goal.returns-then-count-gt-MAX_COUNT-clause-count
returns-then-count-gt-MAX_COUNT-clause-count c = rw (nothing c) (refl, omega arith)

pub returns-then-count-gt-MAX_COUNT-clause-text : goal.returns-then-count-gt-MAX_COUNT-clause-text
returns-then-count-gt-MAX_COUNT-clause-text c = rw (nothing c) (nothing-to-print c.args.text.now)

pub returns-then-count-gt-MAX_COUNT-clause-room : goal.returns-then-count-gt-MAX_COUNT-clause-room
returns-then-count-gt-MAX_COUNT-clause-room c few = rw (nothing c) (omega arith)

ranked : (s : Shape) {n : ℕ} → n ≡ count_of s → n ≤ max_count → s.rank ≤ max_rank
ranked s e h = good-rank s (good-count s (omega (arith, e)))

pub shared_ref_as_front-print_array : goal.shared_ref_as_front-print_array
shared_ref_as_front-print_array c = ranked c.args.shape c.count-count.ensures (omega arith)

pub returns-clause-count : goal.returns-clause-count
returns-clause-count c =
    rw (good-reply c.args.line c.args.shape c.args.out.now c.count-count.ensures (omega arith) (omega arith)) c.print_array.ensures.count

pub returns-clause-text : goal.returns-clause-text
returns-clause-text c =
    rw (good-reply c.args.line c.args.shape c.args.out.now c.count-count.ensures (omega arith) (omega arith)) c.print_array.ensures.text

pub returns-clause-room : goal.returns-clause-room
returns-clause-room c few =
    rw (good-reply c.args.line c.args.shape c.args.out.now c.count-count.ensures (omega arith) (omega arith))
    (c.print_array.ensures.room (omega (arith, length-take c.count-count.result c.args.out.now)))
