-- Paper 01, "The sheet program": the answer to a line, from its bytes to the bytes printed.
use Rattle.std.specs.Prelude.{ℕ, List, replicate, pos}
use Rattle.std.proofs.Math.Option.{Option, none, some}
use Rattle.shape.specs.Shape.{shape_of}
use Rattle.meaning.specs.Array.{Operand, Array}
use Rattle.meaning.specs.Reply.{Reply, reply}
use Rattle.sheet_line.specs.Call.{max_held, Call, line_call}
use Rattle.sheet_answer.specs.Answer.{result_in, reply_line, bad_line}

-- An operand of a line.
abbrev pub operand_of : Array → Operand
operand_of a = record { shape = shape_of a.lengths; buffer = a.elements }

-- The reply to a line's call; the program holds 1,024 elements for the result.
unfoldable pub reply_to : Call → Reply
reply_to c =
    reply c.head.primitive c.head.origin c.head.k (operand_of c.left) (operand_of c.right) (replicate max_held (pos 0))

unfoldable pub answer_to : ℕ → Option Call → List ℕ
answer_to line none = bad_line line
answer_to line (some c) = let r : Reply = reply_to c in reply_line line r.number (result_in r.shape r.out)

-- What is printed for line number `line`.
unfoldable pub sheet_answer : ℕ → List ℕ → List ℕ
sheet_answer line bytes = answer_to line (line_call max_held max_held bytes)
