-- Paper 01, "The sheet program": its example, line by line.
use Prim.Native.Nat.{ℕ, suc}
use Prim.Native.Char.{code}
use Prim.Native.String.{String}
use Prim.Native.String as Text
use mathlib.Core.Path.{◌≡◌, refl}
use mathlib.Core.List.{List, [], ◌∷◌, ◌++◌, map}
use Rattle.shape.specs.Shape.{count, small, shape_rule}
use Rattle.shape.specs.Place.{index, place}
use Rattle.meaning.specs.Array.{good_form, at, tab_from, tab, build}
use Rattle.meaning.specs.Refusal.{precedence, meets, winner}
use Rattle.meaning.specs.Terms.{int_same, within, modulo, every, along}
use Rattle.meaning.specs.Primitives.{rotate, sent_to, smallest, axes_to, sent_lengths, brought_back, occurs_in, all_occur, transpose_by}
use Rattle.meaning.specs.Reply.{primitives, named, is_origin, refusals, settle, reply}
use Rattle.sheet_line.specs.Text.{newline, digits_within, digits, decimal, following, spaced}
use Rattle.sheet_line.specs.Numbers.{fits, digit_of, first, more, signed, ended, scan, numbers}
use Rattle.sheet_line.specs.Call.{natural, many, operand, head, call, call_of, line_call}
use Rattle.sheet_answer.specs.Answer.{answer_line, ok_line, no_line, bad_line, reply_line}
use Rattle.sheet_answer.specs.Sheet.{reply_to, answer_to, sheet_answer}

-- The bytes of a text.
abbrev bytes : String → List ℕ
bytes Text.[] = []
bytes (Text.◌∷◌ c s) = code c ∷ bytes s

-- A line of the paper's input, and the line of its output.
record Example : Type 0 where
  input : String
  output : String

abbrev paper : List Example
paper =
    record { input = "25 1 1 0 1 1 4 10 20 30 40"; output = "1 ok 1 4 20 30 40 10" }
    ∷ record { input = "26 0 0 1 2 0 0 2 2 3 1 2 3 4 5 6"; output = "2 ok 1 2 1 5" }
    ∷ record { input = "25 2 1 0 1 1 1 7"; output = "3 no 3" }
    ∷ record { input = "25 1"; output = "4 bad" }
    ∷ []

abbrev printed_from : ℕ → List Example → List (List ℕ)
printed_from line [] = []
printed_from line (e ∷ es) = sheet_answer line (bytes e.input) ∷ printed_from (suc line) es

pub paper-example : printed_from 1 paper ≡ map (λ e. bytes e.output ++ newline ∷ []) paper
unfolding count small shape_rule index place good_form at tab_from tab build precedence meets winner int_same within modulo every along
    rotate sent_to smallest axes_to sent_lengths brought_back occurs_in all_occur transpose_by primitives named is_origin refusals settle reply
    digits_within digits decimal following spaced fits digit_of first more signed ended scan numbers natural many operand head call call_of line_call
    answer_line ok_line no_line bad_line reply_line reply_to answer_to sheet_answer
paper-example = refl
