-- The program's refusals are those of the definitions.
use Rattle.std.specs.Prelude.{ℕ, Result, Ok, Err}
use Rattle.shape.specs.declared.Shape.{Shape}
use Rattle.meaning.specs.Refusal.{Refusal, number}
use Rattle.meaning.specs.Refusal.Refusal.{NUMBER, FORM, ORIGIN, RANK, AXIS, LENGTH, DOMAIN, INDEX, LIMIT, SPACE}
use Rattle.answer.specs.Answer.{accepted, refused}
use Rattle.answer.specs.declared.Answer.{Answer}
use Rattle.answer.specs.declared.refusal.Refusal.TheVariants as coded
use Rattle.answer.specs.declared.refusal.Refusal as code

-- Which of the definitions' a refusal of the program is.
abbrev pub meant : code.Refusal → Refusal
meant coded.Number = NUMBER
meant coded.Form = FORM
meant coded.Origin = ORIGIN
meant coded.Rank = RANK
meant coded.Axis = AXIS
meant coded.Length = LENGTH
meant coded.Domain = DOMAIN
meant coded.Index = INDEX
meant coded.Limit = LIMIT
meant coded.Space = SPACE

-- The number of what was asked: 0 where nothing is refused.
unfoldable pub asked : {A : Type 0} → Result A code.Refusal → ℕ
asked (Ok u) = 0
asked (Err e) = number (meant e)

-- A call's outcome as an answer.
unfoldable pub answered : Result Shape code.Refusal → Answer
answered (Ok s) = accepted s
answered (Err e) = refused (number (meant e))
