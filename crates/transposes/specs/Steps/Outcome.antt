-- What comes of a call of 15 or 26, as its code tells it.
use Rattle.std.specs.Prelude.{Result, ℕ, ◌≡◌, List, ◌++◌, drop, length, ℤ}
use Rattle.std.specs.Result.{IfOk, OnOk, OnErr}
use Rattle.shape.specs.declared.Shape.{Shape}
use Rattle.shape.specs.Shape.{count_of, shape_of}
use Rattle.meaning.specs.Array.{array_of}
use Rattle.meaning.specs.Primitives.{sent_lengths}
use Rattle.answer.specs.Answer.{late}
use Rattle.answer.specs.Refused.{asked}
use Rattle.answer.specs.declared.refusal.Refusal.{Refusal}
use Rattle.transposes.specs.declared.Sent.{Sent}
use Rattle.transposes.specs.Steps.Sent.{Route, sent_elements}

-- A refusal of the primitive's own, or where R's axes are sent.
pub record Sending (r : Result Sent Refusal) (own : ℕ) (s : Route) : Type 0 where
  pub own_is : asked r ≡ own
  pub sent : IfOk r (λ t. t ≡ s)

-- LIMIT and SPACE, or the shape and the elements; a refusal leaves the buffer.
pub record Moved (s : Route) (old new : List ℤ) (result : Result Shape Refusal) : Type 0 where
  pub asks : asked result ≡ late (count_of (shape_of (sent_lengths s.to (array_of s.operand).lengths))) (length old)
  pub shape_is : IfOk result (λ t. t ≡ shape_of (sent_lengths s.to (array_of s.operand).lengths))
  pub elements : OnOk result (new ≡ sent_elements s.to (array_of s.operand)
      ++ drop (count_of (shape_of (sent_lengths s.to (array_of s.operand).lengths))) old)
  pub kept : OnErr result (new ≡ old)
