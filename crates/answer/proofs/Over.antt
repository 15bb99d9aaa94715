-- More lengths than a shape has: LIMIT.
use mathlib.Core.Path.{◌≡◌, refl, sym, ◌∙◌}
use mathlib.Core.List.{List, []}
use mathlib.Core.Bool.{false}
use Prim.Native.Nat.{ℕ, ◌<◌}
use native.Mathlib.Omega.{arith}
use borrow.Author.Tests.{lt-leb}
use lib.ListN.{length}
use lib.IntN.{ℤ, pos}
use Rattle.shape.specs.declared.Shape.{Shape}
use Rattle.shape.specs.Shape.{max_rank, max_count, count_of, good_shape}
use Rattle.shape.proofs.Bools.{refuted}
use Rattle.shape.proofs.Counts.{good-rank, count-bad}
use Rattle.shape.proofs.Made.{Stands}
use Rattle.meaning.specs.Array.{Operand}
use Rattle.meaning.specs.Primitives.{Meaning}
use Rattle.meaning.specs.Refusal.{number}
use Rattle.meaning.specs.Refusal.Refusal.{LIMIT}
use Rattle.meaning.specs.Reply.{reply}
use Rattle.answer.specs.Answer.{own, late, Replied}
use Rattle.answer.specs.declared.Answer.{Answer}
use Rattle.answer.proofs.Exits.{Refuses}
use Rattle.answer.proofs.Order.{early_of, Names, late-first, late-replied}

-- The reply to a call whose result would have more axes than a shape can have.
pub over-limit : {n operands : ℕ} {G K : ℤ} {L R : Operand} {m : Meaning} → Names n operands G K L R m → early_of operands G L R ≡ 0
    → own n m.refusals ≡ 0 → max_rank < length m.lengths → (out : List ℤ) → {a : Answer} {w : ℕ} → Refuses a w → w ≡ number LIMIT
    → Replied a out (reply (pos n) G K L R out)
over-limit {m = m} names fine none more out e q =
    let s : Shape = record { rank = length m.lengths; lens = [] } in
    let bad : good_shape s ≡ false = refuted (good_shape s) (λ g. omega (arith, good-rank s g)) in
    let stands : Stands s m.lengths = record { rank = refl; lengths = λ l. absurd (omega (arith, l, more)) } in
    let limit : late (count_of s) (length out) ≡ number LIMIT =
    late-first _ _ ∙ rw (lt-leb (count_of s) max_count (omega (arith, count-bad s bad))) in
    late-replied (record { names = names; fine = fine; none = none; stands = stands }) out (q ∙ sym limit) refl e
