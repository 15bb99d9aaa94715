use Rattle.std.proofs.Common.{arith, ◌≡◌, ◌∙◌, sym, ◌*◌, ℕ}
use mathlib.Core.Path.{ap, ap₂}
use Rattle.shape.specs.declared.Around.{Around}
use Rattle.signed.proofs.Finding.{read-from-zero}
use Rattle.signed.proofs.Reading.{read32}
use Rattle.shape.specs.Shape.{count}
use Rattle.meaning.specs.Terms.{from_zero}
use Rattle.meaning.specs.Item.{item_refusal, item_lengths}
use Rattle.answer.specs.Answer.{lent}
use Rattle.answer.proofs.Exits.{asked_ok, asked_err, number-some}
use Rattle.items.specs.declared.Part.{Part}
use Rattle.items.specs.Part.{item_part}
use Rattle.items.proofs.Given.{Given, given, part-refused, part-given}
use Rattle.items.proofs.leading_part.Goals as goal
use Rattle.items.proofs.leading_part.Goals.{After-around-length}

-- What the default is.
empty-part : {a n : ℕ} → a ≡ 0 → n ≡ 0 → ◌≡◌ {A = Part} (record { start = a; length = n }) (record { start = 0; length = 0 })
empty-part e f = rw (e, f)

pub returns-in_default : goal.returns-in_default
returns-in_default c =
    let n = c.found.ensures.number ∙ ap₂ (item_refusal _) (read32 _ c.ranges.g) (read32 _ c.ranges.i) in
    empty-part c.default.ensures.0 c.default.ensures.1
    ∙ part-refused c.args.r.now c.args.g c.args.i (λ z. number-some _ (sym (asked_err c.in_default.is) ∙ n ∙ z))

-- R as it was read, where nothing is refused, and where its item starts and how long it is.
same : (c : After-around-length) → lent c.r.inside.shape c.r.inside.elements.now ≡ c.args.r.now
same c = c.r.view_is ∙ c.in-Ok.ensures.item.0

none : (c : After-around-length) → item_refusal (lent c.r.inside.shape c.r.inside.elements.now) c.args.g c.args.i ≡ 0
none c =
    ap (λ o. item_refusal o c.args.g c.args.i) (same c)
    ∙ sym (c.found.ensures.number ∙ ap₂ (item_refusal _) (read32 _ c.ranges.g) (read32 _ c.ranges.i)) ∙ asked_ok c.in-Ok.is

found-given : (c : After-around-length) → Given c.r.inside.shape c.r.inside.elements.now c.args.g c.args.i
found-given c = given _ _ c.args.g c.args.i c.r.invariant.long (none c)

at : (c : After-around-length) → c.in-Ok.at ≡ from_zero c.args.g c.args.i
at c = c.in-Ok.ensures.item.1 ∙ read-from-zero _ _ c.ranges.i c.ranges.g

size : (c : After-around-length) → c.around-length.result.inner ≡ count (item_lengths (lent c.r.inside.shape c.r.inside.elements.now))
size c = ap (λ (a : Around). a.inner) c.around-length.ensures ∙ (found-given c).inner

pub overflow_mul-start : goal.overflow_mul-start
overflow_mul-start c =
    let g = found-given c in
    omega (arith, ap₂ ◌*◌ (at c) (size c), g.room, g.operand.count_small)

pub returns : goal.returns
returns c =
    part-given (lent c.r.inside.shape c.r.inside.elements.now) c.args.g c.args.i _ _ (found-given c).none (at c) (size c)
    ∙ ap (λ o. item_part o c.args.g c.args.i) (same c)
