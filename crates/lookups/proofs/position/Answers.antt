use Rattle.std.proofs.Common.{◌≡◌, ◌∙◌, ◌++◌, None, Some}
use mathlib.Core.Path.{ap₂}
use Rattle.std.proofs.lemmas.List.{take-append-drop}
use Rattle.signed.proofs.Reading.{read32}
use Rattle.lookups.proofs.Finding.{in-front, in_back}
use Rattle.lookups.proofs.position.Goals as goal
use Rattle.lookups.proofs.position.Goals.{In-Some, After-position_from}

parts : (c : In-Some) → c.in-Some.near.now ++ c.in-Some.rest.now ≡ c.args.l.now
parts c = let s = c.in-Some.ensures.cases in ap₂ (λ a b. a ++ b) s.1 s.2 ∙ take-append-drop 8 c.args.l.now

pub returns-in-Some-first_at : goal.returns-in-Some-first_at
returns-in-Some-first_at c =
    let f = rw (read32 _ c.ranges.x) at c.in-Some-first_at.ensures in
    rw (← parts (goal.at.returns-in-Some-first_at c).In-Some) (in-front _ c.in-Some.near.now c.in-Some.rest.now c.in-Some-first_at.at f)

pub returns-in_err-position_from : goal.returns-in_err-position_from
returns-in_err-position_from c =
    let n = rw (read32 _ c.ranges.x) at c.in_default-first_at.ensures in
    let f = rw (read32 _ c.ranges.x) at c.in_err-position_from.ensures in
    rw (c.from_residual.ensures, ← parts (goal.at.returns-in_err-position_from c).In-Some) (in_back _ c.in-Some.near.now c.in-Some.rest.now None n f)

pub returns : goal.returns
returns c =
    let n = rw (read32 _ c.ranges.x) at c.in_default-first_at.ensures in
    let f = rw (read32 _ c.ranges.x) at c.in_ok-position_from.ensures in
    rw (← parts (goal.at.returns c).In-Some)
    (rw c.in-Some.ensures.cases.3 at (in_back _ c.in-Some.near.now c.in-Some.rest.now (Some c.in_ok-position_from.field-0) n f))
