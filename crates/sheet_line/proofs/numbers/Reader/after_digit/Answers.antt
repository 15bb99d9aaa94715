use Rattle.std.proofs.Common.{◌≡◌, ℕ, Bool, ◌+◌, ◌*◌, ◌<◌, List, ◌∷◌, length, get_or, drop, ◌∙◌, arith, add-one, drop-cons, drop_of_length-le}
use Rattle.std.proofs.lemmas.List.{take_rest}
use Rattle.sheet_line.specs.Numbers.{magnitude}
use Rattle.sheet_line.proofs.Options.{no-value, value-is}
use Rattle.sheet_line.proofs.Cursor.{end-ends, blank-ends, stops, goes_on, over}
use Rattle.sheet_line.proofs.numbers.Reader.after_digit.Goals as goal

-- The byte at a turn, and those after it.
here : (rest : List ℕ) (i : ℕ) → i < length rest → drop i rest ≡ get_or rest i 0 ∷ drop (i + 1) rest
here rest i h = rw add-one (drop-cons rest i 0 h)

pub returns-then-b-ne32 : goal.returns-then-b-ne32
returns-then-b-ne32 c negative =
    let rest = c.args.rest.now in
    let i = c.loop-i.i in
    rw (c.loop-i.invariant.1 negative, here rest i c.loop-i-test.true)
    (rw (stops (get_or rest i 0) (drop (i + 1) rest) c.if-b-ne32.true negative c.loop-i.n c.in_default.ensures))

pub returns-in_default : goal.returns-in_default
returns-in_default c negative =
    let rest = c.args.rest.now in
    let i = c.loop-i.i in
    simp take_rest
    (rw (c.loop-i.invariant.1 negative, here rest i c.loop-i-test.true, c.if-b-ne32.false)
    (blank-ends (magnitude negative c.loop-i.n) (drop (i + 1) rest)))

pub returns-in_err-n : goal.returns-in_err-n
returns-in_err-n c negative =
    let rest = c.args.rest.now in
    let i = c.loop-i.i in
    let d = c.in-Some.d in
    let large = no-value _ _ c.try_from.ensures c.in_err-n.ensures.value in
    let more = goes_on (get_or rest i 0) (drop (i + 1) rest) negative c.loop-i.n d c.loop-i.invariant.0.0 c.in-Some.ensures in
    rw (c.from_residual.ensures, c.loop-i.invariant.1 negative, here rest i c.loop-i-test.true, more)
    (rw (over negative (c.loop-i.n * 10 + d) (drop (i + 1) rest) (omega (arith, large))))

pub loop-i-preserved : goal.loop-i-preserved
loop-i-preserved c =
    let rest = c.args.rest.now in
    let i = c.loop-i.i in
    let d = c.in-Some.d in
    let value = value-is _ _ c.in_ok-n.n c.try_from.ensures c.in_ok-n.ensures.value in
    let next : c.in_ok-n.n ≡ c.loop-i.n * 10 + d = omega (arith, value.1) in
    let more = λ (negative : Bool). goes_on (get_or rest i 0) (drop (i + 1) rest) negative c.loop-i.n d c.loop-i.invariant.0.0 c.in-Some.ensures in
    ((omega (arith, next), omega (arith, value)), λ negative. c.loop-i.invariant.1 negative ∙ rw (here rest i c.loop-i-test.true, next) (more negative))

pub returns : goal.returns
returns c negative =
    let end = drop_of_length-le c.args.rest.now c.loop-i-test.false in
    rw (c.loop-i.invariant.1 negative, end) (end-ends (magnitude negative c.loop-i.n))
