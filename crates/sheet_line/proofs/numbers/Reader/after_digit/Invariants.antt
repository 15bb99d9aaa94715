use Rattle.std.proofs.Common.{Bool, ◌≡◌, ◌<◌, ◌^◌, drop}
use Rattle.sheet_line.specs.Numbers.{magnitude, scan}
use Rattle.sheet_line.proofs.numbers.Reader.after_digit.Given as goal

abbrev pub invariant-loop-i : goal.invariant-loop-i
invariant-loop-i l =
    ((0 < l.n) × (l.n < 2 ^ 32)) × ((negative : Bool) → scan (magnitude negative l.first) l.rest ≡ scan (magnitude negative l.n) (drop l.i l.rest))
