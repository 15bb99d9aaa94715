use Rattle.std.proofs.Common.{◌≡◌, ◌&&◌, ltb, drop}
use Rattle.meaning.specs.Terms.{every}
use Rattle.copying.proofs.all_below.Given as goal

abbrev pub invariant-loop-x : goal.invariant-loop-x
invariant-loop-x l = every (λ x. ltb x l.n) l.at ≡ (l.all && every (λ x. ltb x l.n) (drop l.x-index l.at))
