use Rattle.std.proofs.Common.{arith, ◌≡◌, true, sym, ◌∙◌}
use Rattle.std.proofs.lemmas.Grind.{common_steps}
use Rattle.copying.specs.Gather.{small_blocks, gathers}
use Rattle.copying.proofs.Gathering.{small_is, product-two, product-three}
use Rattle.copying.proofs.gathers.Goals as goal
use Rattle.copying.proofs.gathers.Goals.{then-small, else-small, then-b-n, else-b-n, then-b-m, else-b-m, then-first-b, else-first-b}

pub overflow_mul-b : goal.overflow_mul-b
overflow_mul-b c = let s = small_is (sym c.small.ensures ∙ c.if-small.true) in product-two s.taken s.inner

pub overflow_mul-b-then-small : goal.overflow_mul-b-then-small
overflow_mul-b-then-small c = let s = small_is (sym c.small.ensures ∙ c.if-small.true) in product-three s.outer s.taken s.inner

pub overflow_mul-b-then-b-n : goal.overflow_mul-b-then-b-n
overflow_mul-b-then-b-n c =
    let e : small_blocks c.args.b ≡ true = grind (arith, common_steps) in
    let s = small_is e in product-two s.made s.inner

pub overflow_mul-b-then-b-n-2 : goal.overflow_mul-b-then-b-n-2
overflow_mul-b-then-b-n-2 c =
    let e : small_blocks c.args.b ≡ true = grind (arith, common_steps) in
    let s = small_is e in product-three s.outer s.made s.inner

pub returns-then-at-b : goal.returns-then-at-b
unfolding gathers
returns-then-at-b c = grind (arith, common_steps)

pub returns-else-at-b : goal.returns-else-at-b
unfolding gathers
returns-else-at-b c = grind (arith, common_steps)
