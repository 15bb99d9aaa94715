use Rattle.std.proofs.Common.{arith, ℕ, Bool, ltb, get_or}
use borrow.Author.Tests.{lt-ltb, le-ltb}
use Rattle.meaning.proofs.Every.{all-kept, all-lost, all_end}
use Rattle.copying.proofs.all_below.Goals as goal
use Rattle.copying.proofs.all_below.Goals.{then-n-from, else-n-from}

pub loop-x-preserved : goal.loop-x-preserved
loop-x-preserved c =
    let at = c.args.at.now in
    let i = c.loop-x.x-index in
    let n = c.args.n in
    let test : ℕ → Bool = λ x. ltb x n in
    elim c.if-n-from.branch [
      | then-n-from w ↦ all-lost test at i c.loop-x.all c.loop-x.invariant 0 (omega arith) (le-ltb (get_or at i 0) n (omega (arith, c.from.ensures))) w.all-is
      | else-n-from w ↦ all-kept test at i c.loop-x.all c.loop-x.invariant 0 (omega arith) (lt-ltb (get_or at i 0) n (omega (arith, c.from.ensures))) w.all-is
    ]

pub returns : goal.returns
returns c = all_end (λ x. ltb x c.args.n) c.args.at.now c.loop-x.x-index c.loop-x.all c.loop-x.invariant (omega arith)
