use Rattle.std.proofs.Common.{arith, rules, ◌≡◌, ◌∙◌, length, get_or, pos}
use Rattle.masks.proofs.Ones.{test-one, test-other, kept-list, kept-all, kept-no}
use Rattle.masks.proofs.kept_count.Goals as goal

pub returns-in_default : goal.returns-in_default
returns-in_default c =
    let n = length c.args.l.now in
    let other : n ≡ 1 → ⊥ = search rules in
    c.count_ones.ensures ∙ kept-list c.args.l.now c.args.n other

pub returns-then-z-eq1 : goal.returns-then-z-eq1
returns-then-z-eq1 c = kept-all c.args.l.now c.args.n (omega arith) (test-one (get_or c.args.l.now 0 (pos 0)) (search rules) c.if-z-eq1.true)

pub returns-else-z-eq1 : goal.returns-else-z-eq1
returns-else-z-eq1 c = kept-no c.args.l.now c.args.n (omega arith) (test-other (get_or c.args.l.now 0 (pos 0)) (search rules) c.if-z-eq1.false)
