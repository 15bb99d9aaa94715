use Rattle.std.proofs.Common.{refl, ap, ◌∙◌, drop, ◌≡◌, ◌≤◌, length, take, arith, length-take-le}
use Rattle.shape.specs.Shape.{max_rank, count}
use Rattle.sheet_line.proofs.Operands.{Made, made, held-is, no-rank, no-lengths, too-many, no-elements, operand-is}
use Rattle.sheet_line.proofs.numbers.Reader.operand.Goals as goal

pub returns-in_err-rank-clause-taken : goal.returns-in_err-rank-clause-taken
returns-in_err-rank-clause-taken c = rw c.from_residual.ensures (no-rank _ c.in_err-rank.ensures.taken)

pub returns-in_err-lengths-clause-taken : goal.returns-in_err-lengths-clause-taken
returns-in_err-lengths-clause-taken c =
    let h : c.in_ok-rank.rank ≤ max_rank = c.in_ok-rank.ensures.bound in
    let none_taken = rw (length-take-le c.in_ok-rank.rank _ h) at c.in_err-lengths.ensures.taken in
    rw c.from_residual-in_err-lengths.ensures (no-lengths _ _ c.in_ok-rank.ensures.taken none_taken)

pub returns-then-min-count-clause-taken : goal.returns-then-min-count-clause-taken
returns-then-min-count-clause-taken c =
    let h : c.in_ok-rank.rank ≤ max_rank = c.in_ok-rank.ensures.bound in
    let m =
    made c.in_ok-rank.rank c.lengths.new.lens _ c.of_lengths-shape.result c.count-count.result h refl c.lengths.auto.lens
    c.in_ok-lengths.ensures.bound c.of_lengths-shape.ensures c.count-count.ensures in
    let lengths = rw (length-take-le c.in_ok-rank.rank _ h) at c.in_ok-lengths.ensures.taken in
    too-many _ _ c.in_ok-rank.ensures.taken c.lengths.new.lens lengths (omega (arith, m.held))

pub returns-in_err-elements-clause-taken : goal.returns-in_err-elements-clause-taken
returns-in_err-elements-clause-taken c =
    let h : c.in_ok-rank.rank ≤ max_rank = c.in_ok-rank.ensures.bound in
    let ns = c.lengths.new.lens in
    let n = c.count-count.result in
    let m =
    made c.in_ok-rank.rank ns _ c.of_lengths-shape.result n h refl c.lengths.auto.lens
    c.in_ok-lengths.ensures.bound c.of_lengths-shape.ensures c.count-count.ensures in
    let lengths = rw (length-take-le c.in_ok-rank.rank _ h) at c.in_ok-lengths.ensures.taken in
    let all : length (take n c.args.out.now) ≡ count ns = length-take-le n c.args.out.now (omega arith) ∙ omega (arith, m.held) in
    let none_taken = rw all at c.in_err-elements.ensures in
    rw c.from_residual-in_err-elements.ensures
    (no-elements _ _ c.in_ok-rank.ensures.taken ns lengths (omega (arith, m.held)) none_taken)

-- The shape that was made, where all was found.
made-of : (c : goal.In_ok-elements) → Made c.lengths.new.lens c.of_lengths-shape.result c.count-count.result
made-of c =
    made c.in_ok-rank.rank c.lengths.new.lens _ c.of_lengths-shape.result c.count-count.result c.in_ok-rank.ensures.bound refl c.lengths.auto.lens
    c.in_ok-lengths.ensures.bound c.of_lengths-shape.ensures c.count-count.ensures

long : (c : goal.In_ok-elements) → length c.elements.new.out ≡ c.count-count.result
long c = c.elements.auto.out ∙ length-take-le c.count-count.result c.args.out.now (omega arith)

pub returns-clause-taken : goal.returns-clause-taken
returns-clause-taken c =
    let h : c.in_ok-rank.rank ≤ max_rank = c.in_ok-rank.ensures.bound in
    let ns = c.lengths.new.lens in
    let n = c.count-count.result in
    let m = made-of c in
    let lengths = rw (length-take-le c.in_ok-rank.rank _ h) at c.in_ok-lengths.ensures.taken in
    let all : length (take n c.args.out.now) ≡ count ns = length-take-le n c.args.out.now (omega arith) ∙ omega (arith, m.held) in
    rw (held-is ns _ n m (omega arith) c.elements.new.out (drop n c.args.out.now) (long c))
    (operand-is _ _ c.in_ok-rank.ensures.taken ns lengths (omega (arith, m.held)) (rw all at c.in_ok-elements.ensures))

pub returns-clause-stored : goal.returns-clause-stored
returns-clause-stored c =
    let n = c.count-count.result in
    rw (ap (λ a. a.elements) (held-is _ _ n (made-of c) (omega arith) c.elements.new.out (drop n c.args.out.now) (long c)), long c)
