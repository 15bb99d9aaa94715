use Rattle.std.proofs.Common.{◌≡◌, ◌∙◌, ◌-◌, sym, get_or, rules, arith, Fits, w64}
use Rattle.shape.proofs.Counts.{good-rank}
use Rattle.shape.proofs.Successor.{LiesIn, carry-start, carry-below, carry-on, carry-stop, carry-end}
use Rattle.shape.proofs.Place.stepped.Goals as goal

pub cleared-positions-requires : goal.cleared-positions-requires
cleared-positions-requires c = good-rank c.args.s c.requires.1.0

pub loop-i-init : goal.loop-i-init
loop-i-init c =
    let r = c.requires in
    let lying : LiesIn c.args.self c.args.s = record { all-positions = search rules; all-lens = search rules; unmarked = r.0; good = r.1.0; lies = r.1.1 } in
    carry-start c.args.self c.args.s c.cleared-positions.result lying c.cleared-positions.ensures

pub overflow_add-next : goal.overflow_add-next
overflow_add-next c =
    let i = c.loop-i.i in
    let f : Fits w64 (get_or c.args.s.lens (i - 1) 0) = search rules in
    omega (arith, carry-below c.args.self c.args.s c.loop-i.positions i (i - 1) (omega arith) c.loop-i.invariant)

pub returns-then-next-s : goal.returns-then-next-s
returns-then-next-s c =
    let i = c.loop-i.i in
    sym (carry-stop c.args.self c.args.s c.loop-i.positions i (i - 1) (omega arith) c.loop-i.invariant (omega arith))

pub loop-i-preserved : goal.loop-i-preserved
loop-i-preserved c =
    let i = c.loop-i.i in
    carry-on c.args.self c.args.s c.loop-i.positions i (i - 1) (omega arith) c.loop-i.invariant (omega arith)

pub returns : goal.returns
returns c =
    let e : c.loop-i.i ≡ 0 = omega arith in
    c.at_end.ensures ∙ sym (carry-end c.args.self c.args.s c.loop-i.positions (rw e at c.loop-i.invariant))
