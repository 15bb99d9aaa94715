use Rattle.std.proofs.Common.{arith, rules, ◌∙◌, sym}
use Rattle.answer.proofs.Lent.{lent-good}
use Rattle.turns.specs.Steps.{turn_position}
use Rattle.turns.proofs.Into.{into-scalar, into-none, Surrounds, surrounds, into-blocks}
use Rattle.turns.proofs.Rows.{turn-lt}
use Rattle.turns.proofs.turn_into.Goals as goal
use Rattle.turns.proofs.turn_into.Goals.{After-around-w}

-- What is known around the axis of an array with elements.
around : (c : After-around-w) → Surrounds c.args.s c.args.axis c.around-w.result
around c = surrounds (lent-good _ _ (search rules) c.requires.form) (omega (arith, c.requires.has)) (omega (arith, c.requires.count-is)) c.around-w.ensures

pub slice_bounds-copy_run-end : goal.slice_bounds-copy_run-end
slice_bounds-copy_run-end c = let g = lent-good _ _ (search rules) c.requires.form in omega (arith, g.room, g.count-is, c.requires.count-is)

pub returns-then-s-eq0 : goal.returns-then-s-eq0
returns-then-s-eq0 c =
    let g = lent-good _ _ (search rules) c.requires.form in
    into-scalar g c.args.out.now c.args.axis _ c.if-s-eq0.true c.requires.count-is c.requires.space c.copy_run.ensures

pub returns-then-total-eq0 : goal.returns-then-total-eq0
returns-then-total-eq0 c =
    into-none (lent-good _ _ (search rules) c.requires.form) c.args.out.now c.args.axis _ (sym c.requires.count-is ∙ c.if-total-eq0.true)

pub turn_blocks-requires : goal.turn_blocks-requires
turn_blocks-requires c =
    let w = around c.before in
    let g = lent-good _ _ (search rules) c.requires.form in (
      w.some,
      record {
        some = w.outer-some;
        source = omega (arith, w.whole, g.room);
        space = omega (arith, w.whole, g.count-is, c.requires.count-is, c.requires.space);
      },
    )

pub returns : goal.returns
returns c =
    let a = c.before.before.before in
    into-blocks (lent-good _ _ (search rules) c.requires.form) c.args.out.now c.args.axis _ a.around-w.ensures (around a) (turn_position c.args.turn)
    (λ i l. turn-lt c.args.turn _ i l) c.turn_blocks.ensures
