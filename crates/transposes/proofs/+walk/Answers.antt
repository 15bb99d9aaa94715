use Rattle.std.proofs.Common.{arith, refl, ◌∙◌}
use native.Mathlib.Nat.{zero-mul}
use Rattle.copying.proofs.Blockwise.{blockwise-none}
use Rattle.copying.proofs.Parts.{part_room}
use Rattle.transposes.proofs.Placing.{rest-long}
use Rattle.transposes.proofs.Walking.{others-fewer, walk_rows, walk-inner, walk_from, walk_split, walked-split}
use Rattle.transposes.proofs.Walking.{reach-none, walked_none, reach-line, walked_line, walked-room, walked_more, walked_all}
use Rattle.transposes.proofs.+walk.Goals as goal

-- No axes: one element. One axis: a line.
pub line-requires : goal.line-requires
line-requires t c = (c.requires.some, reach-none c.requires c.if-rank-eq0.true)

pub returns-then-rank-eq0 : goal.returns-then-rank-eq0
returns-then-rank-eq0 t c = c.line.ensures ∙ walked_none c.requires c.if-rank-eq0.true _

pub line-requires-then-rank-eq1 : goal.line-requires-then-rank-eq1
line-requires-then-rank-eq1 t c = (c.requires.some, reach-line c.requires c.if-rank-eq1.true)

pub returns-then-rank-eq1 : goal.returns-then-rank-eq1
returns-then-rank-eq1 t c = c.line-then-rank-eq1.ensures ∙ walked_line c.requires c.if-rank-eq1.true _

-- The walk over the first axis and the others.
pub nonzero_div-size : goal.nonzero_div-size
nonzero_div-size t c = (walk_rows (walk_split c.requires (omega arith))).first

pub loop-i-init : goal.loop-i-init
loop-i-init t c = record { done = rw zero-mul (blockwise-none _ _ _ _); starts = walk_from (walk_split c.requires (omega arith)) }

pub walk-requires : goal.walk-requires
walk-requires t c =
    let k = walk_split c.requires (omega arith) in
    let l = walked-room c.args.r.now k c.loop-i.invariant.done (omega arith) in (
      omega (arith, others-fewer c.args.lens.now (omega arith), c.decreases),
      walk-inner k _ _ _ (omega arith) (rest-long c.args.r.now _ (omega (arith, c.loop-i.invariant.starts)))
          (part_room c.loop-i.out _ _ _ c.loop-i.invariant.done.long l ∙ (walk_rows k).size),
    )

pub loop-i-preserved : goal.loop-i-preserved
loop-i-preserved t c = record {
  done = walked_more c.args.r.now (walk_split c.requires (omega arith)) c.loop-i.invariant.done _ (omega arith) c.walk.auto.out c.walk.ensures;
  starts = c.loop-i.invariant.starts;
}

pub returns : goal.returns
returns t c =
    walked_all c.args.r.now (walk_split c.requires (omega arith)) c.loop-i.invariant.done (omega arith) refl
    ∙ walked-split c.requires _ (omega arith)
