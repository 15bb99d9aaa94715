use Rattle.std.proofs.Common.{arith, ◌∙◌, ◌+◌, ◌*◌, ◌-◌}
use borrow.Rule.Slice.PartMut.{same_len_mid}
use Rattle.copying.proofs.Blockwise.{blockwise-none}
use Rattle.turns.proofs.Groups.{group-lies, group-step}
use Rattle.turns.proofs.rotate_groups.Goals as goal

pub loop-o-init : goal.loop-o-init
loop-o-init c = blockwise-none _ _ _ _

pub slice_bounds-rotate_group-end : goal.slice_bounds-rotate_group-end
slice_bounds-rotate_group-end c =
    omega (arith, group-lies _ c.min-some.result c.requires.1 c.loop-o.invariant.at-is (omega (arith, c.min-some.ensures)))

pub slice_bounds-rotate_group-end-in-loop-o : goal.slice_bounds-rotate_group-end-in-loop-o
slice_bounds-rotate_group-end-in-loop-o c =
    let b = c.loop-o.invariant in
    omega (arith, b.long, group-lies _ c.min-some.result c.requires.1 b.at-is (omega (arith, c.min-some.ensures)))

pub loop-o-preserved : goal.loop-o-preserved
loop-o-preserved c =
    let a = c.args in
    let size = a.w.length * a.w.inner in
    let some = c.min-some.result in
    let lp = c.loop-o in
    let b = lp.invariant in
    let lies = group-lies _ some c.requires.1 b.at-is (omega (arith, c.min-some.ensures)) in
    record {
      some = omega (arith, c.min-some.ensures);
      at-is = omega (arith, b.at-is);
      long = same_len_mid lp.at (lp.at + some * size - lp.at) lp.out c.rotate_group.new.out c.rotate_group.auto.out ∙ b.long;
      done = group-step a.r.now a.cut some b (omega (arith, b.long, lies.1)) c.rotate_group.ensures;
    }
