use Rattle.std.proofs.Common.{rules, arith, get_or, pos, ◌-◌}
use mathlib.Core.Path.{refl}
use mir.Syntax.{w32}
use mir.Val.{SFits}
use Rattle.cuts.proofs.Building.{built-none, built-more, stride_small, window_small, window_read}
use Rattle.cuts.proofs.CutCall.table_of.Goals as goal

pub loop-axis-init : goal.loop-axis-init
loop-axis-init c = built-none c.requires _ refl

pub overflow_mul-table : goal.overflow_mul-table
overflow_mul-table c =
    let f : SFits w32 (get_or c.args.self.now.numbers.now (c.loop-axis.axis - 1) (pos 0)) = search rules in
    omega (arith, window_small c.requires (c.loop-axis.axis - 1) c.loop-axis.invariant (omega arith) (window_read _ _ _ f c.window_on-w.ensures))

pub overflow_mul-table-in-loop-axis : goal.overflow_mul-table-in-loop-axis
overflow_mul-table-in-loop-axis c =
    let f : SFits w32 (get_or c.args.self.now.numbers.now (c.loop-axis.axis - 1) (pos 0)) = search rules in
    omega (arith, window_small c.requires (c.loop-axis.axis - 1) c.loop-axis.invariant (omega arith) (window_read _ _ _ f c.window_on-w.ensures))

pub overflow_mul-table-in-loop-axis-2 : goal.overflow_mul-table-in-loop-axis-2
overflow_mul-table-in-loop-axis-2 c =
    let f : SFits w32 (get_or c.args.self.now.numbers.now (c.loop-axis.axis - 1) (pos 0)) = search rules in
    omega (arith, window_small c.requires (c.loop-axis.axis - 1) c.loop-axis.invariant (omega arith) (window_read _ _ _ f c.window_on-w.ensures))

pub overflow_mul-stride : goal.overflow_mul-stride
overflow_mul-stride c = omega (arith, stride_small c.requires (c.loop-axis.axis - 1) c.loop-axis.invariant (omega arith))

pub overflow_mul-block : goal.overflow_mul-block
overflow_mul-block c =
    let f : SFits w32 (get_or c.args.self.now.numbers.now (c.loop-axis.axis - 1) (pos 0)) = search rules in
    omega (arith, window_small c.requires (c.loop-axis.axis - 1) c.loop-axis.invariant (omega arith) (window_read _ _ _ f c.window_on-w.ensures))

pub loop-axis-preserved : goal.loop-axis-preserved
loop-axis-preserved c =
    let f : SFits w32 (get_or c.args.self.now.numbers.now (c.loop-axis.axis - 1) (pos 0)) = search rules in
    built-more c.requires (c.loop-axis.axis - 1) c.loop-axis.invariant (omega arith) _ (window_read _ _ _ f c.window_on-w.ensures)
