use Rattle.std.proofs.Common.{arith, ◌≡◌, ◌∙◌, ap, sym, ◌+◌, pos, nat_abs, ◌+ℤ◌, to_z, of_z, w32, slice_set, ◌≤◌, length}
use Rattle.signed.proofs.Reading.{read32, read_pos}
use Rattle.signed.proofs.Equal.{origin-is}
use Rattle.meaning.specs.Array.{tab}
use Rattle.copying.proofs.Runs.{filled_none, filled-one, filled-whole}
use Rattle.vectors.proofs.count_up.Goals as goal

pub loop-o-init : goal.loop-o-init
loop-o-init c = rw (read32 _ c.ranges.first) ((origin-is c.args.first c.requires.0).0 ∙ ap pos (omega arith), filled_none _ _)

pub overflow_add-x : goal.overflow_add-x
overflow_add-x c =
    let o = origin-is c.args.first c.requires.0 in
    rw (c.loop-o.invariant.0, read32 _ c.ranges.first) (record { sfits = omega (arith, o.1, c.requires.1, c.loop-o-test.true) })

pub loop-o-preserved : goal.loop-o-preserved
loop-o-preserved c =
    let o = origin-is c.args.first c.requires.0 in
    let n = nat_abs c.args.first + (c.loop-o.o-index + 1) in
    let x : to_z w32 c.loop-o.x-bits ≡ pos (nat_abs c.args.first + c.loop-o.o-index) =
    c.loop-o.invariant.0 ∙ ap (λ z. pos (nat_abs z + c.loop-o.o-index)) (read32 _ c.ranges.first) in
    let next : of_z w32 (to_z w32 c.loop-o.x-bits +ℤ pos 1) ≡ n = rw x (omega (arith, c.requires, c.loop-o-test.true)) in
    let first : to_z w32 c.loop-o.x-bits ≡ c.args.first +ℤ pos c.loop-o.o-index = x ∙ ap (λ z. z +ℤ pos c.loop-o.o-index) (sym o.0) in
    rw (read32 _ c.ranges.first) (
      ap (to_z w32) next ∙ read_pos n (omega (arith, o.1, c.requires.1, c.loop-o-test.true)),
      ap (λ l. slice_set l c.loop-o.o-index (to_z w32 c.loop-o.x-bits)) (rw (read32 _ c.ranges.first) at c.loop-o.invariant.1)
          ∙ filled-one _ (pos 0) _ c.loop-o.o-index _ (omega (arith, c.loop-o-test.true)) first,
    )

pub returns : goal.returns
returns c =
    let all : length c.args.out.now ≤ c.loop-o.o-index = c.loop-o-test.false in
    (rw (read32 _ c.ranges.first) at c.loop-o.invariant.1) ∙ filled-whole _ c.loop-o.o-index c.args.out.now all
    ∙ ap (λ k. tab k (λ i. c.args.first +ℤ pos i)) (omega (arith, c.loop-o-test.false, c.loop-o.auto.o-index-end))
