use Rattle.std.proofs.Common.{arith, rules, ◌∙◌, false, length, get_or, pos}
use mathlib.Core.Path.{refl}
use denote.Param.{number}
use Rattle.signed.proofs.Reading.{read32}
use Rattle.masks.specs.Steps.Actions.{Masked}
use Rattle.masks.specs.contracts.mask_into.{EXPANDS-type}
use Rattle.masks.proofs.Expanding.{scalar-first, scalar-room, scalar-out}
use Rattle.masks.proofs.Lined.{lined-none, lined-inside, lined-same, lined-blocks, lined-all}
use Rattle.masks.proofs.mask_into.Given as given
use Rattle.masks.proofs.mask_into.Goals as goal
use Rattle.masks.proofs.mask_into.Goals.{Else-repeated, After-around-a}

-- R is repeated.
pub bounds-r-0 : goal.bounds-r-0
bounds-r-0 g c = scalar-first (rw c.if-repeated.true at c.requires) (search rules)

pub spread-requires : goal.spread-requires
spread-requires g c = scalar-room (rw c.if-repeated.true at c.requires) (search rules)

pub returns-then-repeated : goal.returns-then-repeated
returns-then-repeated g c =
    rw c.if-repeated.true
    (scalar-out (rw c.if-repeated.true at c.requires) (search rules) c.args.out.now _ _ (read32 (get_or c.args.r.now 0 (pos 0)) (search rules))
    c.spread.ensures)

-- R is not.
plain : (g : given.Over) (c : Else-repeated g)
    → let a = c.args in
    Masked (EXPANDS-type (number g.row.EXPANDS)) false a.l.now a.s a.axis a.m a.total a.r.now (length a.out.now)
plain g c = rw c.if-repeated.false at c.requires

pub returns-then-total-eq0 : goal.returns-then-total-eq0
returns-then-total-eq0 g c = rw c.if-repeated.false (lined-none (plain g c.before) c.if-total-eq0.true c.args.out.now)

pub slice_bounds-copy_run-end : goal.slice_bounds-copy_run-end
slice_bounds-copy_run-end g c =
    omega (arith, lined-inside (plain g c.before.before.before.before) (search rules) (omega arith) _ c.around-a.ensures c.if-m-a.true)

pub returns-then-m-a : goal.returns-then-m-a
returns-then-m-a g c =
    rw c.if-repeated.false
    (lined-same (rw c.if-repeated.false at c.requires) (search rules) (omega arith) _ c.around-a.ensures c.if-m-a.true c.args.out.now _ refl c.copy_run.ensures)

-- By blocks.
pub in_blocks-requires : goal.in_blocks-requires
in_blocks-requires g c = lined-blocks (rw c.if-repeated.false at c.requires) (search rules) (omega arith) _ c.around-a.ensures c.if-m-a.false

pub returns : goal.returns
returns g c =
    rw c.if-repeated.false
    (c.in_blocks.ensures
    ∙ lined-all (rw c.if-repeated.false at c.requires) (search rules) (omega arith) _ c.around-a.ensures c.if-m-a.false c.args.out.now)
