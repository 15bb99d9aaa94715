use Rattle.std.proofs.Common.{rules, ◌≡◌, ◌∙◌, sym, true, false, length}
use mathlib.Core.Bool.{◌||◌, or-true}
use mathlib.Core.Logic.{⊎_elim}
use mathlib.Core.Path.{ap}
use lib.Dec.{eqb}
use borrow.Author.Tests.{eq-eqb, ne_eqb}
use denote.Param.{number}
use Rattle.shape.proofs.Bools.{or_left}
use Rattle.masks.specs.Steps.Actions.{mask_fits}
use Rattle.masks.specs.contracts.mask_fits.{EXPANDS-type}
use Rattle.masks.proofs.mask_fits.Goals as goal

pub returns-then-repeated : goal.returns-then-repeated
unfolding mask_fits
returns-then-repeated g c =
    let h : EXPANDS-type (number g.row.EXPANDS) ≡ true = search rules in
    rw h (c.if-repeated.true ∙ sym (or_left _ _ c.if-repeated.true))

pub returns-else-repeated : goal.returns-else-repeated
unfolding mask_fits
returns-else-repeated g c =
    let h : EXPANDS-type (number g.row.EXPANDS) ≡ true = search rules in
    rw (h, c.if-repeated.false) (ap (λ x. eqb x c.args.n) c.count_ones.ensures)

pub returns-then-n-eq1 : goal.returns-then-n-eq1
unfolding mask_fits
returns-then-n-eq1 g c =
    let h : EXPANDS-type (number g.row.EXPANDS) ≡ false = search rules in
    let l = length c.args.l.now in
    let either : (eqb l 1 || eqb c.args.n 1) ≡ true =
    ⊎_elim (λ e. or_left (eqb l 1) (eqb c.args.n 1) (eq-eqb l 1 e)) (λ e. rw (eq-eqb c.args.n 1 e.1) (or-true (eqb l 1))) c.if-n-eq1.either in
    rw h (c.if-n-eq1.true-raw ∙ sym (or_left _ _ either))

pub returns-else-n-eq1 : goal.returns-else-n-eq1
unfolding mask_fits
returns-else-n-eq1 g c =
    let h : EXPANDS-type (number g.row.EXPANDS) ≡ false = search rules in
    rw (h, ne_eqb (length c.args.l.now) 1 c.if-n-eq1.false.0, ne_eqb c.args.n 1 c.if-n-eq1.false.1)
