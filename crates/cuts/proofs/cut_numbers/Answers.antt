use Rattle.std.proofs.Common.{◌≡◌, ◌∙◌, sym, length, true, false}
use mathlib.Core.Path.{ap}
use lib.Dec.{eqb}
use borrow.Author.Tests.{eq-eqb, ne_eqb}
use Rattle.meaning.specs.Array.{array_of}
use Rattle.meaning.specs.Terms.{rank, is_list}
use Rattle.answer.specs.Refused.{asked}
use Rattle.cuts.proofs.Calls.{cut-own}
use Rattle.cuts.proofs.cut_numbers.Goals as goal
use Rattle.cuts.proofs.cut_numbers.Goals.{else-rank-ne0-via-then-rank-ne0+else-numbers-rank, else-rank-ne0-via-else-rank-ne0}

pub returns-then-not-is_list-clause-number : goal.returns-then-not-is_list-clause-number
unfolding asked
returns-then-not-is_list-clause-number c = sym (cut-own c.args.kind c.args.l.now c.args.r.now ∙ rw (sym c.if-not-is_list.ensures))

pub returns-then-numbers-rank-clause-number : goal.returns-then-numbers-rank-clause-number
unfolding asked
returns-then-numbers-rank-clause-number c =
    let l : is_list (array_of c.args.l.now) ≡ true = sym c.if-not-is_list.ensures in
    let a : eqb (rank (array_of c.args.r.now)) 0 ≡ false = ne_eqb _ 0 (λ e. c.if-rank-ne0.true (c.rank.ensures ∙ e)) in
    let b = ne_eqb _ _ (λ e. c.if-numbers-rank.true (ap length c.elements-numbers.ensures ∙ e ∙ sym c.rank-then-rank-ne0.ensures)) in
    sym (cut-own c.args.kind c.args.l.now c.args.r.now ∙ rw (l, a, b))

pub returns-clause-number : goal.returns-clause-number
unfolding asked
returns-clause-number c =
    let l : is_list (array_of c.args.l.now) ≡ true = sym c.if-not-is_list.ensures in
    elim c.else-rank-ne0.branch [
      | else-rank-ne0-via-then-rank-ne0+else-numbers-rank w ↦
          let a : eqb (rank (array_of c.args.r.now)) 0 ≡ false = ne_eqb _ 0 (λ e. w.if-rank-ne0.true (c.rank.ensures ∙ e)) in
          let b = eq-eqb _ _ (sym (ap length c.elements-numbers.ensures) ∙ w.if-numbers-rank.false ∙ w.rank-then-rank-ne0.ensures) in
          sym (cut-own c.args.kind c.args.l.now c.args.r.now ∙ rw (l, a, b))
      | else-rank-ne0-via-else-rank-ne0 w ↦
          let a = eq-eqb _ 0 (sym c.rank.ensures ∙ w.if-rank-ne0.false) in
          sym (cut-own c.args.kind c.args.l.now c.args.r.now ∙ rw (l, a))
    ]
