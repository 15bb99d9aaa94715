use Rattle.std.proofs.Common.{◌∙◌, sym}
use Rattle.meaning.proofs.Arrays.{none_made}
use Rattle.answer.proofs.Lent.{formed}
use Rattle.selects.proofs.Selecting.{into-fits, into-out}
use Rattle.selects.proofs.select_into.Goals as goal

pub returns-then-total-eq0 : goal.returns-then-total-eq0
returns-then-total-eq0 c = none_made _ _ c.args.total c.args.out.now (sym c.requires.count-is ∙ c.if-total-eq0.true) c.if-total-eq0.true

pub select_blocks-requires : goal.select_blocks-requires
select_blocks-requires c =
    let q = rw (← c.r.view_is) at c.requires in
    into-fits q (formed c.r.invariant) c.if-total-eq0.false c.around-a.ensures

pub returns : goal.returns
returns c =
    let q = rw (← c.r.view_is) at c.requires in
    rw (← c.r.view_is) (c.select_blocks.ensures ∙ into-out q (formed c.r.invariant) c.if-total-eq0.false c.around-a.ensures c.args.out.now)
