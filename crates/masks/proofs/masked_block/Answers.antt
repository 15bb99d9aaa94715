use Rattle.std.proofs.Common.{◌∙◌}
use mathlib.Core.Path.{refl}
use Rattle.masks.proofs.Actions.{flag_on, flag_off, expand-ready, expand-block, repeat-source, repeat-block, compress-ready, compress-block}
use Rattle.masks.proofs.masked_block.Goals as goal

pub expand_line-requires : goal.expand_line-requires
expand_line-requires g c =
    expand-ready c.requires (flag_on _ c.if-this-ne0.true) c.if-b-eq1.true

pub expand_rows-requires : goal.expand_rows-requires
expand_rows-requires g c =
    expand-ready c.requires (flag_on _ c.if-this-ne0.true) refl

pub returns-then-b-eq1 : goal.returns-then-b-eq1
returns-then-b-eq1 g c =
    c.expand_line.ensures ∙ expand-block c.requires (flag_on _ c.if-this-ne0.true) c.args.r.now c.if-b-eq1.true

pub returns-else-b-eq1 : goal.returns-else-b-eq1
returns-else-b-eq1 g c =
    c.expand_rows.ensures ∙ expand-block c.requires (flag_on _ c.if-this-ne0.true) c.args.r.now refl

pub repeat_row-requires : goal.repeat_row-requires
repeat_row-requires g c =
    (c.requires.row, (repeat-source c.requires (flag_off _ c.if-this-ne0.false) c.if-b-eq1-2.true, c.requires.room))

pub returns-then-b-eq1-2 : goal.returns-then-b-eq1-2
returns-then-b-eq1-2 g c =
    c.repeat_row.ensures ∙ repeat-block c.requires (flag_off _ c.if-this-ne0.false) c.if-b-eq1-2.true c.args.r.now

pub compress_line-requires : goal.compress_line-requires
compress_line-requires g c =
    compress-ready c.requires (flag_off _ c.if-this-ne0.false) c.if-b-eq1-2.false c.if-b-eq1-3.true

pub compress_rows-requires : goal.compress_rows-requires
compress_rows-requires g c =
    compress-ready c.requires (flag_off _ c.if-this-ne0.false) c.if-b-eq1-2.false refl

pub returns-then-b-eq1-3 : goal.returns-then-b-eq1-3
returns-then-b-eq1-3 g c =
    c.compress_line.ensures ∙ compress-block c.requires (flag_off _ c.if-this-ne0.false) c.if-b-eq1-2.false c.args.r.now c.if-b-eq1-3.true

pub returns-else-b-eq1-3 : goal.returns-else-b-eq1-3
returns-else-b-eq1-3 g c =
    c.compress_rows.ensures ∙ compress-block c.requires (flag_off _ c.if-this-ne0.false) c.if-b-eq1-2.false c.args.r.now refl
