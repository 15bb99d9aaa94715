use Rattle.std.proofs.Common.{rules, ◌∙◌, get_or, pos, w32}
use mir.Val.{SFits}
use Rattle.signed.proofs.Reading.{read32}
use Rattle.signed.proofs.Finding.{read-from-zero}
use Rattle.selects.proofs.Choice.at.Goals as goal

pub known_position-requires : goal.known_position-requires
known_position-requires c =
    let f : SFits w32 (get_or c.self.inside.numbers.now c.args.i (pos 0)) = search rules in
    let g : SFits w32 c.self.inside.origin = search rules in
    let q = rw (← c.self.view_is) at c.requires in
    rw (read32 _ f, read32 _ g) q.above

pub returns : goal.returns
returns c =
    let f : SFits w32 (get_or c.self.inside.numbers.now c.args.i (pos 0)) = search rules in
    let g : SFits w32 c.self.inside.origin = search rules in
    rw (← c.self.view_is) (c.known_position.ensures ∙ read-from-zero _ _ f g)
