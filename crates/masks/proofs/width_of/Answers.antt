use Rattle.std.proofs.Common.{rules, ◌≡◌, true, false}
use denote.Param.{number}
use Rattle.masks.specs.Steps.Actions.{width, mask_of}
use Rattle.masks.specs.contracts.width_of.{EXPANDS-type}
use Rattle.masks.proofs.width_of.Goals as goal

pub returns-then-this-ne0 : goal.returns-then-this-ne0
unfolding width mask_of
returns-then-this-ne0 g c = let h : EXPANDS-type (number g.row.EXPANDS) ≡ true = search rules in rw h

pub returns-else-this-ne0 : goal.returns-else-this-ne0
unfolding width
returns-else-this-ne0 g c = let h : EXPANDS-type (number g.row.EXPANDS) ≡ false = search rules in rw h c.kept_count.ensures
