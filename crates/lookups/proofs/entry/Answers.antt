use Rattle.std.proofs.Common.{rules, ◌≡◌, ◌+◌, ◌∙◌, sym, arith, Bool, true, false, pos}
use mathlib.Core.Bool.{cond}
use mathlib.Core.Path.{refl}
use mir.Val.{bool_byte}
use denote.Param.{number}
use Rattle.signed.proofs.Reading.{read32, read_pos}
use Rattle.lookups.specs.Steps.{entry}
use Rattle.lookups.specs.contracts.entry.{BITS-type}
use Rattle.lookups.proofs.entry.Goals as goal

byte : (b : Bool) → pos (bool_byte b) ≡ cond b (pos 1) (pos 0)
byte true = refl
byte false = refl

pub returns-then-this-ne0 : goal.returns-then-this-ne0
unfolding entry
returns-then-this-ne0 g c =
    let h : BITS-type (number g.row.BITS) ≡ true = search rules in
    read32 _ (search rules) ∙ c.from.ensures ∙ byte _ ∙ sym (rw h)

pub returns : goal.returns
unfolding entry
returns g c =
    let h : BITS-type (number g.row.BITS) ≡ false = search rules in
    read_pos (c.args.first + c.args.at) (omega (arith, c.requires.0, c.requires.1)) ∙ sym (rw h)
