use Rattle.std.proofs.Common.{rules, arith, ◌≡◌, ◌∙◌, ap, pos, negsuc, not, ℤ}
use mathlib.Core.Path.{refl}
use lib.Signed.{le_z}
use borrow.Author.Tests.{le-leb}
use mir.Syntax.{w32}
use mir.Val.{SFits}
use Rattle.meaning.specs.Terms.{negative}
use Rattle.signed.proofs.Reading.{read32}
use Rattle.vectors.proofs.fn.none_negative.all.Goals as goal

-- The test `0 <= z`.
from-zero : (z : ℤ) → le_z (pos 0) z ≡ not (negative z)
unfolding negative
from-zero (pos n) = le-leb 0 n (omega arith)
from-zero (negsuc n) = refl

pub returns : goal.returns
returns c = let f : SFits w32 c.args.z.now = search rules in ap (le_z (pos 0)) (read32 _ f) ∙ from-zero _
