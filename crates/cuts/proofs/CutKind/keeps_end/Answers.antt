use Rattle.std.proofs.Common.{◌≡◌, ◌∙◌, ap, arith, pos, negsuc, not, ℤ}
use mathlib.Core.Path.{refl}
use borrow.Author.Tests.{le-leb}
use lib.Signed.{le_z, lt_z}
use Rattle.meaning.specs.Terms.{negative}
use Rattle.signed.proofs.Reading.{read32}
use Rattle.signed.proofs.Sign.{below-zero}
use Rattle.cuts.proofs.CutKind.keeps_end.Goals as goal

-- The test `0 <= z`.
from-zero : (z : ℤ) → le_z (pos 0) z ≡ not (negative z)
unfolding negative
from-zero (pos n) = le-leb 0 n (omega arith)
from-zero (negsuc n) = refl

pub returns-in-Take : goal.returns-in-Take
returns-in-Take c = rw c.in-Take.is (ap (λ z. lt_z z (pos 0)) (read32 _ c.ranges.z) ∙ below-zero c.args.z)

pub returns-in-Drop : goal.returns-in-Drop
returns-in-Drop c = rw c.in-Drop.is (ap (le_z (pos 0)) (read32 _ c.ranges.z) ∙ from-zero c.args.z)
