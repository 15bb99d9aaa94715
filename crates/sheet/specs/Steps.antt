-- What the definitions about a failed write cite.
use Rattle.std.specs.Prelude.{ℕ, suc, List, [], ◌∷◌, cond, eqb}
use Rattle.sheet_line.specs.Text.{newline}

-- How many newlines a text has: so many answers end in it.
unfoldable pub newlines : List ℕ → ℕ
newlines [] = 0
newlines (b ∷ bs) = cond (eqb b newline) (suc (newlines bs)) (newlines bs)
