-- The program's table of two digits for each number.
use Rattle.std.proofs.Common.{ℕ, ◌/◌, ◌%◌, ◌<◌, ◌≡◌, List, [], ◌∷◌, map, refl, ap, ◌∙◌, get_or, arith}
use Rattle.std.specs.List.{range_with_len}
use Rattle.std.proofs.lemmas.List.FromFn.{get_or-map-range_with_len}
use Rattle.sheet_line.specs.Text.{digit}
use Rattle.sheet_answer.specs.declared.print.TheConstants.{DIGIT_PAIRS}

abbrev pair : ℕ → List ℕ
pair k = digit (k / 10) ∷ digit (k % 10) ∷ []

pub table : (k : ℕ) → k < 100 → get_or DIGIT_PAIRS k [] ≡ digit (k / 10) ∷ digit (k % 10) ∷ []
table k h =
    let same : DIGIT_PAIRS ≡ map pair (range_with_len 0 100) = refl in
    ap (λ t. get_or t k []) same ∙ get_or-map-range_with_len pair 0 100 k k [] h (omega arith)
