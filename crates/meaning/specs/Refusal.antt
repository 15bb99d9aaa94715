-- Paper 01, "Who can cause which refusal".
use Rattle.std.specs.Prelude.{ℕ, ◌≡◌, List, [], ◌∷◌, map, Bool, true, false, not, cond, ◌&&◌, ◌||◌, eqb}

infix 68 ◌numbered◌
infix 68 ◌when◌
infix 68 ◌unless◌
-- The program that calls can cause NUMBER, FORM, ORIGIN and SPACE, the writer of the exercise the others.
pub data Refusal : Type 0 where
  NUMBER FORM ORIGIN RANK AXIS LENGTH DOMAIN INDEX LIMIT SPACE : Refusal
  deriving Discrete as same_or_not

-- A refusal and its number.
pub record Numbered : Type 0 where
  pub refusal : Refusal
  pub number : ℕ

abbrev pub ◌numbered◌ : Refusal → ℕ → Numbered
x numbered n = record { refusal = x; number = n }

-- The refusals with their numbers. Several at once: the first of this list wins, which is the smallest number.
abbrev pub refusals_in_order : List Numbered
refusals_in_order =
    NUMBER numbered 1
    ∷ FORM numbered 2
    ∷ ORIGIN numbered 3
    ∷ RANK numbered 4
    ∷ AXIS numbered 5
    ∷ LENGTH numbered 6
    ∷ DOMAIN numbered 7
    ∷ INDEX numbered 8
    ∷ LIMIT numbered 9
    ∷ SPACE numbered 10
    ∷ []

-- Whether two refusals are the same one.
abbrev pub is_yes : {x y : Refusal} → Dec (x ≡ y) → Bool
is_yes (yes e) = true
is_yes (no e) = false

abbrev pub same : Refusal → Refusal → Bool
same x y = is_yes (same_or_not x y)

-- The number that a list gives a refusal.
abbrev pub number_in : List Numbered → Refusal → ℕ
number_in [] x = 0
number_in (r ∷ rs) x = cond (same x r.refusal) r.number (number_in rs x)

abbrev pub number : Refusal → ℕ
number = number_in refusals_in_order

-- In 28 DOMAIN precedes LENGTH: the two change places.
abbrev pub exchanged : Refusal → Refusal → Refusal → Refusal
exchanged x y z = cond (same z x) y (cond (same z y) x z)

abbrev pub in_order : List Refusal
in_order = map (λ r. r.refusal) refusals_in_order

unfoldable pub precedence : ℕ → List Refusal
precedence primitive = cond (eqb primitive 28) (map (exchanged LENGTH DOMAIN) in_order) in_order

-- A refusal and whether it is met.
pub record Rule : Type 0 where
  pub refusal : Refusal
  pub met : Bool

abbrev pub ◌when◌ : Refusal → Bool → Rule
x when b = record { refusal = x; met = b }

abbrev pub ◌unless◌ : Refusal → Bool → Rule
x unless b = record { refusal = x; met = not b }

-- Whether some rule meets a refusal.
unfoldable pub meets : Refusal → List Rule → Bool
meets x [] = false
meets x (r ∷ rules) = same x r.refusal && r.met || meets x rules

-- The number of the first refusal that is met, 0 where none is.
unfoldable pub winner : List Refusal → List Rule → ℕ
winner [] rules = 0
winner (x ∷ xs) rules = cond (meets x rules) (number x) (winner xs rules)
