-- A line's call, by what was taken of it.
use Rattle.std.proofs.Common.{◌≡◌, ℕ, ◌<◌, ◌≤◌, List, [], ◌∷◌, length, ℤ, refl, ◌∙◌, Some, None, le-leb}
use mathlib.Core.Option.{none, some}
use borrow.Author.Tests.{lt-leb}
use Rattle.meaning.specs.Array.{Array}
use Rattle.sheet_line.specs.Numbers.{and_then, numbers}
use Rattle.sheet_line.specs.Call.{max_line, Reader, give, ◌then◌, next_number, operand, Head, head, Call, call, all_read, call_of, line_call}
use Rattle.sheet_line.specs.Steps.{Takes}
use Rattle.sheet_line.proofs.Readers.{Left, then-none, then-some, gives}

-- A line and the call at its start.
module _ (a b : ℕ) (line : List ℕ) where
  pub too_long : max_line < length line → line_call a b line ≡ none
  unfolding line_call
  too_long h = rw (lt-leb (length line) max_line h)

  module _ (h : length line ≤ max_line) where
    line-is : line_call a b line ≡ and_then (and_then (numbers line) (call a b)) all_read
    unfolding line_call call_of
    line-is = rw (le-leb (length line) max_line h) (by-case (numbers line))
      where
        by-case : (x : Left) → and_then x (λ zs. and_then (call a b zs) all_read) ≡ and_then (and_then x (call a b)) all_read
        by-case none = refl
        by-case (some zs) = refl

    pub no_call : {after : Left} → Takes (call a b) (numbers line) after None → line_call a b line ≡ none
    no_call e = line-is ∙ rw e.is

    module _ {c : Call} {after : Left} (e : Takes (call a b) (numbers line) after (Some c)) where
      -- What follows the call has a number, or is bad.
      pub left_over : (after ≡ some [] → ⊥) → line_call a b line ≡ none
      left_over k = line-is ∙ rw e.is (by-case after k)
        where
          by-case : (x : Left) → (x ≡ some [] → ⊥) → and_then (and_then x (give c)) all_read ≡ none
          by-case none q = refl
          by-case (some []) q = absurd (q refl)
          by-case (some (z ∷ zs)) q = refl

      pub line-call : after ≡ some [] → line_call a b line ≡ some c
      line-call k = line-is ∙ rw (e.is, k)

-- What is still to be read of a head.
abbrev k_on : ℤ → ℤ → Reader Head
k_on n G = next_number then λ K. give (record { primitive = n; origin = G; k = K })

abbrev origin_on : ℤ → Reader Head
origin_on n = next_number then k_on n

-- By what the code has found: no primitive, no origin, no K, or all of them.
module _ {before : Left} where
  pub no-primitive : {after last : Left} → Takes next_number before after None → Takes head before last None
  unfolding head
  no-primitive e = then-none origin_on e

  module _ (n : ℤ) {first : Left} (e : Takes next_number before first (Some n)) where
    pub no-origin : {after last : Left} → Takes next_number first after None → Takes head before last None
    unfolding head
    no-origin f = then-some origin_on e (then-none (k_on n) f)

    module _ (G : ℤ) {second : Left} (f : Takes next_number first second (Some G)) where
      pub no-k : {after last : Left} → Takes next_number second after None → Takes head before last None
      unfolding head
      no-k g = then-some origin_on e (then-some (k_on n) f (then-none (λ K. give (record { primitive = n; origin = G; k = K })) g))

      pub head-is : (K : ℤ) {last : Left} → Takes next_number second last (Some K) → Takes head before last (Some (record { primitive = n; origin = G; k = K }))
      unfolding head
      head-is K g = then-some origin_on e (then-some (k_on n) f (then-some (λ K. give (record { primitive = n; origin = G; k = K })) g gives))

-- What is still to be read of a call: after the head, and after L.
abbrev pub right_on : ℕ → Head → Array → Reader Call
right_on b h L = operand b then λ R. give (record { head = h; left = L; right = R })

abbrev pub left_on : ℕ → ℕ → Head → Reader Call
left_on a b h = operand a then right_on b h

-- By what the code has found: no head, no L, no R, or all of them.
module _ (a b : ℕ) {before : Left} where
  pub no-head : {after last : Left} → Takes head before after None → Takes (call a b) before last None
  unfolding call
  no-head e = then-none (left_on a b) e

  module _ (h : Head) {headed : Left} (e : Takes head before headed (Some h)) where
    pub no-left : {after last : Left} → Takes (operand a) headed after None → Takes (call a b) before last None
    unfolding call
    no-left f = then-some (left_on a b) e (then-none (right_on b h) f)

    module _ (L : Array) {halved : Left} (f : Takes (operand a) headed halved (Some L)) where
      pub no-right : {after last : Left} → Takes (operand b) halved after None → Takes (call a b) before last None
      unfolding call
      no-right g = then-some (left_on a b) e (then-some (right_on b h) f (then-none (λ R. give (record { head = h; left = L; right = R })) g))

      pub call-is : (R : Array) {last : Left} → Takes (operand b) halved last (Some R)
          → Takes (call a b) before last (Some (record { head = h; left = L; right = R }))
      unfolding call
      call-is R g =
          then-some (left_on a b) e (then-some (right_on b h) f (then-some (λ R. give (record { head = h; left = L; right = R })) g gives))
