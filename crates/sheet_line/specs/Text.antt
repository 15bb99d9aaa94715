-- Paper 01, "The sheet program": numbers as text. A text is a list of bytes.
use Rattle.std.specs.Prelude.{ℕ, zero, suc, ◌+◌, ◌/◌, ◌%◌, cond, List, [], ◌∷◌, ◌++◌, map, ℤ, pos, negsuc, nat_lt}

-- The bytes of the three signs.
abbrev pub newline : ℕ
newline = 10

abbrev pub blank : ℕ
blank = 32

abbrev pub minus : ℕ
minus = 45

-- The byte of a digit from 0 to 9.
abbrev pub digit : ℕ → ℕ
digit d = 48 + d

-- The decimal digits of n, without leading zeros. The first number bounds the depth of the definition and not the text.
unfoldable pub digits_within : ℕ → ℕ → List ℕ
digits_within zero n = digit n ∷ []
digits_within (suc depth) n =
    let front : List ℕ = digits_within depth (n / 10) in
    cond (nat_lt n 10) (digit n ∷ []) (front ++ digit (n % 10) ∷ [])

unfoldable pub digits : ℕ → List ℕ
digits n = digits_within n n

-- `-` stands before a negative number; negsuc m is -1 - m.
unfoldable pub decimal : ℤ → List ℕ
decimal (pos n) = digits n
decimal (negsuc m) = minus ∷ digits (suc m)

-- Parts that follow another, each after one blank; and parts one blank apart.
unfoldable pub following : List (List ℕ) → List ℕ
following [] = []
following (w ∷ ws) = blank ∷ w ++ following ws

unfoldable pub spaced : List (List ℕ) → List ℕ
spaced [] = []
spaced (w ∷ ws) = w ++ following ws

-- The printing of a list of numbers.
unfoldable pub printed : List ℤ → List ℕ
printed zs = spaced (map decimal zs)
