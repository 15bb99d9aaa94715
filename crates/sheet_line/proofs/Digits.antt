-- The digits of a number: one digit, and one digit more.
use Rattle.std.proofs.Common.{◌≡◌, ℕ, zero, suc, ◌+◌, ◌*◌, ◌/◌, ◌%◌, ◌<◌, ◌≤◌, [], ◌∷◌, ◌++◌, refl, ◌∙◌, arith, le-ltb, lt-ltb}
use Rattle.sheet_line.specs.Text.{digit, digits_within, digits}

enough : (f g n : ℕ) → n ≤ f → n ≤ g → digits_within f n ≡ digits_within g n
unfolding digits_within
enough zero zero n h k = refl
enough zero (suc g) n h k = rw (lt-ltb n 10 (omega arith))
enough (suc f) zero n h k = rw (lt-ltb n 10 (omega arith))
enough (suc f) (suc g) n h k = rw (enough f g (n / 10) (omega arith) (omega arith))

pub digits-one : (n : ℕ) → n < 10 → digits n ≡ digit n ∷ []
unfolding digits digits_within
digits-one zero h = refl
digits-one (suc m) h = rw (lt-ltb (suc m) 10 h)

pub digits_more : (n : ℕ) → 10 ≤ n → digits n ≡ digits (n / 10) ++ digit (n % 10) ∷ []
unfolding digits digits_within
digits_more zero h = absurd (omega arith)
digits_more (suc m) h = rw (le-ltb (suc m) 10 h, enough m (suc m / 10) (suc m / 10) (omega arith) (omega arith))

pub digits_append : (n d : ℕ) → 0 < n → d < 10 → digits (n * 10 + d) ≡ digits n ++ digit d ∷ []
digits_append n d h k =
    let q : (n * 10 + d) / 10 ≡ n = omega arith in
    let r : (n * 10 + d) % 10 ≡ d = omega arith in
    digits_more (n * 10 + d) (omega arith) ∙ rw (q, r)
