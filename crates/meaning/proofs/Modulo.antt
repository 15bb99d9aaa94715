-- The remainder that is never negative.
use Prim.Native.Nat.{ℕ, zero, suc, ◌+◌, ◌*◌, ◌-◌, ◌/◌, ◌%◌, ◌≤◌, ◌<◌}
use native.Mathlib.Nat.{mod-lt, add-mod_right, mod-eq-sub-mod, mod-eq_of_lt, div-add-mod', zero-mul, suc-mul}
use native.Mathlib.Omega.{arith}
use mathlib.Core.Path.{◌≡◌, refl, sym, ap, ◌∙◌}
use mathlib.Core.Bool.{Bool, true, false, cond}
use lib.Dec.{eqb, ltb}
use lib.IntN.{ℤ, pos, negsuc, nat_abs, ◌+ℤ◌, sub_ℕ, neg_ℤ, +ℤ_comm, +ℤ_assoc, +ℤ_idr, +ℤ-neg_ℤ_cancel, -ℤ-+ℤ_cancel}
use borrow.Author.Tests.{ltb-true, ltb-false, le-ltb, ne_eqb}
use Rattle.shape.proofs.Bools.{no_way}
use Rattle.meaning.specs.Terms.{negative, modulo}

pub modulo-lt : (z : ℤ) (n : ℕ) → 0 < n → modulo z n < n
unfolding modulo
modulo-lt (pos m) n h = mod-lt m h
modulo-lt (negsuc m) n h = omega (arith, mod-lt m h)

pub modulo-pos : (m n : ℕ) → modulo (pos m) n ≡ m % n
unfolding modulo
modulo-pos m n = refl

-- A number below n is its own remainder.
pub modulo-small : (m n : ℕ) → m < n → modulo (pos m) n ≡ m
modulo-small m n h = modulo-pos m n ∙ mod-eq_of_lt h

-- What `signed::modulo` answers, for n above 0.
pub modulo-is : (z : ℤ) (n : ℕ) → 0 < n → cond (eqb n 0) 0 (modulo z n) ≡ modulo z n
modulo-is z n h = rw (ne_eqb n 0 (λ e. omega arith))

-- From the magnitude s of a number, as code finds it.
pub modulo-negative : (z : ℤ) (n s : ℕ) → negative z ≡ true → s ≡ nat_abs z → n - 1 - (s - 1) % n ≡ modulo z n
unfolding modulo negative
modulo-negative (pos m) n s h e = no_way h
modulo-negative (negsuc m) n s h e = let p : s - 1 ≡ m = omega arith in rw p (omega arith)

pub modulo-size : (z : ℤ) (n s : ℕ) → negative z ≡ false → s ≡ nat_abs z → s % n ≡ modulo z n
unfolding modulo negative
modulo-size (pos m) n s h e = rw e
modulo-size (negsuc m) n s h e = no_way (sym h)

-- n more makes no difference.
more : (m n : ℕ) (t : Bool) → ltb n (suc m) ≡ t → modulo (cond t (negsuc (suc m - suc n)) (pos (n - suc m))) n ≡ n - suc (m % n)
unfolding modulo
more m n true e =
    let l : n ≤ m = omega (arith, ltb-true n (suc m) e) in
    let q : suc m - suc n ≡ m - n = omega arith in
    rw (q, ← (mod-eq-sub-mod l))
more m n false e =
    let l : m < n = omega (arith, ltb-false n (suc m) e) in
    let k : n - suc m < n = omega arith in
    rw (mod-eq_of_lt l) (mod-eq_of_lt k)

pub modulo-more : (z : ℤ) (n : ℕ) → modulo (z +ℤ pos n) n ≡ modulo z n
unfolding modulo
modulo-more (pos m) n = add-mod_right m n
modulo-more (negsuc m) n = more m n (ltb n (suc m)) refl

pub modulo-times : (z : ℤ) (q n : ℕ) → modulo (z +ℤ pos (q * n)) n ≡ modulo z n
modulo-times z zero n = rw (zero-mul, +ℤ_idr)
modulo-times z (suc q) n =
    ap (λ x. modulo x n) (rw (suc-mul q n) (sym (+ℤ_assoc z (pos (q * n)) (pos n)))) ∙ modulo-more (z +ℤ pos (q * n)) n ∙ modulo-times z q n

swapped : (z b : ℤ) (q n : ℕ) → modulo (z +ℤ pos (q * n) +ℤ b) n ≡ modulo (z +ℤ b) n
swapped z b q n =
    ap (λ x. modulo x n) (+ℤ_assoc z (pos (q * n)) b ∙ ap (λ x. z +ℤ x) (+ℤ_comm (pos (q * n)) b) ∙ sym (+ℤ_assoc z b (pos (q * n))))
    ∙ modulo-times (z +ℤ b) q n

sub-pos : (a b : ℕ) → b ≤ a → sub_ℕ a b ≡ pos (a - b)
sub-pos a b h = ap (λ t. cond t (negsuc (b - suc a)) (pos (a - b))) (le-ltb a b h)

-- The remainder of a sum needs only a summand's remainder: the two differ by a multiple of n.
pub modulo-sum : (z b : ℤ) (n : ℕ) → 0 < n → modulo (pos (modulo z n) +ℤ b) n ≡ modulo (z +ℤ b) n
unfolding modulo
modulo-sum (pos m) b n h =
    let e : pos m ≡ pos (m % n) +ℤ pos (m / n * n) = ap pos (omega (arith, div-add-mod' m n)) in
    sym (ap (λ x. modulo (x +ℤ b) n) e ∙ swapped (pos (m % n)) b (m / n) n)
modulo-sum (negsuc m) b n h =
    let l : suc (m % n) ≤ n = mod-lt m h in
    let e : negsuc m +ℤ pos (suc (m / n) * n) ≡ pos (n - suc (m % n)) =
    sub-pos (suc (m / n) * n) (suc m) (omega (arith, div-add-mod' m n)) ∙ ap pos (omega (arith, div-add-mod' m n)) in
    sym (ap (λ x. modulo (x +ℤ b) n) e) ∙ swapped (negsuc m) b (suc (m / n)) n

-- A position i turned by z, in numbers from 0 up alone.
pub modulo-turn : (i : ℕ) (z : ℤ) (n : ℕ) → 0 < n → modulo (pos i +ℤ z) n ≡ (i + modulo z n) % n
modulo-turn i z n h =
    ap (λ x. modulo x n) (+ℤ_comm (pos i) z)
    ∙ sym (modulo-sum z (pos i) n h)
    ∙ ap (λ x. modulo x n) (+ℤ_comm (pos (modulo z n)) (pos i))
    ∙ modulo-pos (i + modulo z n) n

-- What is added and taken away again leaves a position.
pub modulo-back : (m n : ℕ) (z : ℤ) → m < n → modulo (pos (modulo (pos m +ℤ z) n) +ℤ neg_ℤ z) n ≡ m
modulo-back m n z h =
    modulo-sum (pos m +ℤ z) (neg_ℤ z) n (omega arith) ∙ ap (λ x. modulo x n) (+ℤ-neg_ℤ_cancel (pos m) z) ∙ modulo-small m n h

pub modulo-forth : (m n : ℕ) (z : ℤ) → m < n → modulo (pos (modulo (pos m +ℤ neg_ℤ z) n) +ℤ z) n ≡ m
modulo-forth m n z h =
    modulo-sum (pos m +ℤ neg_ℤ z) z n (omega arith) ∙ ap (λ x. modulo x n) (-ℤ-+ℤ_cancel (pos m) z) ∙ modulo-small m n h
