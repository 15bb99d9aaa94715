-- Which refusal wins, with the list of refusals and the rules open.
use mathlib.Core.Path.{◌≡◌, refl, sym, ap, ap₂, subst, ◌∙◌}
use mathlib.Core.List.{List, [], ◌∷◌, ◌++◌, map}
use mathlib.Core.Bool.{Bool, true, false, not, cond, ◌&&◌, ◌||◌, and-false}
use Prim.Native.Nat.{ℕ, zero, suc, ◌<◌}
use native.Mathlib.Omega.{arith}
use borrow.Author.Tests.{not-true, ltb-true}
use lib.Dec.{eqb, ltb}
use Rattle.shape.proofs.Bools.{no_way, both, refuted}
use Rattle.meaning.specs.Refusal.{Refusal, Rule, same_or_not, is_yes, same, number, exchanged, in_order, precedence, meets, winner}
use Rattle.meaning.specs.Refusal.Refusal.{NUMBER, FORM, ORIGIN, RANK, AXIS, LENGTH, DOMAIN, INDEX, LIMIT, SPACE}

-- The same one.
pub same-itself : (x : Refusal) → same x x ≡ true
same-itself x = by (same_or_not x x)
  where
    by : (d : Dec (x ≡ x)) → is_yes d ≡ true
    by (yes e) = refl
    by (no f) = absurd (f refl)

same-refusal : (x y : Refusal) → same x y ≡ true → x ≡ y
same-refusal x y = by (same_or_not x y)
  where
    by : (d : Dec (x ≡ y)) → is_yes d ≡ true → x ≡ y
    by (yes e) h = e
    by (no f) h = no_way h

pub neither : (a b : Bool) → (a || b) ≡ false → (a ≡ false) × (b ≡ false)
neither true b h = no_way (sym h)
neither false b h = (refl, h)

-- Whether a list of refusals has one, and whether some rule is about one, met or not.
abbrev pub has : List Refusal → Refusal → Bool
has [] x = false
has (y ∷ ys) x = same x y || has ys x

abbrev among : Refusal → List Rule → Bool
among x [] = false
among x (r ∷ rules) = same x r.refusal || among x rules

not-among : (x : Refusal) (rules : List Rule) → among x rules ≡ false → meets x rules ≡ false
unfolding meets
not-among x [] h = refl
not-among x (r ∷ rules) h =
    let n = neither (same x r.refusal) (among x rules) h in
    ap₂ (λ a b. a && r.met || b) n.0 (not-among x rules n.1)

-- What is left of a list from a refusal on.
abbrev pub from : Refusal → List Refusal → List Refusal
from x [] = []
from x (y ∷ ys) = cond (same x y) (y ∷ ys) (from x ys)

-- No refusal stands twice in a list, and none has the number 0: computed tests.
abbrev distinct : List Refusal → Bool
distinct [] = true
distinct (x ∷ xs) = not (has xs x) && distinct xs

abbrev positive : List Refusal → Bool
positive [] = true
positive (x ∷ xs) = ltb 0 (number x) && positive xs

-- The rules stand in the order of a list: a computed test.
abbrev pub sorted : List Refusal → List Rule → Bool
sorted xs [] = true
sorted xs (r ∷ rules) = has xs r.refusal && sorted (from r.refusal xs) rules

from-has : (x y : Refusal) (xs : List Refusal) → has xs x ≡ false → has (from y xs) x ≡ false
from-has x y [] h = refl
from-has x y (z ∷ xs) h = by (same y z) (from-has x y xs)
  where
    by : (b : Bool) → (has xs x ≡ false → has (from y xs) x ≡ false) → has (cond b (z ∷ xs) (from y xs)) x ≡ false
    by true f = h
    by false f = f (neither (same x z) (has xs x) h).1

from-distinct : (y : Refusal) (xs : List Refusal) → distinct xs ≡ true → distinct (from y xs) ≡ true
from-distinct y [] h = refl
from-distinct y (z ∷ xs) h = by (same y z) (from-distinct y xs)
  where
    by : (b : Bool) → (distinct xs ≡ true → distinct (from y xs) ≡ true) → distinct (cond b (z ∷ xs) (from y xs)) ≡ true
    by true f = h
    by false f = f (both (not (has xs z)) (distinct xs) h).1

-- It begins with the refusal, if the list has it.
from_first : (x : Refusal) (xs : List Refusal) → has xs x ≡ true → (ys : List Refusal) × (from x xs ≡ x ∷ ys)
from_first x [] h = no_way h
from_first x (z ∷ xs) h = by (same x z) refl h (from_first x xs)
  where
    by : (b : Bool) → same x z ≡ b → (b || has xs x) ≡ true → (has xs x ≡ true → (ys : List Refusal) × (from x xs ≡ x ∷ ys))
        → (ys : List Refusal) × (cond b (z ∷ xs) (from x xs) ≡ x ∷ ys)
    by true e h f = (xs, ap (λ w. w ∷ xs) (sym (same-refusal x z e)))
    by false e h f = f h

-- No rule is about a refusal that the list does not have.
sorted-among : (x : Refusal) (xs : List Refusal) (rules : List Rule) → sorted xs rules ≡ true → has xs x ≡ false → among x rules ≡ false
sorted-among x xs [] s h = refl
sorted-among x xs (r ∷ rules) s h =
    let w = both (has xs r.refusal) (sorted (from r.refusal xs) rules) s in
    ap₂ ◌||◌ (refuted (same x r.refusal) (λ e. no_way (sym h ∙ ap (has xs) (same-refusal x r.refusal e) ∙ w.0)))
    (sorted-among x (from r.refusal xs) rules w.1 (from-has x r.refusal xs h))

-- So the refusals before that of the first rule do not count.
winner-from : (r : Rule) (rules : List Rule) (xs : List Refusal) → distinct xs ≡ true → has xs r.refusal ≡ true
    → sorted (from r.refusal xs) rules ≡ true → winner xs (r ∷ rules) ≡ winner (from r.refusal xs) (r ∷ rules)
unfolding winner
winner-from r rules [] d h s = refl
winner-from r rules (z ∷ xs) d h s = by (same r.refusal z) refl h s (winner-from r rules xs (both (not (has xs z)) (distinct xs) d).1)
  where
    by : (b : Bool) → same r.refusal z ≡ b → (b || has xs r.refusal) ≡ true → sorted (cond b (z ∷ xs) (from r.refusal xs)) rules ≡ true
        → (has xs r.refusal ≡ true → sorted (from r.refusal xs) rules ≡ true → winner xs (r ∷ rules) ≡ winner (from r.refusal xs) (r ∷ rules))
        → winner (z ∷ xs) (r ∷ rules) ≡ winner (cond b (z ∷ xs) (from r.refusal xs)) (r ∷ rules)
    by true e h s f = refl
    by false e h s f =
        ap (λ b. cond b (number z) (winner xs (r ∷ rules)))
        (not-among z (r ∷ rules)
        (ap₂ ◌||◌ (refuted (same z r.refusal) (λ q. no_way (sym e ∙ ap (same r.refusal) (same-refusal z r.refusal q) ∙ same-itself r.refusal)))
        (sorted-among z (from r.refusal xs) rules s (from-has z r.refusal xs (not-true (has xs z) (both (not (has xs z)) (distinct xs) d).0)))))
        ∙ f h s

-- A rule that is not met does not count.
winner-unmet : (r : Rule) (rules : List Rule) (xs : List Refusal) → r.met ≡ false → winner xs (r ∷ rules) ≡ winner xs rules
unfolding winner meets
winner-unmet r rules [] h = refl
winner-unmet r rules (x ∷ xs) h =
    ap₂ (λ b n. cond b (number x) n) (ap (λ b. same x r.refusal && b || meets x rules) h ∙ ap (λ b. b || meets x rules) (and-false (same x r.refusal)))
    (winner-unmet r rules xs h)

-- The number of the first rule that is met, in their own order.
abbrev pub first_met : List Rule → ℕ
first_met [] = 0
first_met (r ∷ rules) = cond r.met (number r.refusal) (first_met rules)

-- Which is the winner, if the rules stand in the order in which refusals win.
sorted-winner : (xs : List Refusal) (rules : List Rule) → distinct xs ≡ true → sorted xs rules ≡ true → winner xs rules ≡ first_met rules
unfolding winner meets
sorted-winner xs [] d s = none xs
  where
    none : (xs : List Refusal) → winner xs [] ≡ 0
    none [] = refl
    none (x ∷ xs) = none xs
sorted-winner xs (r ∷ rules) d s =
    let w = both (has xs r.refusal) (sorted (from r.refusal xs) rules) s in
    let ys = from_first r.refusal xs w.0 in
    winner-from r rules xs d w.0 w.1 ∙ by r.met refl ys (sorted-winner (from r.refusal xs) rules (from-distinct r.refusal xs d) w.1)
  where
    by : (b : Bool) → r.met ≡ b → ((ys : List Refusal) × (from r.refusal xs ≡ r.refusal ∷ ys))
        → winner (from r.refusal xs) rules ≡ first_met rules → winner (from r.refusal xs) (r ∷ rules) ≡ cond b (number r.refusal) (first_met rules)
    by true e (ys, q) f =
        ap (λ zs. winner zs (r ∷ rules)) q
        ∙ ap₂ (λ a b. cond (a && b || meets r.refusal rules) (number r.refusal) (winner ys (r ∷ rules))) (same-itself r.refusal) e
    by false e ys f = winner-unmet r rules (from r.refusal xs) e ∙ f

-- There are two orders: that of 28, and that of every other number.
pub by_order : (P : List Refusal → Type 0) (n : ℕ) → P (map (exchanged LENGTH DOMAIN) in_order) → P in_order → P (precedence n)
unfolding precedence
by_order P n x y = by (eqb n 28)
  where
    by : (b : Bool) → P (cond b (map (exchanged LENGTH DOMAIN) in_order) in_order)
    by true = x
    by false = y

pub winner-first : (n : ℕ) (rules : List Rule) → sorted (precedence n) rules ≡ true → winner (precedence n) rules ≡ first_met rules
winner-first n rules s = sorted-winner (precedence n) rules (by_order (λ xs. distinct xs ≡ true) n refl refl) s

-- Each refusal stands in both.
in_both : (x : Refusal) → (has in_order x ≡ true) × (has (map (exchanged LENGTH DOMAIN) in_order) x ≡ true)
in_both NUMBER = (refl, refl)
in_both FORM = (refl, refl)
in_both ORIGIN = (refl, refl)
in_both RANK = (refl, refl)
in_both AXIS = (refl, refl)
in_both LENGTH = (refl, refl)
in_both DOMAIN = (refl, refl)
in_both INDEX = (refl, refl)
in_both LIMIT = (refl, refl)
in_both SPACE = (refl, refl)

-- Where none wins, none is met.
unmet-in : (xs : List Refusal) (rules : List Rule) → positive xs ≡ true → winner xs rules ≡ 0 → (x : Refusal) → has xs x ≡ true → meets x rules ≡ false
unfolding winner
unmet-in [] rules p h x l = no_way l
unmet-in (y ∷ ys) rules p h x l =
    let w = both (ltb 0 (number y)) (positive ys) p in
    let n = none (meets y rules) (number y) (winner ys rules) (ltb-true 0 (number y) w.0) h in
    by (same x y) refl n.0 (λ l. unmet-in ys rules w.1 n.1 x l)
  where
    none : (b : Bool) (n v : ℕ) → 0 < n → cond b n v ≡ 0 → (b ≡ false) × (v ≡ 0)
    none true n v h e = absurd (omega arith)
    none false n v h e = (refl, e)

    by : (s : Bool) → same x y ≡ s → meets y rules ≡ false → (has ys x ≡ true → meets x rules ≡ false) → meets x rules ≡ false
    by true e m f = ap (λ z. meets z rules) (same-refusal x y e) ∙ m
    by false e m f = f (sym (ap (λ b. b || has ys x) e) ∙ l)

pub unmet : (n : ℕ) (rules : List Rule) → winner (precedence n) rules ≡ 0 → (x : Refusal) → meets x rules ≡ false
unmet n rules h x =
    by_order (λ xs. winner xs rules ≡ 0 → meets x rules ≡ false) n (λ e. unmet-in _ rules refl e x (in_both x).1)
    (λ e. unmet-in _ rules refl e x (in_both x).0) h

-- The first number that is not 0.
abbrev pub or_else : ℕ → ℕ → ℕ
or_else zero b = b
or_else (suc a) b = suc a

pub else-first : (a b : ℕ) → (a ≡ 0 → ⊥) → or_else a b ≡ a
else-first zero b h = absurd (h refl)
else-first (suc a) b h = refl

-- No refusal has the number 0.
number_in : (xs : List Refusal) (x : Refusal) → positive xs ≡ true → has xs x ≡ true → 0 < number x
number_in [] x p h = no_way h
number_in (y ∷ ys) x p h =
    let w = both (ltb 0 (number y)) (positive ys) p in
    by (same x y) refl h (ltb-true 0 (number y) w.0) (number_in ys x w.1)
  where
    by : (b : Bool) → same x y ≡ b → (b || has ys x) ≡ true → 0 < number y → (has ys x ≡ true → 0 < number x) → 0 < number x
    by true e h l f = subst (λ z. 0 < number z) (sym (same-refusal x y e)) l
    by false e h l f = f h

-- So rules one after another are asked in turn.
pub first-append : (rs ts : List Rule) → first_met (rs ++ ts) ≡ or_else (first_met rs) (first_met ts)
first-append [] ts = refl
first-append (r ∷ rs) ts =
    ap (λ n. cond r.met (number r.refusal) n) (first-append rs ts)
    ∙ within r.met (number r.refusal) (first_met rs) (first_met ts) (number_in in_order r.refusal refl (in_both r.refusal).0)
  where
    within : (b : Bool) (n v w : ℕ) → 0 < n → cond b n (or_else v w) ≡ or_else (cond b n v) w
    within true n v w h = sym (else-first n w (λ e. omega arith))
    within false n v w h = refl
