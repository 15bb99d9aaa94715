-- The first position of an element, looked for from the front.
use Rattle.std.proofs.Common.{Option, Some, None}
use Rattle.std.specs.Option.{unwrap_or, option_map, IfSome}
use mathlib.Core.Path.{◌≡◌, refl, sym, ap, ap₂, ◌∙◌}
use mathlib.Core.List.{List, [], ◌∷◌, ◌++◌}
use mathlib.Core.Bool.{Bool, true, false, cond}
use Prim.Native.Nat.{ℕ, zero, suc, ◌+◌, ◌-◌, ◌≤◌, ◌<◌}
use native.Mathlib.Nat.{zero-add}
use native.Mathlib.Decide.{dec_lt}
use native.Mathlib.Omega.{arith}
use lib.ListN.{length, length-append, length-drop, get_or, take, drop, drop_of_length-le}
use lib.Seq.{drop-cons, drop-drop, drop_at, take_at}
use lib.IntN.{ℤ, pos}
use Rattle.meaning.specs.Terms.{int_same, first_at}
use Rattle.meaning.proofs.Tab.{get_or_part}
use Rattle.lookups.specs.Steps.{Finds, Passed}

pub first-le : (x : ℤ) (l : List ℤ) → first_at x l ≤ length l
unfolding first_at
first-le x [] = omega arith
first-le x (y ∷ l) = by (int_same x y) (first-le x l)
  where
    by : (b : Bool) → first_at x l ≤ length l → cond b 0 (suc (first_at x l)) ≤ suc (length l)
    by true h = omega arith
    by false h = omega arith

pub first_small : (x : ℤ) (l : List ℤ) {n m : ℕ} → n ≡ first_at x l → length l ≤ m → n ≤ m
first_small x l e h = omega (arith, first-le x l)

-- Where there is one it holds the element, and no position before it does.
pub first_holds : (x : ℤ) (l : List ℤ) → first_at x l < length l → int_same x (get_or l (first_at x l) (pos 0)) ≡ true
unfolding first_at
first_holds x [] h = absurd (omega arith)
first_holds x (y ∷ l) h = by (int_same x y) refl (first_holds x l) h
  where
    by : (b : Bool) → int_same x y ≡ b → (first_at x l < length l → int_same x (get_or l (first_at x l) (pos 0)) ≡ true)
        → cond b 0 (suc (first_at x l)) < suc (length l) → int_same x (get_or (y ∷ l) (cond b 0 (suc (first_at x l))) (pos 0)) ≡ true
    by true e k h = e
    by false e k h = k (omega arith)

pub first-least : (x : ℤ) (l : List ℤ) (p : ℕ) → p < length l → int_same x (get_or l p (pos 0)) ≡ true → first_at x l ≤ p
unfolding first_at
first-least x [] p h e = absurd (omega arith)
first-least x (y ∷ l) zero h e = rw e (omega arith)
first-least x (y ∷ l) (suc p) h e = by (int_same x y) (first-least x l p (omega arith) e)
  where
    by : (b : Bool) → first_at x l ≤ p → cond b 0 (suc (first_at x l)) ≤ suc p
    by true k = omega arith
    by false k = omega arith

-- It is the first part's where that has one, and else the second part's.
pub found_front : (x : ℤ) (a b : List ℤ) → first_at x a < length a → first_at x a ≡ first_at x (a ++ b)
unfolding first_at
found_front x [] b h = absurd (omega arith)
found_front x (y ∷ a) b h = by (int_same x y) (found_front x a b) h
  where
    by : (t : Bool) → (first_at x a < length a → first_at x a ≡ first_at x (a ++ b)) → cond t 0 (suc (first_at x a)) < suc (length a)
        → cond t 0 (suc (first_at x a)) ≡ cond t 0 (suc (first_at x (a ++ b)))
    by true k h = refl
    by false k h = ap suc (k (omega arith))

pub found-back : (x : ℤ) (a b : List ℤ) → length a ≤ first_at x a → length a + first_at x b ≡ first_at x (a ++ b)
unfolding first_at
found-back x [] b h = zero-add (first_at x b)
found-back x (y ∷ a) b h = by (int_same x y) (found-back x a b) h
  where
    by : (t : Bool) → (length a ≤ first_at x a → length a + first_at x b ≡ first_at x (a ++ b)) → suc (length a) ≤ cond t 0 (suc (first_at x a))
        → suc (length a) + first_at x b ≡ cond t 0 (suc (first_at x (a ++ b)))
    by true k h = absurd (omega arith)
    by false k h = omega (arith, k (omega arith))

-- The same of what a search found in a part; beside it, what it found or the length.
pub in-front : (x : ℤ) (a b : List ℤ) (i : ℕ) → Finds x a (Some i) → Finds x (a ++ b) (Some i)
in-front x a b i f = (f.0 ∙ found_front x a b (omega (arith, f.0, f.1)), omega (arith, length-append a b, f.1))

pub in_back : (x : ℤ) (a b : List ℤ) (r : Option ℕ) → Finds x a None → Finds x b r → Finds x (a ++ b) (option_map (λ i. length a + i) r)
in_back x a b None n f = omega (arith, length-append a b, f, found-back x a b (omega (arith, n)))
in_back x a b (Some i) n f = (omega (arith, f.0, found-back x a b (omega (arith, n))), omega (arith, length-append a b, f.1))

pub found_or : (x : ℤ) (l : List ℤ) (r : Option ℕ) → Finds x l r → unwrap_or r (length l) ≡ first_at x l
found_or x l None h = h
found_or x l (Some i) h = h.0

pub found-inside : (x : ℤ) (l : List ℤ) (r : Option ℕ) → Finds x l r → IfSome r (λ i. i < length l)
found-inside x l None h = tt
found-inside x l (Some i) h = h.1

-- Elements that are passed over: none yet, or those before the first position, or fewer.
pub passed_none : (x : ℤ) (l : List ℤ) → Passed x l 0
passed_none x l = record { inside = omega arith; none = λ i h. absurd (omega arith) }

-- Then those from n on are searched.
pub passed-skip : (x : ℤ) (l : List ℤ) (n : ℕ) → Passed x l n → n + first_at x (drop n l) ≡ first_at x l
unfolding first_at
passed-skip x l zero p = zero-add (first_at x l)
passed-skip x [] (suc n) p = absurd (omega (arith, p.inside))
passed-skip x (y ∷ l) (suc n) p =
    let rest : Passed x l n = record { inside = omega (arith, p.inside); none = λ i h. p.none (suc i) (omega arith) } in
    let e : int_same x y ≡ false = p.none 0 (omega arith) in
    rw e (omega (arith, passed-skip x l n rest))

-- So a search goes on after them.
pub found-after : (x : ℤ) (l : List ℤ) (n : ℕ) → Passed x l n → (r : Option ℕ) → Finds x (drop n l) r → Finds x l (option_map (λ i. n + i) r)
found-after x l n p None f = omega (arith, f, length-drop n l, p.inside, passed-skip x l n p)
found-after x l n p (Some i) f = (omega (arith, f.0, passed-skip x l n p), omega (arith, length-drop n l, f.1))

module _ {x : ℤ} {l : List ℤ} {n : ℕ} (p : Passed x l n) where
  -- The next element is not x, or it is, or there is none.
  pub passed-next : n < length l → int_same x (get_or l n (pos 0)) ≡ false → Passed x l (n + 1)
  passed-next h e = record { inside = omega arith; none = λ i k. by i k (dec_lt i n) }
    where
      by : (i : ℕ) → i < n + 1 → Dec (i < n) → int_same x (get_or l i (pos 0)) ≡ false
      by i k (yes a) = p.none i a
      by i k (no a) = let s : i ≡ n = omega arith in rw s e

  pub passed_here : n < length l → int_same x (get_or l n (pos 0)) ≡ true → n ≡ first_at x l
  unfolding first_at
  passed_here h e = let here : first_at x (drop n l) ≡ 0 = rw (drop-cons l n (pos 0) h, e) in omega (arith, passed-skip x l n p)

  pub passed-all : length l ≤ n → length l ≡ first_at x l
  unfolding first_at
  passed-all h = let none : first_at x (drop n l) ≡ 0 = rw (drop_of_length-le l {i = n} h) in omega (arith, passed-skip x l n p, p.inside)

-- Elements of the part from n to e: they are passed over, or the first position in it is found.
part_at : (l : List ℤ) (n e i : ℕ) → n ≤ i → i < e → get_or (take (e - n) (drop n l)) (i - n) (pos 0) ≡ get_or l i (pos 0)
part_at l n e i h k = let s : n + (i - n) ≡ i = omega arith in get_or_part l n (e - n) (i - n) (pos 0) (omega arith) ∙ ap (λ j. get_or l j (pos 0)) s

module _ {x : ℤ} {l : List ℤ} {n : ℕ} (p : Passed x l n) (e m : ℕ) (lo : n ≤ m) (hi : m ≤ e) (room : e ≤ length l) where
  abbrev part : List ℤ
  part = take (e - n) (drop n l)

  pub passed-part : Passed x part (m - n) → Passed x l m
  passed-part q = record { inside = omega arith; none = λ i k. by i k (dec_lt i n) }
    where
      by : (i : ℕ) → i < m → Dec (i < n) → int_same x (get_or l i (pos 0)) ≡ false
      by i k (yes a) = p.none i a
      by i k (no a) = sym (ap (int_same x) (part_at l n e i (omega arith) (omega arith))) ∙ q.none (i - n) (omega arith)

-- A block of elements that are passed over, as the chunks of what is left give it.
pub passed-block : {x : ℤ} {l block rest : List ℤ} {n : ℕ} → Passed x l n → drop n l ≡ block ++ rest → length block ≡ 16
    → Passed x block (length block) → Passed x l (n + 16) × (drop (n + 16) l ≡ rest)
passed-block {x} {l} {block} {rest} {n} p e long q =
    let whole = sym (length-drop n l) ∙ ap length e ∙ length-append block rest in
    let s : length block ≡ n + 16 - n = omega arith in
    let front : take (n + 16 - n) (drop n l) ≡ block = ap₂ take (sym s) e ∙ take_at block rest (length block) refl in (
      passed-part p (n + 16) (n + 16) (omega arith) (omega arith) (omega (arith, p.inside)) (rw (front, sym s) q),
      sym (drop-drop 16 n l) ∙ ap (drop 16) e ∙ drop_at block rest 16 long,
    )
