-- Readers one after the other, by what is left of a line.
use Rattle.std.proofs.Common.{◌≡◌, ℕ, suc, ◌+◌, ◌-◌, ◌<◌, ◌≤◌, List, [], ◌∷◌, ◌++◌, length, take, set, ℤ, pos, negsuc, sym, refl, ap, ◌∙◌}
use Rattle.std.proofs.Common.{append_assoc, append-nil, add-one, arith, take-suc-set, le-leb, nat_abs, ◌^◌, w32, SFits, Option, Some, None}
use Rattle.std.specs.Int.{FitsUnsignedBits}
use native.Mathlib.Nat.{sub-zero}
use mathlib.Core.Option as maybe
use borrow.Author.Tests.{lt-leb}
use Rattle.sheet_line.specs.Numbers.{and_then}
use Rattle.sheet_line.specs.Call.{Reader, give, fail, ◌then◌, next_number, up_to, natural, many}
use Rattle.sheet_line.specs.Steps.{Takes}

-- What is left of a line, as numbers.
abbrev pub Left : Type 0
Left = maybe.Option (List ℤ)

both : {A B : Type 0} (p : Reader A) (q : A → Reader B) (l : Left) → and_then l (p then q) ≡ and_then (and_then l p) (λ t. q t.0 t.1)
both p q maybe.none = refl
both p q (maybe.some zs) = refl

module _ {A B : Type 0} {p : Reader A} (q : A → Reader B) {before : Left} where
  pub then-none : {after last : Left} → Takes p before after None → Takes (p then q) before last None
  then-none e = record { is = both p q before ∙ rw e.is }

  pub then-some : {a : A} {mid last : Left} {r : Option B} → Takes p before mid (Some a) → Takes (q a) mid last r → Takes (p then q) before last r
  then-some {a} {mid} e f = record { is = both p q before ∙ rw e.is (sym (both (give a) q mid) ∙ f.is) }

pub gives : {A : Type 0} {a : A} {l : Left} → Takes (give a) l l (Some a)
gives = record { is = refl }

pub fails : {A : Type 0} {before last : Left} → Takes {A = A} fail before last None
fails {before = maybe.none} = record { is = refl }
fails {before = maybe.some zs} = record { is = refl }

-- A number from 0 to m, by the number that was taken.
module _ (m : ℕ) {before : Left} where
  pub no-natural : {after last : Left} → Takes next_number before after None → Takes (natural m) before last None
  unfolding natural
  no-natural e = then-none (up_to m) e

  module _ {after : Left} where
    pub natural-below : (k : ℕ) {last : Left} → Takes next_number before after (Some (negsuc k)) → Takes (natural m) before last None
    unfolding natural
    natural-below k e = then-some (up_to m) e fails

    pub natural-over : (n : ℕ) {last : Left} → Takes next_number before after (Some (pos n)) → m < n → Takes (natural m) before last None
    unfolding natural
    natural-over n e k = then-some (up_to m) e (rw (lt-leb n m k) fails)

    pub natural-good : (n : ℕ) → Takes next_number before after (Some (pos n)) → n ≤ m → Takes (natural m) before after (Some n)
    unfolding natural
    natural-good n e k = then-some (up_to m) e (rw (le-leb n m k) gives)

-- By whether the number is one of 64 bits without a sign.
module _ {before after : Left} where
  pub no-count : (m : ℕ) (z : ℤ) {last : Left} → SFits w32 z → (FitsUnsignedBits 64 z → ⊥) → Takes next_number before after (Some z)
      → Takes (natural m) before last None
  no-count m (pos n) f h t = let b : n < 2 ^ 31 = f.sfits in absurd (h (omega arith))
  no-count m (negsuc k) f h t = natural-below m k t

  pub count-is : (z : ℤ) (n : ℕ) → FitsUnsignedBits 64 z → n ≡ nat_abs z → Takes next_number before after (Some z)
      → Takes next_number before after (Some (pos n))
  count-is (pos k) n h e t = rw e t
  count-is (negsuc k) n h e t = absurd h

-- Values before those that a reader finds.
module _ {A : Type 0} where
  abbrev pub prefixed : List A → maybe.Option (List A × List ℤ) → maybe.Option (List A × List ℤ)
  prefixed xs o = and_then o (λ t. give (xs ++ t.0) t.1)

  prefixed-none : (o : maybe.Option (List A × List ℤ)) → o ≡ prefixed [] o
  prefixed-none maybe.none = refl
  prefixed-none (maybe.some t) = refl

  prefixed-more : (xs : List A) (a : A) (o : maybe.Option (List A × List ℤ)) → prefixed xs (prefixed (a ∷ []) o) ≡ prefixed (xs ++ a ∷ []) o
  prefixed-more xs a maybe.none = refl
  prefixed-more xs a (maybe.some t) = rw (append_assoc xs (a ∷ []) t.0)

-- One value more of many, or nothing.
module _ {A : Type 0} {p : Reader A} (n : ℕ) {before after : Left} where
  many-stop : Takes p before after None → and_then before (many p (suc n)) ≡ maybe.none
  unfolding many
  many-stop e = (then-none (λ a. many p n then λ rest. give (a ∷ rest)) {last = after} e).is

  many_more : {a : A} → Takes p before after (Some a) → and_then before (many p (suc n)) ≡ prefixed (a ∷ []) (and_then after (many p n))
  unfolding many
  many_more {a} e =
      both p (λ x. many p n then λ rest. give (x ∷ rest)) before
      ∙ rw e.is (sym (both (give a) (λ x. many p n then λ rest. give (x ∷ rest)) after) ∙ both (many p n) (λ rest. give (a ∷ rest)) after)

many-end : {A : Type 0} (p : Reader A) (xs : List A) (n : ℕ) (l : Left) → n ≡ 0 → prefixed xs (and_then l (many p n)) ≡ and_then l (give xs)
unfolding many
many-end p xs n l e = rw e (sym (both (give []) (λ rest. give (xs ++ rest)) l) ∙ ap (λ ys. and_then l (give ys)) (append-nil xs))

-- The first i of n values are the first of xs, and the others are read from what is left now.
pub record SoFar {A : Type 0} (p : Reader A) (before now : Left) (n : ℕ) (xs : List A) (i : ℕ) : Type 0 where
  pub rest : and_then before (many p n) ≡ prefixed (take i xs) (and_then now (many p (n - i)))

module _ {A : Type 0} {p : Reader A} {before : Left} {n : ℕ} {xs : List A} where
  pub so-far-none : SoFar p before before n xs 0
  so-far-none = record { rest = rw sub-zero (prefixed-none (and_then before (many p n))) }

  module _ {now : Left} {i : ℕ} (s : SoFar p before now n xs i) where
    abbrev others : ℕ
    others = n - (i + 1)

    pub so-far-stop : {after last : Left} → i < n → Takes p now after None → Takes (many p n) before last None
    so-far-stop h e = let j : n - i ≡ suc others = omega arith in record { is = s.rest ∙ rw (j, many-stop others e) }

    pub so_far_more : {a : A} {next : Left} → i < n → i < length xs → Takes p now next (Some a) → SoFar p before next n (set xs i a) (i + 1)
    so_far_more {a} {next} h l e =
        let j : n - i ≡ suc others = omega arith in
        let one : take (i + 1) (set xs i a) ≡ take i xs ++ a ∷ [] = rw add-one (take-suc-set xs i a l) in
        record { rest = s.rest ∙ rw (j, one, many_more others e) (prefixed-more (take i xs) a (and_then next (many p others))) }

    pub so-far-all : i ≡ n → Takes (many p n) before now (Some (take n xs))
    so-far-all h = record { is = s.rest ∙ rw h (many-end p (take n xs) (n - n) now (omega arith)) }
