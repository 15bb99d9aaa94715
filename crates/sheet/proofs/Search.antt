-- Newlines are counted, and the first is found.
use Rattle.std.proofs.Common.{ℕ, ◌+◌, ◌*◌, ◌-◌, ◌<◌, ◌≡◌, List, [], ◌∷◌, ◌++◌, ◌==◌, Bool, false, cond, Bor, refl, sym, ap, ◌∙◌, arith}
use Rattle.std.proofs.Common.{append_assoc, length, take, drop, take_all, length-append, length-drop}
use Rattle.std.specs.Prelude.{Option, Some, None, MatchOption, option_map}
use Rattle.std.specs.List.{count_by, list_any, position, position_or_len, FoldsTo}
use Rattle.std.specs.Iterator.{Yields, YieldsThen}
use Rattle.std.specs.Slice.Iter.{chunks_rest, chunks_size, chunks_steps}
use Rattle.std.proofs.lemmas.List.Recursion.{is_count_by}
use Rattle.std.proofs.lemmas.List.Folds.{list_any-append}
use Rattle.std.proofs.lemmas.List.{nil_from_length}
use Rattle.std.proofs.lemmas.Bool.Decides.{nat_tests}
use Rattle.std.proofs.lemmas.Grind.{common_steps}
use lib.Seq.{drop_at}
use Rattle.std.specs.declared.slice.Chunks.{Chunks}
use Rattle.sheet_line.specs.Text.{newline}
use Rattle.sheet.specs.Steps.{newlines}

pub newlines-count : (text : List ℕ) → count_by (λ b. b == newline) text ≡ newlines text
unfolding newlines
newlines-count text =
    sym (is_count_by newlines (λ b. b == newline) refl (λ b bs. ap (λ n. cond (b == newline) n (newlines bs)) (omega arith)) text)

pub newlines-none : newlines [] ≡ 0
unfolding newlines
newlines-none = refl

abbrev pub is-newline : ℕ → Bool
is-newline b = b == newline

-- Bytes without a newline are passed over.
pass-over : (xs ys : List ℕ) → list_any is-newline xs ≡ false → position_or_len is-newline (xs ++ ys) ≡ length xs + position_or_len is-newline ys
pass-over [] ys e = grind (arith, common_steps)
pass-over (x ∷ xs) ys e = grind (arith, common_steps, pass-over xs ys)

pub position-after : (xs ys : List ℕ) → list_any is-newline xs ≡ false
    → position is-newline (xs ++ ys) ≡ option_map (λ n. length xs + n) (position is-newline ys)
position-after xs ys e = rw (pass-over xs ys e, length-append xs ys) (grind (arith, nat_tests))

none-after : (bytes xs ys : List ℕ) → bytes ≡ xs ++ ys → list_any is-newline xs ≡ false → ys ≡ [] → position is-newline bytes ≡ None
none-after bytes xs ys e free none = rw (e, none) (position-after xs [] free)

first-after : (bytes xs ys : List ℕ) (n : ℕ) → bytes ≡ xs ++ ys → list_any is-newline xs ≡ false → length xs ≡ n
    → position is-newline bytes ≡ option_map (λ k. n + k) (position is-newline (drop n bytes))
first-after bytes xs ys n e free long = rw (e, ← long, drop_at xs ys (length xs) refl) (position-after xs ys free)

-- Blocks that have no newline, up to one that may have one or to the end.
module _ {F : Type 0} (R : F → Bor (List ℕ) → F → Type 0) (f : F)
    (none : (x : Bor (List ℕ)) (q : F) → R f x q → (q ≡ f) × (list_any is-newline x.now ≡ false)) where
  record Passed (s t : Chunks ℕ) (j : F) (n : ℕ) : Type 0 where
    front : List ℕ
    joined : chunks_rest s ≡ front ++ chunks_rest t
    free : list_any is-newline front ≡ false
    long : 0 < length (chunks_rest t) → length front ≡ n * 64
    same : j ≡ f

  passed : (s t : Chunks ℕ) (xs : List (Bor (List ℕ))) (j : F) → chunks_size s ≡ 64 → Yields chunks_steps s xs t → FoldsTo R f xs j
      → Passed s t j (length xs)
  passed s t [] j e y h = record { front = []; joined = ap chunks_rest y; free = refl; long = λ p. refl; same = sym h }
  passed s t (x ∷ xs) j e (u, step, y) (i, call, h) =
      let known = none x i call in
      let rest = passed u t xs j (step.0 ∙ e) y (rw known.0 at h) in
      record {
        front = x.now ++ rest.front;
        joined = step.1.0 ∙ ap (λ l. x.now ++ l) rest.joined ∙ sym (append_assoc x.now rest.front (chunks_rest t));
        free = list_any-append is-newline x.now rest.front ∙ rw (known.1, rest.free) refl;
        long = λ p. omega (
          arith,
          e,
          rest.long p,
          step.1.1,
          ap length step.1.0,
          ap length rest.joined,
          length-append x.now rest.front,
          length-append x.now (chunks_rest u),
          length-append rest.front (chunks_rest t),
        );
        same = rest.same;
      }

  -- What the search over blocks of 64 says of all bytes.
  pub in-blocks : (bytes : List ℕ) (s u : Chunks ℕ) (r : Option ℕ) (Hit : Bor (List ℕ) → F → Type 0) → chunks_rest s ≡ bytes → chunks_size s ≡ 64
      → (xs : List (Bor (List ℕ))) × (o : Option (Bor (List ℕ))) × (j : F) × YieldsThen chunks_steps s xs o u × FoldsTo R f xs j
      × MatchOption o (r ≡ None) (λ x. (r ≡ Some (length xs)) × Hit x j)
      → MatchOption r (position is-newline bytes ≡ None)
      (λ n. position is-newline bytes ≡ option_map (λ k. n * 64 + k) (position is-newline (drop (n * 64) bytes)))
  in-blocks bytes s u r Hit is size (xs, None, j, (t, y, step), h, e) =
      let p = passed s t xs j size y h in
      rw e (none-after bytes p.front (chunks_rest t) (sym is ∙ p.joined) p.free (nil_from_length _ step.1.0))
  in-blocks bytes s u r Hit is size (xs, Some x, j, (t, y, step), h, e) =
      let p = passed s t xs j size y h in
      rw e.0 (first-after bytes p.front (chunks_rest t) (length xs * 64) (sym is ∙ p.joined) p.free (p.long step.1.2))

-- The search in the bytes from a place on, of which the code makes a part.
pub place-in : (bytes : List ℕ) (start : ℕ) (r : Option ℕ) → r ≡ position is-newline (take (length bytes - start) (drop start bytes))
    → position is-newline (drop start bytes) ≡ r
place-in bytes start r e = sym (e ∙ ap (position is-newline) (take_all (length bytes - start) (drop start bytes) (omega (arith, length-drop start bytes))))
