-- Lengths that agree but for an axis, compared part by part.
use mathlib.Core.Path.{◌≡◌, refl, sym, ap, ap₂, ◌∙◌}
use mathlib.Core.List.{List, [], ◌∷◌, ◌++◌}
use mathlib.Core.Bool.{Bool, true, ◌&&◌, and_assoc}
use Prim.Native.Nat.{ℕ, suc, ◌+◌, ◌-◌, ◌≤◌, ◌<◌}
use native.Mathlib.Numerals.{add-one}
use native.Mathlib.Omega.{arith}
use lib.ListN.{length, take, drop, take-append-drop}
use lib.Pointwise.{pointwise}
use lib.IntN.{ℤ}
use lib.Seq.{take-take, length-take-le}
use Rattle.std.specs.Prelude.{nat_eq}
use Rattle.std.proofs.lemmas.List.{drop-take}
use lib.Dec.{eqb}
use Rattle.shape.specs.declared.Shape.{Shape}
use Rattle.shape.specs.Shape.{max_rank, counted, without}
use Rattle.meaning.specs.Array.{Array, array_of}
use Rattle.meaning.specs.Terms.{rank, same_lengths}
use Rattle.meaning.specs.Primitives.{Side}
use Rattle.meaning.specs.Steps.{Beside}
use Rattle.meaning.specs.Steps.Beside.{scalar, less, equal}
use Rattle.meaning.proofs.Without.{without-parts}
use Rattle.meaning.proofs.Sides.{same-lengths, side-scalar, side-lower, side-whole}
use Rattle.answer.specs.Answer.{lent}
use Rattle.joins.specs.Steps.{agree}

-- Slices of lengths, as `==` compares them.
pub same_pointwise : (a b : List ℕ) → same_lengths a b ≡ pointwise nat_eq a b
unfolding same_lengths
same_pointwise [] [] = refl
same_pointwise [] (y ∷ b) = refl
same_pointwise (x ∷ a) [] = refl
same_pointwise (x ∷ a) (y ∷ b) = ap (λ t. eqb x y && t) (same_pointwise a b)

same-both : (ws bs cs ds : List ℕ) → length ws ≡ length cs → same_lengths (ws ++ bs) (cs ++ ds) ≡ (same_lengths ws cs && same_lengths bs ds)
unfolding same_lengths
same-both [] bs [] ds e = refl
same-both [] bs (c ∷ cs) ds e = absurd (omega arith)
same-both (a ∷ ws) bs [] ds e = absurd (omega arith)
same-both (a ∷ ws) bs (c ∷ cs) ds e =
    ap (λ t. eqb a c && t) (same-both ws bs cs ds (omega arith)) ∙ sym (and_assoc (eqb a c) (same_lengths ws cs) (same_lengths bs ds))

beside-le : {m n : ℕ} → Beside m n → m ≤ n
beside-le (scalar h) = omega arith
beside-le (less h e) = omega arith
beside-le (equal h e) = omega arith

-- An operand's shape s and the higher shape, of which the program has all lengths.
module _ (s hs : Shape) (k : ℕ) (beside : Beside s.rank hs.rank) (high : hs.rank ≤ max_rank) (has : k < hs.rank) (sl : length s.lens ≡ max_rank)
    (hl : length hs.lens ≡ max_rank) where
  -- The lengths after axis k: the operand's start at `from`, the higher ones at k + 1.
  abbrev from : ℕ
  from = k + 1 + s.rank - hs.rank

  abbrev pub parts : Bool
  parts =
      same_lengths (take k s.lens) (take k hs.lens)
      && same_lengths (take (s.rank - from) (drop from s.lens)) (take (hs.rank - (k + 1)) (drop (k + 1) hs.lens))

  front : (t : Shape) → k ≤ t.rank → take k (counted t) ≡ take k t.lens
  front t h = take-take k t.rank t.lens h

  back : (t : Shape) (n : ℕ) → n ≤ t.rank → drop n (counted t) ≡ take (t.rank - n) (drop n t.lens)
  back t n h = let q : t.rank ≡ n + (t.rank - n) = omega arith in ap (λ m. drop n (take m t.lens)) q ∙ drop-take n (t.rank - n) t.lens

  higher-parts : without k (counted hs) ≡ take k hs.lens ++ take (hs.rank - (k + 1)) (drop (k + 1) hs.lens)
  higher-parts =
      without-parts (counted hs) k
      ∙ ap₂ (λ x y. x ++ y) (front hs (omega arith)) (ap (λ n. drop n (counted hs)) (sym (add-one k)) ∙ back hs (k + 1) (omega arith))

  parted : (xs : List ℕ) → k ≤ s.rank → from ≤ s.rank → xs ≡ take k (counted s) ++ drop from (counted s)
      → same_lengths xs (without k (counted hs)) ≡ parts
  parted xs h q e =
      ap₂ same_lengths (e ∙ ap₂ (λ x y. x ++ y) (front s h) (back s from q)) higher-parts
      ∙ same-both (take k s.lens) _ (take k hs.lens) _ (length-take-le k s.lens (omega arith) ∙ sym (length-take-le k hs.lens (omega arith)))

  -- So the test of the operand's other lengths, whatever its elements.
  module _ (x : List ℤ) where
    abbrev a : Array
    a = array_of (lent s x)

    ranked : (rank a ≡ s.rank) × (length (counted hs) ≡ hs.rank)
    ranked =
        let low : s.rank ≤ hs.rank = beside-le beside in
        (length-take-le s.rank s.lens (omega arith), length-take-le hs.rank hs.lens (omega arith))

    pub agrees-scalar : s.rank ≡ 0 → agree (counted hs) k a ≡ true
    agrees-scalar h =
        ap (λ (z : Side). same_lengths z.others (without k (counted hs))) (side-scalar (counted hs) k a (ranked.0 ∙ h))
        ∙ same-lengths (without k (counted hs))

    pub agrees-parts : 0 < s.rank → agree (counted hs) k a ≡ parts
    agrees-parts p = by beside
      where
        by : Beside s.rank hs.rank → agree (counted hs) k a ≡ parts
        by (scalar h) = absurd (omega arith)
        by (less h e) =
            let r = ranked in
            let f : k ≡ from = omega arith in
            ap (λ (z : Side). same_lengths z.others (without k (counted hs))) (side-lower (counted hs) k a (omega arith) (omega arith))
            ∙ parted (counted s) (omega arith) (omega arith)
            (sym (take-append-drop k (counted s)) ∙ ap (λ n. take k (counted s) ++ drop n (counted s)) f)
        by (equal h e) =
            let r = ranked in
            let f : suc k ≡ from = omega arith in
            ap (λ (z : Side). same_lengths z.others (without k (counted hs))) (side-whole (counted hs) k a (omega arith) (omega arith))
            ∙ parted (without k (counted s)) (omega arith) (omega arith)
            (without-parts (counted s) k ∙ ap (λ n. take k (counted s) ++ drop n (counted s)) f)
