-- Laws 1, 2 and 6 of rotations and reversals.
use mathlib.Core.Path.{◌≡◌, refl, sym, ap, ◌∙◌}
use mathlib.Core.List.{List, [], ◌∷◌}
use mathlib.Core.Bool.{not}
use Prim.Native.Nat.{ℕ, ◌-◌, max}
use native.Mathlib.Omega.{arith}
use lib.ListN.{length, get_or}
use lib.IntN.{ℤ, pos, neg_ℤ, ◌+ℤ◌, ◌-ℤ◌, +ℤ_assoc, +ℤ_comm}
use Rattle.meaning.specs.Array.{Operand, Array, array_of}
use Rattle.meaning.specs.Terms.{axis, int_same, within, from_zero, along, modulo}
use Rattle.meaning.specs.Primitives.{reverse, rotate}
use Rattle.meaning.specs.Reply.{primitives, named, reply}
use Rattle.meaning.proofs.Arrays.{Whole, form-whole}
use Rattle.meaning.proofs.Scalars.{vector-rank}
use Rattle.laws.specs.Words.{IsArray, IsOrigin, IsTurnAxis, IsLong, given, IsSingle}
use Rattle.laws.specs.Laws.{TwoRotations, TwoReversals, RotationKeeps, ReversalKeeps}
use Rattle.laws.proofs.Calls.{array-rule, GivesArray, gives, same-arrays, same-array, as-often, single-lists, lists-array}
use Rattle.laws.proofs.Moves.{along_lines, moved, moved-lengths, moved-ext, moved-id, moved-moved}
use Rattle.meaning.proofs.Modulo.{modulo-lt, modulo-sum, modulo-back, modulo-forth}
use Rattle.laws.proofs.Sum.{OneToOne, Below}
use Rattle.laws.proofs.Permuted.{moved-occurs}

-- What 14 and 25 do to an array.
abbrev turned : ℤ → ℤ → Array → Array
turned G K a = moved a (from_zero G K) (λ q i. axis a (from_zero G K) - 1 - i)

abbrev rotated : ℤ → ℤ → ℤ → Array → Array
rotated G K z a = moved a (from_zero G K) (λ q i. modulo (pos i +ℤ z) (axis a (from_zero G K)))

module _ (G K : ℤ) (r : Operand) (out : List ℤ) (o : IsOrigin G) (h : IsArray r) (t : IsTurnAxis G K r) where
  reverse-gives : (l : Operand) → IsLong (pos 14) G K l r out → GivesArray (reply (pos 14) G K l r out) (turned G K (array_of r))
  unfolding named primitives int_same reverse along along_lines moved
  reverse-gives l room =
      let rule = array-rule r h in
      gives
      (record { left_is = refl; right_is = refl; left-form = refl; right-form = h.form; origin = o; room = room; limit = rule; own = (ap not t, tt) })

  rotate-gives : (l : Operand) (z : ℤ) → IsSingle l z → IsLong (pos 25) G K l r out → GivesArray (reply (pos 25) G K l r out) (rotated G K z (array_of r))
  unfolding named primitives int_same rotate along along_lines moved
  rotate-gives l z one room =
      let s = single-lists l z one in
      gives (record {
        left_is = lists-array l (z ∷ []) s;
        right_is = refl;
        left-form = s.form;
        right-form = h.form;
        origin = o;
        room = room;
        limit = array-rule r h;
        own = (ap not s.list, (ap not t, (refl, tt)));
      })

-- A moved array has the axes of the array that it was made of.
turn-axis : (G K : ℤ) (r s : Operand) (k : ℕ) (f : List ℕ → ℕ → ℕ) → array_of s ≡ moved (array_of r) k f → IsTurnAxis G K r → IsTurnAxis G K s
turn-axis G K r s k f e t =
    let same : (array_of s).lengths ≡ (array_of r).lengths = ap (λ a. a.lengths) e ∙ moved-lengths (array_of r) k f in
    ap (within (K -ℤ G)) (vector-rank (array_of s) ∙ ap (λ (ns : List ℕ). max 1 (length ns)) same ∙ sym (vector-rank (array_of r))) ∙ t

-- The position of i after two reversals, and after two rotations.
reversed-twice : (a : Array) (k : ℕ) → Whole a → (n : ℕ) → n ≡ axis a k → moved (moved a k (λ q i. axis a k - 1 - i)) k (λ q i. n - 1 - i) ≡ a
reversed-twice a k w n e =
    moved-moved a k (λ q i. axis a k - 1 - i) (λ q i. n - 1 - i) (λ q i h. omega arith)
    ∙ moved-id a k _ w (λ q i h. omega arith)

pub two-reversals : TwoReversals
two-reversals G K l₁ l₂ r out₁ out₂ o h t room₁ room₂ =
    let k : ℕ = from_zero G K in
    let a : Array = array_of r in
    let once : Operand = given (reply (pos 14) G K l₁ r out₁) in
    let first = reverse-gives G K r out₁ o h t l₁ room₁ in
    let second = reverse-gives G K once out₂ o first.good (turn-axis G K r once k _ first.array t) l₂ room₂ in
    let same : axis (array_of once) k ≡ axis a k = ap (λ b. axis b k) first.array ∙ ap (λ ns. get_or ns k 0) (moved-lengths a k _) in (
      first.number,
      second.number,
      same-array r h second (ap (λ b. moved b k (λ q i. axis (array_of once) k - 1 - i)) first.array ∙ reversed-twice a k (form-whole r h.form) _ same),
    )

rotated-twice : (a : Array) (k : ℕ) (y z : ℤ) (n : ℕ) → n ≡ axis a k
    → moved (moved a k (λ q i. modulo (pos i +ℤ y) (axis a k))) k (λ q i. modulo (pos i +ℤ z) n) ≡ moved a k (λ q i. modulo (pos i +ℤ (y +ℤ z)) (axis a k))
rotated-twice a k y z n e =
    ap (λ m. moved (moved a k (λ q i. modulo (pos i +ℤ y) (axis a k))) k (λ q i. modulo (pos i +ℤ z) m)) e
    ∙ moved-moved a k _ _ (λ q i h. modulo-lt _ (axis a k) (omega arith))
    ∙ moved-ext a k _ _
    (λ q i h.
    modulo-sum (pos i +ℤ z) y (axis a k) (omega arith)
    ∙ ap (λ v. modulo v (axis a k)) (+ℤ_assoc (pos i) z y ∙ ap (λ v. pos i +ℤ v) (+ℤ_comm z y)))

pub two-rotations : TwoRotations
two-rotations G K y z ly lz lyz r out₁ out₂ out o h t sy sz syz room₁ room₂ room =
    let k : ℕ = from_zero G K in
    let a : Array = array_of r in
    let once : Operand = given (reply (pos 25) G K ly r out₁) in
    let first = rotate-gives G K r out₁ o h t ly y sy room₁ in
    let second = rotate-gives G K once out₂ o first.good (turn-axis G K r once k _ first.array t) lz z sz room₂ in
    let one = rotate-gives G K r out o h t lyz (y +ℤ z) syz room in
    let same : axis (array_of once) k ≡ axis a k = ap (λ b. axis b k) first.array ∙ ap (λ ns. get_or ns k 0) (moved-lengths a k _) in (
      first.number,
      second.number,
      one.number,
      same-arrays second one (ap (λ b. moved b k (λ q i. modulo (pos i +ℤ z) (axis (array_of once) k))) first.array ∙ rotated-twice a k y z _ same),
    )

pub reversal-keeps : ReversalKeeps
reversal-keeps G K l r out o h t room =
    let g = reverse-gives G K r out o h t l room in
    let n : ℕ = axis (array_of r) (from_zero G K) in
    let back : OneToOne (Below n) (Below n) (λ i. n - 1 - i) (λ i. n - 1 - i) =
    record { there = λ i l. omega arith; back = λ i l. omega arith; there_back = λ i l. omega arith; back-there = λ i l. omega arith } in
    (g.number, as-often r g (moved-occurs (array_of r) (from_zero G K) _ _ (form-whole r h.form) (λ q. back)))

pub rotation-keeps : RotationKeeps
rotation-keeps G K z l r out o h t s room =
    let g = rotate-gives G K r out o h t l z s room in
    let n : ℕ = axis (array_of r) (from_zero G K) in
    let back : OneToOne (Below n) (Below n) (λ i. modulo (pos i +ℤ z) n) (λ i. modulo (pos i +ℤ neg_ℤ z) n) = record {
      there = λ i l. modulo-lt _ n (omega arith);
      back = λ i l. modulo-lt _ n (omega arith);
      there_back = λ i l. modulo-back i n z l;
      back-there = λ i l. modulo-forth i n z l;
    } in
    (g.number, as-often r g (moved-occurs (array_of r) (from_zero G K) _ _ (form-whole r h.form) (λ q. back)))
