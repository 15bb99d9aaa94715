-- The laws of demand 3, of replies: every array, either origin, every axis, every output buffer that is long enough.
-- A call's K is written K, K₁, .. where it is not looked at, and its L likewise.
use Rattle.std.specs.Prelude.{ℕ, ◌≤◌, List, map, set, ℤ, pos, ◌+ℤ◌}
use Rattle.meaning.specs.Array.{Operand, array_of}
use Rattle.meaning.specs.Terms.{rank, axis, from_zero}
use Rattle.meaning.specs.Reply.{Reply, reply}
use Rattle.laws.specs.Words.{IsArray, IsOrigin, IsAxis, IsTurnAxis, IsLong, given, Succeeds, Same, Lists, IsSingle}
use Rattle.laws.specs.Words.{Sends, Transposition, primitive_of, left_operand_of, axes_of, sent_on, AsOften}

-- 1. Two rotations along an axis are the one by the sum. (Where the sum fits 32 signed bits an operand can hold it.)
abbrev pub TwoRotations : Type 0
TwoRotations =
    (G K a b : ℤ) (la lb lab r : Operand) (out₁ out₂ out : List ℤ)
    → IsOrigin G
    → IsArray r
    → IsTurnAxis G K r
    → IsSingle la a
    → IsSingle lb b
    → IsSingle lab (a +ℤ b)
    → let first : Reply = reply (pos 25) G K la r out₁ in
    let second : Reply = reply (pos 25) G K lb (given first) out₂ in
    let one : Reply = reply (pos 25) G K lab r out in
    IsLong (pos 25) G K la r out₁
    → IsLong (pos 25) G K lb (given first) out₂
    → IsLong (pos 25) G K lab r out
    → Succeeds first × Succeeds second × Succeeds one × Same (given second) (given one)

-- 2. Two reversals along an axis give the array back.
abbrev pub TwoReversals : Type 0
TwoReversals =
    (G K : ℤ) (l₁ l₂ r : Operand) (out₁ out₂ : List ℤ)
    → IsOrigin G
    → IsArray r
    → IsTurnAxis G K r
    → let first : Reply = reply (pos 14) G K l₁ r out₁ in
    let second : Reply = reply (pos 14) G K l₂ (given first) out₂ in
    IsLong (pos 14) G K l₁ r out₁
    → IsLong (pos 14) G K l₂ (given first) out₂
    → Succeeds first × Succeeds second × Same (given second) r

-- 3. Two transpositions that permute all axes are the one 26 that sends each axis where the second sends the place the first gave it.
abbrev pub TwoTranspositions : Type 0
TwoTranspositions =
    (G K₁ K₂ K : ℤ) (r l : Operand) (t u : Transposition G (rank (array_of r))) (out₁ out₂ out : List ℤ)
    → IsOrigin G
    → IsArray r
    → Sends G l (sent_on (axes_of t) (axes_of u))
    → let first : Reply = reply (primitive_of t) G K₁ (left_operand_of t) r out₁ in
    let second : Reply = reply (primitive_of u) G K₂ (left_operand_of u) (given first) out₂ in
    let one : Reply = reply (pos 26) G K l r out in
    IsLong (primitive_of t) G K₁ (left_operand_of t) r out₁
    → IsLong (primitive_of u) G K₂ (left_operand_of u) (given first) out₂
    → IsLong (pos 26) G K l r out
    → Succeeds first × Succeeds second × Succeeds one × Same (given second) (given one)

-- 4. The first n along an axis (23) joined (22) to what dropping n leaves (24) is the array, n from 0 to the axis's length.
abbrev pub FirstAndRest : Type 0
FirstAndRest =
    (G K K₁ K₂ : ℤ) (n : ℕ) (l₁ l₂ r : Operand) (out₁ out₂ out : List ℤ)
    → IsOrigin G
    → IsArray r
    → IsAxis G K r
    → n ≤ axis (array_of r) (from_zero G K)
    → Lists l₁ (set (map pos (array_of r).lengths) (from_zero G K) (pos n))
    → Lists l₂ (set (map (λ m. pos 0) (array_of r).lengths) (from_zero G K) (pos n))
    → let first : Reply = reply (pos 23) G K₁ l₁ r out₁ in
    let rest : Reply = reply (pos 24) G K₂ l₂ r out₂ in
    let joined : Reply = reply (pos 22) G K (given first) (given rest) out in
    IsLong (pos 23) G K₁ l₁ r out₁
    → IsLong (pos 24) G K₂ l₂ r out₂
    → IsLong (pos 22) G K (given first) (given rest) out
    → Succeeds first × Succeeds rest × Succeeds joined × Same (given joined) r

-- 5. Ravelled elements (12) reshaped (21) to the old lengths are the array.
abbrev pub RavelledReshaped : Type 0
RavelledReshaped =
    (G K₁ K₂ : ℤ) (l₁ l r : Operand) (out₁ out : List ℤ)
    → IsOrigin G
    → IsArray r
    → Lists l (map pos (array_of r).lengths)
    → let ravelled : Reply = reply (pos 12) G K₁ l₁ r out₁ in
    let reshaped : Reply = reply (pos 21) G K₂ l (given ravelled) out in
    IsLong (pos 12) G K₁ l₁ r out₁
    → IsLong (pos 21) G K₂ l (given ravelled) out
    → Succeeds ravelled × Succeeds reshaped × Same (given reshaped) r

-- 6. Every rotation, every reversal and every transposition that permutes all axes keeps each number as often as before. A rotation is 25
-- with an L that it accepts, which is a single.
abbrev pub RotationKeeps : Type 0
RotationKeeps =
    (G K a : ℤ) (l r : Operand) (out : List ℤ)
    → IsOrigin G
    → IsArray r
    → IsTurnAxis G K r
    → IsSingle l a
    → IsLong (pos 25) G K l r out
    → Succeeds (reply (pos 25) G K l r out) × AsOften (given (reply (pos 25) G K l r out)) r

abbrev pub ReversalKeeps : Type 0
ReversalKeeps =
    (G K : ℤ) (l r : Operand) (out : List ℤ)
    → IsOrigin G
    → IsArray r
    → IsTurnAxis G K r
    → IsLong (pos 14) G K l r out
    → Succeeds (reply (pos 14) G K l r out) × AsOften (given (reply (pos 14) G K l r out)) r

abbrev pub TranspositionKeeps : Type 0
TranspositionKeeps =
    (G K : ℤ) (r : Operand) (t : Transposition G (rank (array_of r))) (out : List ℤ)
    → IsOrigin G
    → IsArray r
    → IsLong (primitive_of t) G K (left_operand_of t) r out
    → Succeeds (reply (primitive_of t) G K (left_operand_of t) r out) × AsOften (given (reply (primitive_of t) G K (left_operand_of t) r out)) r
