-- The first numbers of a list with zeros after them, up to a fixed length.
use mathlib.Core.Path.{◌≡◌, sym, ◌∙◌}
use mathlib.Core.List.{List, [], ◌∷◌, ◌++◌, append_assoc}
use Prim.Native.Nat.{ℕ, suc, ◌+◌, ◌-◌, ◌≤◌, ◌<◌}
use native.Mathlib.Numerals.{add-one}
use native.Mathlib.Omega.{arith}
use lib.ListN.{length, get_or, set, take, replicate, replicate-append-replicate}
use lib.Seq.{set_at, take-suc, length-take-le}

zeros-cons : (m i : ℕ) → i < m → replicate {A = ℕ} (m - i) 0 ≡ 0 ∷ replicate (m - suc i) 0
zeros-cons m i h = let e : m - i ≡ suc (m - suc i) = omega arith in rw e

-- One number more.
pub padded-more : (ns : List ℕ) (m i : ℕ) → i < length ns → i < m
    → set (take i ns ++ replicate (m - i) 0) i (get_or ns i 0) ≡ take (i + 1) ns ++ replicate (m - (i + 1)) 0
padded-more ns m i h l =
    rw (zeros-cons m i l, set_at (take i ns) 0 (replicate (m - suc i) 0) (get_or ns i 0) i (length-take-le i ns (omega arith)), add-one, take-suc ns i 0 h)
    (sym (append_assoc (take i ns) (get_or ns i 0 ∷ []) (replicate (m - suc i) 0)))

-- The last of the numbers changed.
pub padded-set : (ns : List ℕ) (m i j v : ℕ) → i ≡ suc j → i ≤ length ns
    → set (take i ns ++ replicate (m - i) 0) j v ≡ take j ns ++ (v ∷ replicate (m - i) 0)
padded-set ns m i j v e h =
    rw (e, take-suc ns j 0 (omega arith), append_assoc (take j ns) (get_or ns j 0 ∷ []) (replicate (m - suc j) 0))
    (set_at (take j ns) (get_or ns j 0) (replicate (m - suc j) 0) v j (length-take-le j ns (omega arith)))

-- One number less.
pub padded-less : (ns : List ℕ) (m i j : ℕ) → i ≡ suc j → i ≤ length ns → j < m
    → set (take i ns ++ replicate (m - i) 0) j 0 ≡ take j ns ++ replicate (m - j) 0
padded-less ns m i j e h l = padded-set ns m i j 0 e h ∙ rw (zeros-cons m j l, e)

-- Zeros up to one length, and on to another.
pub padded-on : (ns : List ℕ) (v i r m : ℕ) → i ≤ r → r ≤ m
    → (ns ++ (v ∷ replicate (r - i) 0)) ++ replicate (m - r) 0 ≡ ns ++ (v ∷ replicate (m - i) 0)
padded-on ns v i r m h l =
    let e : r - i + (m - r) ≡ m - i = omega arith in
    rw (append_assoc, replicate-append-replicate, e)
