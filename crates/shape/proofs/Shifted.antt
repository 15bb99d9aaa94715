-- Lengths with one axis removed, in the array that holds them.
use mathlib.Core.Path.{◌≡◌, refl, sym, ap, ◌∙◌}
use mathlib.Core.List.{List, [], ◌∷◌, ◌++◌, append_assoc}
use Prim.Native.Nat.{ℕ, zero, suc, ◌+◌, ◌-◌, ◌≤◌, ◌<◌}
use native.Mathlib.Numerals.{add-one}
use native.Mathlib.Omega.{arith}
use lib.ListN.{length, get_or, set, take, drop, length-drop}
use lib.Seq.{take-suc, take-take, length-take-le, drop-cons, set_at}
use Rattle.std.specs.List.{copy_within}
use Rattle.std.proofs.lemmas.List.{drop-take}
use Rattle.std.proofs.lemmas.List.Edits.{take-paste}
use Rattle.shape.specs.Shape.{without}

-- One more element of s over the front of d.
pub front-step : {A : Type 0} (s d : List A) (i : ℕ) (z : A) → i < length s → i < length d
    → set (take i s ++ drop i d) i (get_or s i z) ≡ take (i + 1) s ++ drop (i + 1) d
front-step s d i z h k =
    rw (drop-cons d i z k, set_at (take i s) (get_or d i z) (drop (suc i) d) (get_or s i z) i (length-take-le i s (omega arith)), add-one, take-suc s i z h)
    (sym (append_assoc (take i s) (get_or s i z ∷ []) (drop (suc i) d)))

without_parts : (ns : List ℕ) (k : ℕ) → without k ns ≡ take k ns ++ drop (suc k) ns
unfolding without
without_parts [] zero = refl
without_parts [] (suc k) = refl
without_parts (n ∷ ns) zero = refl
without_parts (n ∷ ns) (suc k) = ap (λ q. n ∷ q) (without_parts ns k)

-- The first r lengths from axis k on, without it.
pub rest_after : (ns : List ℕ) (k r : ℕ) → k < r → drop (suc k) (take r ns) ≡ take (r - (k + 1)) (drop (k + 1) ns)
rest_after ns k r h =
    let m : ℕ = r - (k + 1) in
    let all : suc k + m ≡ r = omega arith in
    (rw all at (drop-take (suc k) m ns)) ∙ ap (λ x. take m (drop x ns)) (sym (add-one k))

-- The axes after axis k moved one place to the front.
pub moved_front : (ns lens : List ℕ) (k r : ℕ) → k < r → r ≤ length ns → lens ≡ copy_within ns (k + 1) r k → take (r - 1) lens ≡ without k (take r ns)
moved_front ns lens k r h l e =
    let m : ℕ = r - (k + 1) in
    let front : r - 1 ≡ k + m = omega arith in
    let parts : take (k + m) lens ≡ take k ns ++ take m (drop (k + 1) ns) =
    rw e (take-paste ns k (drop (k + 1) ns) m (omega arith) (omega (arith, length-drop (k + 1) ns))) in
    rw (front, parts, without_parts (take r ns) k, take-take k r ns (omega arith), rest_after ns k r h)
