-- A run written several elements at a time, from its front, in its order or the last of its elements first.
use mathlib.Core.Path.{◌≡◌, refl, sym, ap, ap₂, ◌∙◌}
use mathlib.Core.List.{List, ◌++◌}
use mathlib.Core.Bool.{Bool, true, false, cond}
use Prim.Native.Nat.{ℕ, zero, suc, ◌+◌, ◌-◌, ◌≤◌, ◌<◌}
use native.Mathlib.Nat.{add-zero}
use native.Mathlib.Omega.{arith}
use Rattle.std.proofs.lemmas.List.{get_or_default, get_or-reverse, take-append-le, take-take}
use lib.ListN.{length, get_or, set, take, drop, length-drop, length-reverse}
use lib.Seq.{paste, paste-zero, paste-suc, get_or-drop, get_or-take, take-add, drop-drop, drop_at, length-take-le}
use Rattle.copying.specs.Steps.{ordered}

place-lt : (back : Bool) (n i : ℕ) → i < n → cond back (n - 1 - i) i < n
place-lt true n i h = omega arith
place-lt false n i h = h

module _ {A : Type 0} where
  pub length_ordered : (back : Bool) (s : List A) → length (ordered back s) ≡ length s
  length_ordered true s = length-reverse s
  length_ordered false s = refl

  ordered_at : (back : Bool) (s : List A) (i : ℕ) (z : A) → i < length s → get_or s (cond back (length s - 1 - i) i) z ≡ get_or (ordered back s) i z
  ordered_at true s i z h = sym (get_or-reverse s i z h)
  ordered_at false s i z h = refl

  -- The element at its place is the one that comes i-th, of a run and of the first n of a run.
  pub placed : (back : Bool) (s : List A) {v : A} {i p : ℕ} → v ≡ get_or s p v → p ≡ cond back (length s - 1 - i) i → i < length s
      → v ≡ get_or (ordered back s) i v
  placed back s {v} {i} e q h = e ∙ ap (λ k. get_or s k v) q ∙ ordered_at back s i v h

  pub placed_front : (back : Bool) (s : List A) (n : ℕ) → n ≤ length s → {v : A} {i p : ℕ} → v ≡ get_or s p v → p ≡ cond back (n - 1 - i) i → i < n
      → v ≡ get_or (ordered back (take n s)) i v
  placed_front back s n room {v} {i} {p} e q h =
      let long : length (take n s) ≡ n = length-take-le n s room in
      let below : p < n = rw q (place-lt back n i h) in
      placed back (take n s) (e ∙ sym (get_or-take n s p v below)) (q ∙ ap (λ m. cond back (m - 1 - i) i) (sym long)) (omega arith)

-- The first i of s over those of d₀.
module _ {A : Type 0} (s d d₀ : List A) (i : ℕ) (h : i ≤ length s) (e : d ≡ take i s ++ drop i d₀) where
  long : length (take i s) ≡ i
  long = length-take-le i s h

  rest : drop i d ≡ drop i d₀
  rest = ap (drop i) e ∙ drop_at (take i s) (drop i d₀) i long

  rest-after : (m : ℕ) → drop (i + m) d ≡ drop (i + m) d₀
  rest-after m = sym (drop-drop m i d) ∙ ap (drop m) rest ∙ drop-drop m i d₀

  -- m elements from j on, where those before j are written.
  pub front-over : (j m : ℕ) (last : List A) → j ≤ i → i ≤ j + m → last ≡ paste d j (drop j s) m → last ≡ take (j + m) s ++ drop (j + m) d₀
  front-over j m last l k q =
      let front : take j d ≡ take j s =
      ap (take j) e ∙ take-append-le j (take i s) (drop i d₀) (omega (arith, long)) ∙ take-take j i s l in
      let after : drop (j + m) d ≡ drop (j + m) d₀ = let t : i + (j + m - i) ≡ j + m = omega arith in rw t at (rest-after (j + m - i)) in
      q ∙ ap₂ (λ x y. x ++ take m (drop j s) ++ y) front after ∙ ap (λ x. x ++ drop (j + m) d₀) (sym (take-add j m s))

  -- m elements more.
  pub front-more : (m : ℕ) (last : List A) → last ≡ paste d i (drop i s) m → last ≡ take (i + m) s ++ drop (i + m) d₀
  front-more m last q = front-over i m last (omega arith) (omega arith) q

module _ {A : Type 0} (s d : List A) (i : ℕ) where
  -- The m elements of s from i on, stored one after another over those of d.
  abbrev stored : A → ℕ → List A
  stored z zero = d
  stored z (suc m) = set (stored z m) (i + m) (get_or s (i + m) z)

  stored_is : (z : A) (m : ℕ) → i + m ≤ length s → i + m ≤ length d → stored z m ≡ paste d i (drop i s) m
  stored_is z zero h k = paste-zero d i (drop i s)
  stored_is z (suc m) h k =
      ap₂ (λ r v. set r (i + m) v) (stored_is z m (omega arith) (omega arith)) (sym (get_or-drop i s m z))
      ∙ paste-suc d i (drop i s) m z (omega arith) (rw length-drop (omega arith))

  -- Four elements that were read first; the code stores the first at i and not at i + 0.
  pub stored-4 : {a₀ a₁ a₂ a₃ : A} → i + 4 ≤ length s → i + 4 ≤ length d
      → a₀ ≡ get_or s i a₀ → a₁ ≡ get_or s (i + 1) a₁ → a₂ ≡ get_or s (i + 2) a₂ → a₃ ≡ get_or s (i + 3) a₃
      → set (set (set (set d i a₀) (i + 1) a₁) (i + 2) a₂) (i + 3) a₃ ≡ paste d i (drop i s) 4
  stored-4 {a₀} {a₁} {a₂} {a₃} h k e₀ e₁ e₂ e₃ =
      four e₀ (e₁ ∙ get_or_default s (i + 1) a₁ a₀ (omega arith)) (e₂ ∙ get_or_default s (i + 2) a₂ a₀ (omega arith))
      (e₃ ∙ get_or_default s (i + 3) a₃ a₀ (omega arith))
    where
      four : {b₀ b₁ b₂ b₃ : A} → b₀ ≡ get_or s i a₀ → b₁ ≡ get_or s (i + 1) a₀ → b₂ ≡ get_or s (i + 2) a₀ → b₃ ≡ get_or s (i + 3) a₀
          → set (set (set (set d i b₀) (i + 1) b₁) (i + 2) b₂) (i + 3) b₃ ≡ paste d i (drop i s) 4
      four f₀ f₁ f₂ f₃ = rw (f₀, f₁, f₂, f₃) (rw add-zero at (stored_is a₀ 4 h k))
