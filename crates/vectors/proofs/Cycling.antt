-- Elements that are repeated, run after run.
use mathlib.Core.Path.{◌≡◌, refl, sym, ap, ap₂, ◌∙◌}
use mathlib.Core.List.{List, [], ◌∷◌, ◌++◌, append_assoc}
use Prim.Native.Nat.{ℕ, ◌+◌, ◌-◌, ◌%◌, ◌≤◌, ◌<◌, min}
use native.Mathlib.Nat.{mod-add-mod, mod-eq_of_lt, mod-one, zero-add, zero-mod, add-mod_right}
use native.Mathlib.Omega.{arith}
use lib.ListN.{length, take, drop, get_or, replicate, length-drop}
use Rattle.std.proofs.Common.{drop-drop}
use lib.Seq.{get_or-take, length-take-le, take_at, drop_at}
use lib.IntN.{ℤ, pos}
use Rattle.meaning.specs.Array.{tab}
use Rattle.meaning.proofs.Tab.{tab-same, tab-add, length-tab, get_or-tab}
use Rattle.copying.specs.Runs.{copied}
use Rattle.copying.proofs.Runs.{filled-whole, tab-is}
use Rattle.copying.specs.Steps.{filled}
use Rattle.vectors.specs.Steps.{cycled}

-- At the end of a whole run the elements start again.
cycled-at : (src : List ℤ) (i j : ℕ) → i % length src ≡ 0 → j < length src → cycled src (i + j) ≡ get_or src j (pos 0)
unfolding cycled
cycled-at src i j w l = ap (λ k. get_or src k (pos 0)) (sym (mod-add-mod i (length src) j) ∙ rw (w, zero-add) (mod-eq_of_lt l))

cycled-on : (src : List ℤ) (i j : ℕ) → i % length src ≡ 0 → cycled src (i + j) ≡ cycled src j
unfolding cycled
cycled-on src i j w = ap (λ k. get_or src k (pos 0)) (sym (mod-add-mod i (length src) j) ∙ rw (w, zero-add) refl)

-- Two times as many whole runs.
cycled-twice : (src : List ℤ) (i : ℕ) → i % length src ≡ 0 → (i + i) % length src ≡ 0
cycled-twice src i w = sym (mod-add-mod i (length src) i) ∙ rw (w, zero-add) w

-- One element, or none.
cycled-few : (src : List ℤ) → length src ≤ 1 → (j : ℕ) → cycled src j ≡ get_or src 0 (pos 0)
unfolding cycled
cycled-few [] h j = refl
cycled-few (x ∷ []) h j = ap (λ k. get_or (x ∷ []) k (pos 0)) (mod-one j)
cycled-few (x ∷ (y ∷ l)) h j = absurd (omega arith)

-- The first i of n elements are written, and they are whole runs, or all.
pub record Runs (src out₀ : List ℤ) (n : ℕ) (out : List ℤ) (i : ℕ) : Type 0 where
  pub some : i ≤ n
  pub begun : i < n → 0 < i
  pub whole : i < n → i % length src ≡ 0
  pub fill : out ≡ filled (cycled src) i out₀

-- The first run, or as much of it as there is room for.
pub runs-first : (src out : List ℤ) (i : ℕ) → 0 < length src → i ≡ min (length src) (length out) → Runs src out (length out) (copied src out) i
unfolding copied
runs-first src out i p e = record {
  some = omega arith;
  begun = λ h. omega arith;
  whole = λ h.
      let all : i ≡ length src = omega arith in
      rw all (ap (λ k. k % length src) (sym (zero-add (length src))) ∙ add-mod_right 0 (length src) ∙ zero-mod (length src));
  fill =
      ap (λ k. take k src ++ drop k out) (sym e)
      ∙ ap (λ ys. ys ++ drop i out)
      (tab-is (take i src) (pos 0) i (cycled src) (length-take-le i src (omega arith))
      (λ j l.
      ap (cycled src) (sym (zero-add j)) ∙ cycled-at src 0 j (zero-mod (length src)) (omega arith) ∙ sym (get_or-take i src j (pos 0) l)));
}

-- As much again, or what is left.
pub runs-next : {src out₀ out front back : List ℤ} {n i k : ℕ} → Runs src out₀ n out i → n ≡ length out₀ → i < n → k ≡ min i (n - i)
    → front ≡ take i out → back ≡ drop i out → Runs src out₀ n (front ++ copied front back) (i + k)
unfolding copied
runs-next {src} {out₀} {out} {front} {back} {n} {i} {k} r room h e f b =
    let g = cycled src in
    let long : length (tab i g) ≡ i = length-tab i g in
    let fr : front ≡ tab i g = f ∙ ap (take i) r.fill ∙ take_at (tab i g) (drop i out₀) i long in
    let ba : back ≡ drop i out₀ = b ∙ ap (drop i) r.fill ∙ drop_at (tab i g) (drop i out₀) i long in
    let rest : length back ≡ n - i = ap length ba ∙ length-drop i out₀ ∙ ap (λ m. m - i) (sym room) in
    let both : min (length front) (length back) ≡ k = ap₂ min (ap length fr ∙ long) rest ∙ sym e in
    let again : take k front ≡ tab k (λ j. g (i + j)) =
    ap (take k) fr
    ∙ tab-is (take k (tab i g)) (pos 0) k (λ j. g (i + j)) (length-take-le k (tab i g) (omega (arith, long)))
    (λ j l.
    cycled-on src i j (r.whole h) ∙ sym (get_or-take k (tab i g) j (pos 0) l ∙ get_or-tab i g j (pos 0) (omega arith))) in
    record {
      some = omega arith;
      begun = λ l. omega (arith, r.begun h);
      whole = λ l. let same : k ≡ i = omega arith in rw same (cycled-twice src i (r.whole h));
      fill =
          ap₂ (λ x m. x ++ (take m front ++ drop m back)) fr both
          ∙ ap₂ (λ y z. tab i g ++ (y ++ z)) again (ap (drop k) ba ∙ drop-drop k i out₀)
          ∙ sym (append_assoc (tab i g) (tab k (λ j. g (i + j))) (drop (i + k) out₀))
          ∙ ap (λ x. x ++ drop (i + k) out₀) (sym (tab-add i k g));
    }

-- Then all of them are written.
pub runs-all : {src out₀ out : List ℤ} {n i : ℕ} → Runs src out₀ n out i → n ≡ length out₀ → n ≤ i → out ≡ tab n (cycled src)
runs-all {src} {out₀} {out} {n} {i} r room h =
    let all : i ≡ n = omega (arith, r.some) in r.fill ∙ filled-whole (cycled src) i out₀ (omega arith) ∙ ap (λ k. tab k (cycled src)) all

-- The same element everywhere.
pub few-put : (src last : List ℤ) (n : ℕ) (x : ℤ) → length src ≤ 1 → x ≡ get_or src 0 (pos 0) → last ≡ replicate n x → last ≡ tab n (cycled src)
few-put src last n x h e q = q ∙ tab-same n x (cycled src) (λ i l. cycled-few src h i ∙ sym e)
