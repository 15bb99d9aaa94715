-- A buffer that is filled part by part, each part by a function that fills it.
use mathlib.Core.Path.{◌≡◌, refl, sym, ap, ap₂, ◌∙◌}
use mathlib.Core.List.{List, ◌++◌, append_assoc}
use Prim.Native.Nat.{ℕ, ◌+◌, ◌-◌, ◌≤◌, ◌<◌}
use native.Mathlib.Omega.{arith}
use lib.ListN.{length, get_or, take, drop, take-append-drop, length-drop, get_or-append}
use lib.Seq.{get_or-take, get_or-drop, length-take-le, drop-drop}
use lib.IntN.{ℤ, pos}
use borrow.Rule.Slice.PartMut.{put_mid, mid_len}
use Rattle.meaning.specs.Array.{tab}
use Rattle.meaning.proofs.Tab.{length-tab, get_or-tab, tab-add}
use Rattle.copying.proofs.Runs.{length-filled, tab-is, put-list}
use Rattle.copying.specs.Steps.{filled}

-- A part has as many elements as it is long.
pub part-long : {A : Type 0} (xs : List A) (at w : ℕ) → at + w ≤ length xs → length (take (at + w - at) (drop at xs)) ≡ w
part-long xs at w h = mid_len at (at + w) xs h ∙ omega arith

-- So in a buffer that keeps its length.
pub part_room : {A : Type 0} (xs : List A) (at w n : ℕ) → length xs ≡ n → at + w ≤ n → length (take (at + w - at) (drop at xs)) ≡ w
part_room xs at w n e h = part-long xs at w (omega arith)

-- A part that was filled by h stands in a buffer that is filled by g.
pub part_filled : (g h : ℕ → ℤ) (n m e : ℕ) (out out₀ last part : List ℤ) → out ≡ filled g n out₀ → e ≡ n + m
    → length part ≡ m → last ≡ filled h m part → ((i : ℕ) → i < m → g (n + i) ≡ h i)
    → put_mid n (e - n) out last ≡ filled g (n + m) out₀
part_filled g h n m e out out₀ last part o end long q same =
    put-list g (pos 0) n m e out out₀ last o end (ap length q ∙ length-filled h m part (omega arith) ∙ long)
    (λ i l.
    same i l
    ∙ sym (ap (λ ys. get_or ys i (pos 0)) q
    ∙ get_or-append (tab m h) (drop m part) (pos 0) i (omega (arith, length-tab m h))
    ∙ get_or-tab m h i (pos 0) l))

-- A buffer that is filled up to n, and already holds the next k elements.
pub filled_on : (g : ℕ → ℤ) (n k : ℕ) (out : List ℤ) → n + k ≤ length out → ((i : ℕ) → i < k → g (n + i) ≡ get_or out (n + i) (pos 0))
    → filled g n out ≡ filled g (n + k) out
filled_on g n k out h same =
    let rest : List ℤ = drop n out in
    ap (λ x. tab n g ++ x) (sym (take-append-drop k rest))
    ∙ sym (append_assoc (tab n g) (take k rest) (drop k rest))
    ∙ ap₂ (λ x y. (tab n g ++ x) ++ y)
    (tab-is (take k rest) (pos 0) k (λ i. g (n + i)) (length-take-le k rest (rw length-drop (omega arith)))
    (λ i l. same i l ∙ sym (get_or-take k rest i (pos 0) l ∙ get_or-drop n out i (pos 0))))
    (drop-drop k n out)
    ∙ ap (λ x. x ++ drop (n + k) out) (sym (tab-add n k g))

-- One block more, of which a part was written: a .. a + w of the block that begins at n. What is before it and after it stays.
pub put-between : (g : ℕ → ℤ) (n size a w : ℕ) {out : List ℤ} (out₀ last : List ℤ) → out ≡ filled g n out₀ → a + w ≤ size → n + size ≤ length out₀
    → ((y : ℕ) → y < a → g (n + y) ≡ get_or out₀ (n + y) (pos 0))
    → length last ≡ w → ((i : ℕ) → i < w → g (n + (a + i)) ≡ get_or last i (pos 0))
    → ((y : ℕ) → a + w ≤ y → y < size → g (n + y) ≡ get_or out₀ (n + y) (pos 0))
    → (to : ℕ) → to ≡ n + a → put_mid to (to + w - to) out last ≡ filled g (n + size) out₀
put-between g n size a w {out} out₀ last done fits room before long within after to e =
    let rest : ℕ = size - (a + w) in
    let front : out ≡ filled g to out₀ = done ∙ filled_on g n a out₀ (omega arith) before ∙ ap (λ x. filled g x out₀) (sym e) in
    let here : (i : ℕ) → to + i ≡ n + (a + i) = λ i. omega arith in
    let there : (i : ℕ) → to + w + i ≡ n + (a + w + i) = λ i. omega arith in
    let all : to + w + rest ≡ n + size = omega arith in
    put-list g (pos 0) to w (to + w) out out₀ last front refl long (λ i l. ap g (here i) ∙ within i l)
    ∙ filled_on g (to + w) rest out₀ (omega arith)
    (λ i l. ap g (there i) ∙ after (a + w + i) (omega arith) (omega arith) ∙ ap (λ x. get_or out₀ x (pos 0)) (sym (there i)))
    ∙ ap (λ x. filled g x out₀) all
