-- The bridge: lengths ns with v + w positions on axis k, the first v of which take their elements from f and the others from g, both row by row.
use mathlib.Core.Path.{◌≡◌, sym, ap, ◌∙◌}
use mathlib.Core.List.{List}
use mathlib.Core.Bool.{cond}
use Prim.Native.Nat.{ℕ, suc, ◌+◌, ◌-◌, ◌*◌, ◌/◌, ◌%◌, ◌<◌}
use native.Mathlib.Nat.{mod-lt, div-add-mod'}
use native.Mathlib.Decide.{dec_lt}
use native.Mathlib.Omega.{arith}
use borrow.Author.Tests.{lt-ltb, le-ltb}
use lib.Arith.{digits_div, digits_mod, digits_lt}
use lib.Dec.{ltb}
use lib.ListN.{length, get_or, set, take, drop, length-set}
use lib.Seq.{set-set, set-get_or, get_or-set_same, drop-set-lt}
use lib.IntN.{ℤ}
use Rattle.shape.specs.Shape.{count}
use Rattle.shape.specs.Place.{index, place}
use Rattle.shape.proofs.Places.{In, place_in, row_in}
use Rattle.shape.proofs.Axis.{in-set, axis-position, axis-position-lt, axis-index}
use Rattle.shape.proofs.Surround.{count_set}
use Rattle.meaning.specs.Array.{tab, build}
use Rattle.meaning.proofs.Tab.{tab-ext}
use Rattle.joins.specs.Steps.{joined_at}

-- Elements at places that are those of a flat list, row by row.
abbrev pub RowByRow : List ℕ → (ℕ → ℤ) → (List ℕ → ℤ) → Type 0
RowByRow ns f e = (p : List ℕ) → In ns p → e p ≡ f (index ns p)

module _ (ns : List ℕ) (k v w : ℕ) (l : k < length ns) (f g : ℕ → ℤ) {ef eg : List ℕ → ℤ}
    (hf : RowByRow (set ns k v) f ef) (hg : RowByRow (set ns k w) g eg) where
  abbrev c : ℕ
  c = count (drop (suc k) ns)

  abbrev element : List ℕ → ℤ
  element p = cond (ltb (get_or p k 0) v) (ef p) (eg (set p k (get_or p k 0 - v)))

  module _ (j : ℕ) (h : j < count (set ns k (v + w))) where
    abbrev m : ℕ
    m = v + w

    abbrev p : List ℕ
    p = place (set ns k (v + w)) j

    inside : In (set ns k (v + w)) p
    inside = place_in (set ns k (v + w)) j h

    -- The place with position x on axis k, in lengths with n there.
    moved : (n x : ℕ) → x < n → In (set ns k n) (set p k x)
    moved n x b = rw (set-set ns k m n) at (in-set (set ns k m) p k n x inside b)

    moved-index : (n x : ℕ) → x < n → index (set ns k n) (set p k x) ≡ (j / c / m * n + x) * c + j % c
    moved-index n x b =
        rw (set-set ns k n m, get_or-set_same ns k n 0 l, drop-set-lt (suc k) ns k n (omega arith))
        at (axis-index (set ns k n) k m j (rw length-set l) (rw (set-set ns k n m) h) x (rw (get_or-set_same ns k n 0 l) b))

    position : get_or p k 0 ≡ j / c % m
    position = axis-position ns k m j l h

    below : get_or p k 0 < m
    below = axis-position-lt ns k m j l h

    some : 0 < c
    some = (row_in (count (take k ns) * m) c j (rw (count_set ns k m l) at h)).0

    -- j in blocks.
    block : (j / (v * c + w * c) ≡ j / c / m) × (j % (v * c + w * c) ≡ get_or p k 0 * c + j % c)
    block =
        let i : ℕ = get_or p k 0 in
        let d : j / c / m * m + j / c % m ≡ j / c = div-add-mod' (j / c) m in
        let q : j / c * c + j % c ≡ j = div-add-mod' j c in
        let row : j / c ≡ j / c / m * m + i = sym d ∙ ap (λ x. j / c / m * m + x) (sym position) in
        let split : j ≡ j / c / m * (v * c + w * c) + (i * c + j % c) = sym q ∙ ap (λ x. x * c + j % c) row ∙ omega arith in
        let z : v * c + w * c ≡ m * c = omega arith in
        let small : i * c + j % c < v * c + w * c = rw z (digits_lt below (mod-lt j some)) in
        (ap (λ x. x / (v * c + w * c)) split ∙ digits_div (j / c / m) small, ap (λ x. x % (v * c + w * c)) split ∙ digits_mod (j / c / m) small)

    at_left : get_or p k 0 < v → element p ≡ joined_at (v * c) (w * c) f g j
    at_left b =
        let i : ℕ = get_or p k 0 in
        let t : i * c + j % c < v * c = digits_lt b (mod-lt j some) in
        rw (lt-ltb i v b, block.0, block.1, lt-ltb (i * c + j % c) (v * c) t)
        (ap ef (sym (set-get_or p k 0))
        ∙ hf (set p k i) (moved v i b)
        ∙ ap f (moved-index v i b ∙ (let z : (j / c / m * v + i) * c + j % c ≡ j / c / m * (v * c) + (i * c + j % c) = omega arith in z)))

    at_right : (x : ℕ) → get_or p k 0 ≡ v + x → element p ≡ joined_at (v * c) (w * c) f g j
    at_right x e =
        let i : ℕ = get_or p k 0 in
        let y : i - v ≡ x = omega arith in
        let b : x < w = omega (arith, below) in
        let s : i * c ≡ v * c + x * c = ap (λ z. z * c) e ∙ omega arith in
        rw (le-ltb i v (omega arith), block.0, block.1, le-ltb (i * c + j % c) (v * c) (omega arith))
        (ap (λ z. eg (set p k z)) y
        ∙ hg (set p k x) (moved w x b)
        ∙ ap g (moved-index w x b ∙ (let z : (j / c / m * w + x) * c + j % c ≡ j / c / m * (w * c) + (i * c + j % c - v * c) = omega arith in z)))

    at-either : element p ≡ joined_at (v * c) (w * c) f g j
    at-either = elim (dec_lt (get_or p k 0) v) [ yes b ↦ at_left b | no b ↦ at_right (get_or p k 0 - v) (omega arith) ]

  pub joined-flat : (build (set ns k (v + w)) element).elements ≡ tab (count (set ns k (v + w))) (joined_at (v * c) (w * c) f g)
  unfolding build
  joined-flat = tab-ext (count (set ns k (v + w))) _ _ (λ j h. at-either j h)
