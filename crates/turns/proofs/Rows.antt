-- The rows of a block, turned.
use mathlib.Core.Path.{◌≡◌, refl, sym, ap, ap₂, ◌∙◌}
use mathlib.Core.List.{List}
use mathlib.Core.Bool.{cond}
use Prim.Native.Nat.{ℕ, zero, suc, ◌+◌, ◌*◌, ◌-◌, ◌/◌, ◌%◌, ◌≤◌, ◌<◌}
use native.Mathlib.Nat.{mul-le-mul_right, mul-one, div-one, mod-one, mod-lt, div-add-mod'}
use native.Mathlib.Omega.{arith}
use lib.Arith.{digits_div, digits_mod, mod-mul}
use lib.ListN.{length, get_or, length-reverse}
use lib.Dec.{eqb}
use lib.IntN.{ℤ, pos, ◌+ℤ◌}
use mathlib.Core.List.{reverse}
use Rattle.meaning.specs.Array.{tab}
use Rattle.copying.specs.Runs.{reversed}
use Rattle.copying.proofs.Runs.{reversed-whole, tab-is}
use Rattle.meaning.specs.Terms.{modulo}
use Rattle.meaning.proofs.Modulo.{modulo-lt, modulo-turn, modulo-is}
use Rattle.shape.proofs.Places.{row_in}
use Rattle.turns.specs.declared.Turn.{Turn}
use Rattle.turns.specs.declared.Turn.TheVariants.{Back, By}
use Rattle.turns.specs.Steps.{turn_position, back_at}
use Rattle.std.proofs.lemmas.List.{get_or-reverse}

-- One row less.
pub row_before : (i c : ℕ) → 0 < i → i * c ≡ (i - 1) * c + c
row_before zero c h = absurd (omega arith)
row_before (suc i) c h = let e : suc i - 1 ≡ i = omega arith in rw e (omega arith)

-- Row n - i of a reversed block is row i - 1.
pub reversed-row : (n c i to x : ℕ) → 0 < i → i ≤ n → to + i * c ≡ n * c → x < c → (n - 1 - (to + x) / c) * c + (to + x) % c ≡ (i - 1) * c + x
reversed-row n c i to x h l e b =
    let split : n * c ≡ (n - i) * c + i * c = let q : n ≡ (n - i) + i = omega arith in ap (λ k. k * c) q ∙ omega arith in
    let t : to ≡ (n - i) * c = omega arith in
    let q : n - 1 - (n - i) ≡ i - 1 = omega arith in
    rw (t, digits_div (n - i) b, digits_mod (n - i) b, q)

-- A block whose rows have one element is a line.
pub line-reversed : (r out : List ℤ) (n c : ℕ) → c ≡ 1 → length r ≡ n * c → length out ≡ n * c
    → reversed r out ≡ tab (n * c) (back_at r n c)
line-reversed r out n c one a b =
    let e : n * c ≡ n = ap (λ k. n * k) one ∙ mul-one n in
    reversed-whole r out (a ∙ sym b)
    ∙ tab-is (reverse r) (pos 0) (n * c) _ (length-reverse r ∙ a)
    (λ i l.
    let q : (n - 1 - i / c) * c + i % c ≡ length r - 1 - i =
    ap (λ k. (n - 1 - i / k) * k + i % k) one ∙ (rw (div-one i, mod-one i, mul-one) (omega arith)) in
    ap (λ k. get_or r k (pos 0)) q ∙ sym (get_or-reverse r i (pos 0) (omega arith)))

-- A turn stays among the positions.
pub turn-lt : (turn : Turn) (n i : ℕ) → i < n → turn_position turn n i < n
unfolding turn_position
turn-lt Back n i h = omega arith
turn-lt (By z) n i h = modulo-lt (pos i +ℤ z) n (omega arith)

-- A block reversed.
pub block_back : (r : List ℤ) (n c : ℕ) → tab (n * c) (back_at r n c) ≡ tab (n * c) (λ j. get_or r (turn_position Back n (j / c) * c + j % c) (pos 0))
unfolding turn_position
block_back r n c = refl

-- An amount as rows, `rows` as the code finds them: they are fewer than n, and a block cut there is turned by the amount.
module _ (z : ℤ) (n rows : ℕ) (some : 0 < n) (e : rows ≡ cond (eqb n 0) 0 (modulo z n)) where
  pub rows-lt : rows < n
  rows-lt = rw (e ∙ modulo-is z n some) (modulo-lt z n some)

  rows-turn : (i : ℕ) → (i + rows) % n ≡ turn_position (By z) n i
  unfolding turn_position
  rows-turn i = ap (λ k. (i + k) % n) (e ∙ modulo-is z n some) ∙ sym (modulo-turn i z n some)

  pub cut-le : (c : ℕ) → rows * c ≤ n * c
  cut-le c = let l = rows-lt in mul-le-mul_right c (omega arith)

  pub row_cut : (c j : ℕ) → j < n * c → (j + rows * c) % (n * c) ≡ turn_position (By z) n (j / c) * c + j % c
  row_cut c j h =
      let p = row_in n c j h in
      let s : j + rows * c ≡ (j / c + rows) * c + j % c = omega (arith, div-add-mod' j c) in
      let q : (j + rows * c) / c ≡ j / c + rows = ap (λ k. k / c) s ∙ digits_div (j / c + rows) (mod-lt j p.0) in
      let m : (j + rows * c) % c ≡ j % c = ap (λ k. k % c) s ∙ digits_mod (j / c + rows) (mod-lt j p.0) in
      mod-mul (j + rows * c) some p.0 ∙ ap₂ (λ x y. x % n * c + y) q m ∙ ap (λ x. x * c + j % c) (rows-turn (j / c))
