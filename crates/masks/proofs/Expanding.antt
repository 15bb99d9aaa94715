-- 28 where R is a scalar: it is put at each one.
use mathlib.Core.Path.{◌≡◌, refl, sym, ap, ap₂, ◌∙◌}
use mathlib.Core.List.{List, [], ◌∷◌, ◌++◌}
use mathlib.Core.Bool.{Bool, true, cond}
use Prim.Native.Nat.{ℕ, ◌/◌, ◌≤◌, ◌<◌}
use native.Mathlib.Nat.{mul-one, div-one}
use native.Mathlib.Omega.{arith}
use lib.ListN.{length, get_or, take, drop, set}
use lib.Seq.{get_or-take}
use lib.IntN.{ℤ, pos}
use Rattle.shape.specs.declared.Shape.{Shape}
use Rattle.shape.specs.Shape.{max_rank, counted, count}
use Rattle.shape.specs.Place.{place, index}
use Rattle.meaning.specs.Array.{array_of, at, tab, build}
use Rattle.meaning.specs.Terms.{along}
use Rattle.meaning.proofs.Tab.{tab-ext}
use Rattle.copying.specs.Steps.{filled}
use Rattle.answer.specs.Answer.{lent}
use Rattle.answer.proofs.Lent.{Lent, lent-good}
use Rattle.masks.specs.Steps.Actions.{mask_of, width, one_at, takes_at, mask_element, Masked}

-- x at each one of a mask, zeros elsewhere.
abbrev pub spread : List ℤ → ℤ → ℕ → ℤ
spread l x i = cond (one_at l i) x (pos 0)

one-elements : (l r : List ℤ) → (build (length l ∷ []) (mask_element true true l (record { lengths = 1 ∷ []; elements = take 1 r }) 0)).elements
    ≡ tab (length l) (spread l (get_or r 0 (pos 0)))
unfolding build count place index along at takes_at mask_of
one-elements l r =
    ap (λ n. tab n (λ j. spread l (get_or (take 1 r) 0 (pos 0)) (j / 1))) (mul-one (length l))
    ∙ tab-ext (length l) _ _ (λ j q. ap (spread l (get_or (take 1 r) 0 (pos 0))) (div-one j))
    ∙ ap (λ y. tab (length l) (spread l y)) (get_or-take 1 r 0 (pos 0) (omega arith))

module _ {a : Bool} {l : List ℤ} {s : Shape} {axis m total : ℕ} {r : List ℤ} {room : ℕ} (k : Masked a true l s axis m total r room)
    (long : length s.lens ≡ max_rank) where
  good : Lent s r
  good = lent-good s r long k.form

  alone : (a ≡ true) × (counted s ≡ 1 ∷ [])
  alone = k.alone refl

  one-axis : axis ≡ 0
  one-axis = omega (arith, ap length alone.1, good.rank_is, k.has)

  wide-all : m ≡ length l
  unfolding width mask_of
  wide-all = k.wide ∙ ap (λ (x : Bool). width x (mask_of x l (get_or (counted s) axis 0))) alone.0

  total-one : total ≡ length l
  unfolding count
  total-one = sym k.whole ∙ ap₂ (λ ns x. count (set ns x m)) alone.1 one-axis ∙ mul-one m ∙ wide-all

  pub scalar-first : 0 < length r
  unfolding count
  scalar-first = omega (arith, ap count alone.1, good.room)

  pub scalar-room : length l ≤ room
  scalar-room = omega (arith, total-one, k.space)

  opened-as : (build (set (counted s) axis m) (mask_element a true l (array_of (lent s r)) axis)).elements ≡ tab (length l) (spread l (get_or r 0 (pos 0)))
  unfolding count
  opened-as =
      ap₂ (λ (x : Bool) n. (build (set (counted s) axis n) (mask_element x true l (array_of (lent s r)) axis)).elements) alone.0 wide-all
      ∙ ap₂ (λ ns x. (build (set ns x (length l)) (mask_element true true l (record { lengths = ns; elements = take (count ns) r }) x)).elements)
      alone.1 one-axis
      ∙ one-elements l r

  pub scalar-out : (out last : List ℤ) (x : ℤ) → x ≡ get_or r 0 (pos 0) → last ≡ filled (spread l x) (length l) out
      → last ≡ (build (set (counted s) axis m) (mask_element a true l (array_of (lent s r)) axis)).elements ++ drop total out
  scalar-out out last x q w =
      w ∙ ap (λ y. filled (spread l y) (length l) out) q ∙ ap₂ (λ y z. y ++ drop z out) (sym opened-as) (sym total-one)
