-- The lines along an axis, from the whole operand.
use mathlib.Core.Path.{◌≡◌, refl, sym, ap, ap₂, ◌∙◌}
use mathlib.Core.List.{List, ◌++◌}
use mathlib.Core.Bool.{Bool, true, false, cond}
use Prim.Native.Nat.{ℕ, ◌*◌, ◌-◌, ◌/◌, ◌%◌, ◌≤◌, ◌<◌}
use native.Mathlib.Nat.{sub-zero, mul-le-mul}
use native.Mathlib.Omega.{arith}
use borrow.Author.Tests.{eqb-true}
use lib.ListN.{length, get_or, take, drop, set, replicate}
use lib.Dec.{eqb}
use lib.Seq.{set-get_or, length-take-le}
use lib.IntN.{ℤ, pos}
use Rattle.shape.specs.declared.Shape.{Shape}
use Rattle.shape.specs.declared.Around.{Around}
use Rattle.shape.specs.Shape.{max_rank, counted, count, around_of}
use Rattle.shape.proofs.Axis.{in-at}
use Rattle.shape.proofs.Surround.{Parts, parts}
use Rattle.meaning.specs.Array.{Array, array_of, at, build}
use Rattle.meaning.specs.Terms.{along}
use Rattle.meaning.proofs.Arrays.{none_made, build-ext, build-at}
use Rattle.copying.specs.Runs.{copied}
use Rattle.copying.specs.Steps.{filled, source}
use Rattle.copying.specs.Gather.{blocks_of}
use Rattle.copying.proofs.Runs.{copied-fits}
use Rattle.copying.proofs.Gathering.{Small, small_by}
use Rattle.answer.specs.Answer.{lent}
use Rattle.answer.proofs.Lent.{Lent, lent-good}
use Rattle.answer.proofs.Moved.{along-where}
use Rattle.masks.specs.Steps.Actions.{mask_of, suits, width, one_at, takes_at, taken, mask_element, Masked}
use Rattle.masks.specs.Steps.Rows.{placed_in, InBlocks}
use Rattle.masks.proofs.Ones.{kept-all, kept-no}
use Rattle.masks.proofs.Actions.{taken-lt, taken-same}

-- A mask of one element keeps all or nothing; any other has an element for each position.
mask-whole : (a : Bool) (l : List ℤ) (n m : ℕ) → m ≡ width a (mask_of a l n) → 0 < m → (m ≡ n → ⊥) → mask_of a l n ≡ l
unfolding mask_of width
mask-whole true l n m w some other = refl
mask-whole false l n m w some other = by (eqb (length l) 1) refl
  where
    single : length l ≡ 1 → (b : Bool) → one_at l 0 ≡ b → ⊥
    single h true e = other (w ∙ sym (kept-all l n h e))
    single h false e = omega (arith, kept-no l n h e)

    by : (b : Bool) → eqb (length l) 1 ≡ b → cond b (replicate n (get_or l 0 (pos 0))) l ≡ l
    by true e = absurd (single (eqb-true (length l) 1 e) _ refl)
    by false e = refl

module _ {a : Bool} {l : List ℤ} {s : Shape} {axis m total : ℕ} {r : List ℤ} {room : ℕ} (k : Masked a false l s axis m total r room) where
  abbrev n : ℕ
  n = get_or (counted s) axis 0

  abbrev mask : List ℤ
  mask = mask_of a l (get_or (counted s) axis 0)

  -- The elements that the result has.
  abbrev pub lined : List ℤ
  lined = (build (set (counted s) axis m) (mask_element a false l (array_of (lent s r)) axis)).elements

  pub lined-none : total ≡ 0 → (out : List ℤ) → out ≡ lined ++ drop total out
  lined-none z out = none_made (set (counted s) axis m) _ total out (k.whole ∙ z) z

  module _ (long : length s.lens ≡ max_rank) (some : 0 < total) (v : Around) (w : v ≡ around_of s axis) where
    good : Lent s r
    good = lent-good s r long k.form

    around : Parts s axis m total
    around = parts s axis m total good.high long k.has k.whole some k.small

    length-is : v.length ≡ n
    length-is = ap (λ (x : Around). x.length) w ∙ around.length-is

    -- Where there are as many positions as before, each stays: the result is the operand, one run.
    module _ (same : m ≡ v.length) where
      lengths-same : set (counted s) axis m ≡ counted s
      lengths-same = ap (set (counted s) axis) (same ∙ length-is) ∙ set-get_or (counted s) axis 0

      total-same : total ≡ count (counted s)
      total-same = sym k.whole ∙ ap count lengths-same

      pub lined-inside : total ≤ length r
      lined-inside = omega (arith, total-same, good.room)

      stay : (p : List ℕ) → get_or p axis 0 < n → mask_element a false l (array_of (lent s r)) axis p ≡ at (array_of (lent s r)) p
      unfolding along
      stay p i =
          let here = taken-same a mask n (get_or p axis 0) (k.fitting refl) (sym (same ∙ length-is) ∙ k.wide) i in
          ap₂ (λ b x. cond b (at (array_of (lent s r)) (set p axis x)) (pos 0)) here.0 here.1 ∙ ap (at (array_of (lent s r))) (set-get_or p axis 0)

      same-elements : lined ≡ take total r
      same-elements =
          ap (λ x. (build x (mask_element a false l (array_of (lent s r)) axis)).elements) lengths-same
          ∙ ap (λ (x : Array). x.elements)
          (build-ext (counted s) _ (at (array_of (lent s r))) (λ p q. stay p (in-at (counted s) p axis q (omega (arith, good.rank_is, k.has))))
          ∙ build-at (array_of (lent s r)) good.whole)
          ∙ ap (λ x. take x r) (sym total-same)

      pub lined-same : (out last : List ℤ) → length out ≡ room → last ≡ copied (take (total - 0) r) out → last ≡ lined ++ drop total out
      lined-same out last q c =
          let run : length (take total r) ≡ total = length-take-le total r lined-inside in
          c
          ∙ ap (λ x. copied (take x r) out) (sub-zero total)
          ∙ copied-fits (take total r) out (omega (arith, k.space))
          ∙ ap₂ (λ x y. x ++ drop y out) (sym same-elements) run

    -- Where there are others, by blocks.
    module _ (other : m ≡ v.length → ⊥) where
      mask_is : mask ≡ l
      mask_is = mask-whole a l n m k.wide around.some (λ e. other (e ∙ sym length-is))

      -- No count is above the limit.
      lined-small : Small (blocks_of v m)
      lined-small =
          let b : Around = around_of s axis in
          let lines = mul-le-mul (let h : 1 ≤ b.outer = omega (arith, around.outer-some) in h) (let h : b.length ≤ b.length = omega arith in h) in
          let all : b.length ≤ b.outer * b.length = omega (arith, lines) in
          let rows = mul-le-mul all (let h : 1 ≤ b.inner = omega (arith, around.inner-some) in h) in
          rw w (record {
            outer = omega (arith, around.outer-small, k.small);
            taken = omega (arith, rows, around.source, good.count_small);
            made = omega (arith, around.small, k.small);
            inner = omega (arith, around.inner-small, k.small);
          })

      pub lined-blocks : InBlocks a l (blocks_of v m) (length r) room
      lined-blocks = record {
        fitting = ap₂ (suits a) (sym mask_is) length-is ∙ k.fitting refl;
        wide = k.wide ∙ ap (width a) mask_is;
        some = rw w around.outer-some;
        row = rw w around.inner-some;
        lie = record {
          small = small_by lined-small;
          source = rw w (omega (arith, good.room, around.source));
          room = rw w (omega (arith, k.space, around.whole));
        };
      }

      low : (i : ℕ) → i < m → takes_at a mask i ≡ true → taken a mask n i < (around_of s axis).length
      low i h t = rw around.length-is (taken-lt a mask n i (k.fitting refl) (omega (arith, k.wide)) t)

      pub lined-all : (out : List ℤ) → placed_in a l (blocks_of v m) r out ≡ lined ++ drop total out
      lined-all out =
          let b : Around = around_of s axis in
          let here : ℕ → ℕ → ℤ =
          λ x j. cond (takes_at a mask (j / b.inner % m)) (get_or r (source m b.length b.inner (taken a mask x) j) (pos 0)) (pos 0) in
          let size : b.outer * (m * b.inner) ≡ total = omega (arith, around.whole) in
          ap₂ (λ (x : Around) y. placed_in a y (blocks_of x m) r out) w (sym mask_is)
          ∙ ap₂ (λ x y. filled (here x) y out) around.length-is size
          ∙ ap (λ x. x ++ drop total out) (sym (along-where s r axis m total (takes_at a mask) (taken a mask n) good k.has around low))
