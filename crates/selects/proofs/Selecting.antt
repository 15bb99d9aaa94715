-- A call that 31 itself does not refuse, by what its code finds.
use mathlib.Core.Path.{◌≡◌, refl, sym, ap, ap₂, ◌∙◌}
use mathlib.Core.List.{List, ◌++◌}
use mathlib.Core.Bool.{Bool, true, false, cond, ◌&&◌}
use Prim.Native.Nat.{ℕ, ◌*◌, ◌≤◌, ◌<◌}
use native.Mathlib.Omega.{arith}
use borrow.Author.Tests.{eqb-true}
use lib.ListN.{length, get_or, set, drop}
use lib.IntN.{ℤ, pos, ◌-ℤ◌}
use mir.Syntax.{w32}
use mir.Val.{SFits, to_z, of_z}
use Rattle.std.specs.Prelude.{Result, Ok}
use Rattle.shape.specs.declared.Shape.{Shape}
use Rattle.shape.specs.declared.Around.{Around}
use Rattle.shape.specs.Shape.{max_count, counted, count, around_of, shape_of, without}
use Rattle.shape.proofs.Bools.{both}
use Rattle.shape.proofs.Made.{made-stands}
use Rattle.shape.proofs.Surround.{Parts, parts}
use Rattle.signed.proofs.Finding.{read-from-zero}
use Rattle.signed.proofs.Reading.{read32}
use Rattle.meaning.specs.Array.{Operand, Array, array_of, good_form, at, build}
use Rattle.meaning.specs.Terms.{rank, axis, is_scalar, is_list, within, from_zero, every, put_in, along}
use Rattle.meaning.specs.Primitives.{select}
use Rattle.meaning.proofs.Arrays.{build-lengths, build-whole, form-whole}
use Rattle.meaning.proofs.Every.{every-at}
use Rattle.meaning.proofs.Positions.{within-lt, within-below}
use Rattle.meaning.proofs.Scalars.{scalar-count}
use Rattle.meaning.proofs.Without.{removed}
use Rattle.copying.specs.Steps.{filled}
use Rattle.answer.specs.Answer.{early, own}
use Rattle.answer.specs.Refused.{asked as asks}
use Rattle.answer.specs.declared.refusal.Refusal as code
use Rattle.answer.proofs.Early.{early-read}
use Rattle.answer.proofs.Exits.{asked_ok}
use Rattle.answer.proofs.Lent.{Lent, formed, early-fine}
use Rattle.answer.proofs.Order.{Ready}
use Rattle.answer.proofs.Moved.{along-lent}
use Rattle.selects.specs.Steps.{Named, chosen_by, position_at, Positions, Chosen, selected_lengths, Chooses, BlocksFit, blocks_at}
use Rattle.selects.proofs.Calls.{asked, select-names, select-own}

-- All that a call knows where 31 refuses nothing: k is the axis.
pub record Selects (G K : ℤ) (L R : Operand) (k : ℕ) : Type 0 where
  pub left : good_form L ≡ true
  pub right : Lent R.shape R.buffer
  pub has : k < R.shape.rank
  pub positions : Positions (chosen_by G L) (get_or (counted R.shape) k 0)
  pub axis-is : k ≡ from_zero G K
  pub fine : early (good_form L && good_form R) G ≡ 0
  pub none : own 31 (select G K (array_of L) (array_of R)).refusals ≡ 0

module _ (G K : ℤ) (L R : Operand) (f : early (good_form L && good_form R) G ≡ 0) (gr : Lent R.shape R.buffer) where
  abbrev inside : Bool
  inside = within (K -ℤ G) (rank (array_of R))

  abbrev all : Bool
  all = every (λ z. within (z -ℤ G) (axis (array_of R) (from_zero G K))) (array_of L).elements

  pub selects : {k : ℕ} → own 31 (select G K (array_of L) (array_of R)).refusals ≡ 0 → k ≡ from_zero G K → Selects G K L R k
  selects {k} n e = by (is_scalar (array_of R)) (is_list (array_of L)) _ refl _ refl (sym (select-own G K L R) ∙ n)
    where
      by : (s t i : Bool) → inside ≡ i → (a : Bool) → all ≡ a → asked s t i a ≡ 0 → Selects G K L R k
      by true t i u a v w = absurd (omega arith)
      by false false i u a v w = absurd (omega arith)
      by false true false u a v w = absurd (omega arith)
      by false true true u false v w = absurd (omega arith)
      by false true true u true v w = record {
        left = (both (good_form L) (good_form R) (early-fine G _ f).forms).0;
        right = gr;
        has = within-below (K -ℤ G) _ R.shape.rank k gr.rank_is e u;
        positions = record {
          inside = λ i h.
              ap (λ n. within (get_or (array_of L).elements i (pos 0) -ℤ G) (get_or (counted R.shape) n 0)) e ∙ every-at _ _ (pos 0) v i h;
        };
        axis-is = e;
        fine = f;
        none = n;
      }

-- The same by what `chosen_axis` answers of signed numbers read from locals, and by what `early_two` answered before of two operands that are L and R.
module _ {G K : ℤ} (g : SFits w32 G) (h : SFits w32 K) {A : Type 0} (y : Result A code.Refusal) (L R : Operand)
    (is : asks y ≡ own 31 (select (to_z w32 (of_z w32 G)) (to_z w32 (of_z w32 K)) (array_of L) (array_of R)).refusals) where
  pub chosen-asked : asks y ≡ own 31 (select G K (array_of L) (array_of R)).refusals
  chosen-asked = is ∙ ap₂ (λ y z. own 31 (select y z (array_of L) (array_of R)).refusals) (read32 G g) (read32 K h)

  pub chosen-found : {B : Type 0} (x : Result B code.Refusal) {l r : Operand} → asks x ≡ early (good_form l && good_form r) (to_z w32 (of_z w32 G))
      → {v : B} → x ≡ Ok v → (L ≡ l) × (R ≡ r) → {w : A} → y ≡ Ok w
      → {k : ℕ} → Chosen (to_z w32 (of_z w32 G)) (to_z w32 (of_z w32 K)) R k → Selects G K L R k
  chosen-found x e ok o was c =
      selects G K L R (ap₂ (λ l r. early (good_form l && good_form r) G) o.0 o.1 ∙ sym (early-read g x _ e) ∙ asked_ok ok) (formed c.right)
      (sym chosen-asked ∙ asked_ok was) (c.axis ∙ read-from-zero K G h g)

module _ {G K : ℤ} {o p : Operand} {k : ℕ} (c : Selects G K o p k) where
  abbrev L : Array
  L = array_of o

  abbrev R : Array
  R = array_of p

  abbrev φ : ℕ → ℕ
  φ = position_at (chosen_by G o)

  lengths-are : selected_lengths (rank L) (length L.elements) k (counted p.shape) ≡ (select G K L R).lengths
  unfolding select
  lengths-are = ap (λ k. selected_lengths (rank L) (length L.elements) k (counted p.shape)) c.axis-is

  -- Of the result's shape, nothing is refused but LIMIT and SPACE.
  module _ {s : Shape} (e : s ≡ shape_of (selected_lengths (rank L) (length L.elements) k (counted p.shape))) where
    pub selected-is : s ≡ shape_of (select G K L R).lengths
    selected-is = e ∙ ap shape_of lengths-are

    pub select-ready : Ready 31 2 G K o p (select G K L R) s
    select-ready = record { names = select-names G K o p; fine = c.fine; none = c.none; stands = made-stands _ _ selected-is }

  -- A scalar L is a vector of one that leaves no axis behind.
  moved : (build (select G K L R).lengths (select G K L R).element).elements ≡ (build (set (counted p.shape) k (length L.elements)) (along R k φ)).elements
  unfolding select
  moved =
      ap (λ k. (build (selected_lengths (rank L) (length L.elements) k (counted p.shape))
      (cond (is_scalar L) (λ q. at R (put_in k (φ 0) q)) (along R k φ))).elements)
      (sym c.axis-is)
      ∙ by (is_scalar L) refl
    where
      by : (b : Bool) → is_scalar L ≡ b
          → (build (cond b (without k (counted p.shape)) (set (counted p.shape) k (length L.elements)))
          (cond b (λ q. at R (put_in k (φ 0) q)) (along R k φ))).elements
          ≡ (build (set (counted p.shape) k (length L.elements)) (along R k φ)).elements
      by true q =
          let one : length L.elements ≡ 1 = form-whole o c.left ∙ scalar-count (counted o.shape) (eqb-true (rank L) 0 q) in
          removed R k φ (omega (arith, c.has, c.right.rank_is)) ∙ ap (λ n. (build (set (counted p.shape) k n) (along R k φ)).elements) (sym one)
      by false q = refl

  count-moved : count (select G K L R).lengths ≡ count (set (counted p.shape) k (length L.elements))
  count-moved =
      sym (whole (select G K L R).lengths (select G K L R).element) ∙ ap length moved ∙ whole (set (counted p.shape) k (length L.elements)) (along R k φ)
    where
      whole : (ns : List ℕ) (f : List ℕ → ℤ) → length (build ns f).elements ≡ count ns
      whole ns f = build-whole ns f ∙ ap count (build-lengths ns f)

  -- The chosen positions and the result's count as the program finds them.
  module _ {d : Named} (e : d ≡ chosen_by G o) {total : ℕ} (t : total ≡ count (select G K L R).lengths) where
    pub chooses : {room : ℕ} → total ≤ max_count → total ≤ room → Chooses d k total p room
    chooses small space = rw e (record {
      has = c.has;
      positions = c.positions;
      count-is = t ∙ count-moved;
      small = small;
      space = space;
    })

    pub select-out : (out : List ℤ)
        → (build (set (counted p.shape) k (length d.numbers)) (along R k (position_at d))).elements ++ drop total out
        ≡ (build (select G K L R).lengths (select G K L R).element).elements ++ drop (count (select G K L R).lengths) out
    select-out out =
        ap₂ (λ (d : Named) n. (build (set (counted p.shape) k (length d.numbers)) (along R k (position_at d))).elements ++ drop n out) e t
        ∙ ap (λ x. x ++ drop (count (select G K L R).lengths) out) (sym moved)

-- The blocks of a result that has elements, by what the program finds around the axis.
module _ {d : Named} {k total : ℕ} {p : Operand} {room : ℕ} (c : Chooses d k total p room) (g : Lent p.shape p.buffer) (n : total ≡ 0 → ⊥)
    {w : Around} (e : w ≡ around_of p.shape k) where
  around : Parts p.shape k (length d.numbers) total
  around = parts p.shape k (length d.numbers) total g.high g.long c.has (sym c.count-is) (omega arith) c.small

  positions-here : Positions d (around_of p.shape k).length
  positions-here = rw around.length-is c.positions

  pub into-fits : BlocksFit d w (length p.buffer) room
  into-fits = rw e (record {
    positions = positions-here;
    some = around.outer-some;
    source = omega (arith, g.room, around.source);
    space = omega (arith, around.whole, c.space);
  })

  pub into-out : (out : List ℤ)
      → filled (blocks_at d w p.buffer) (w.outer * (length d.numbers * w.inner)) out
      ≡ (build (set (counted p.shape) k (length d.numbers)) (along (array_of p) k (position_at d))).elements ++ drop total out
  into-out out =
      let a = around_of p.shape k in
      let here : a.outer * (length d.numbers * a.inner) ≡ total = omega (arith, around.whole) in
      rw e
      (ap (λ n. filled (blocks_at d a p.buffer) n out) here
      ∙ ap (λ x. x ++ drop total out)
      (sym (along-lent p.shape p.buffer k (length d.numbers) total (position_at d) g c.has around (λ i h. within-lt _ _ (positions-here.inside i h)))))
