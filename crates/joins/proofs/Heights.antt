-- The shape against which K is read, and what 22 asks by it.
use mathlib.Core.Path.{◌≡◌, refl, sym, ap, ap₂, subst, ◌∙◌}
use mathlib.Core.List.{List, [], ◌∷◌}
use mathlib.Core.Bool.{Bool, true, not, cond, ◌&&◌}
use Prim.Native.Nat.{ℕ, ◌≤◌, ◌<◌}
use native.Mathlib.Decide.{dec_lt}
use native.Mathlib.Omega.{arith}
use borrow.Author.Tests.{lt-ltb, le-ltb, eq-eqb, ne_eqb}
use lib.ListN.{length}
use lib.IntN.{ℤ, ◌-ℤ◌}
use Rattle.shape.specs.declared.Shape.{Shape}
use Rattle.shape.specs.Shape.{max_rank, counted, good_shape}
use Rattle.shape.proofs.Counts.{good-rank}
use Rattle.shape.proofs.Made.{made_counted}
use Rattle.signed.proofs.Finding.{IsAt}
use Rattle.meaning.specs.Array.{Operand, Array, array_of}
use Rattle.meaning.specs.Refusal.{number, precedence}
use Rattle.meaning.specs.Refusal.Refusal.{RANK, AXIS, LENGTH}
use Rattle.meaning.specs.Terms.{rank, int_same, within, from_zero}
use Rattle.meaning.specs.Primitives.{higher, ranks_fit, catenate}
use Rattle.meaning.specs.Reply.{primitives, named}
use Rattle.meaning.specs.Steps.{Beside, fit}
use Rattle.meaning.proofs.Sides.{higher-left, higher-right, higher-scalars, ranks-beside, beside-as}
use Rattle.answer.specs.Answer.{lent, WellFormed, own}
use Rattle.answer.proofs.Lent.{rank-of, formed}
use Rattle.answer.proofs.Order.{Names, own_first}
use Rattle.joins.specs.Steps.{higher_shape, agree}

-- A good shape, as the program has it.
pub record Good (s : Shape) : Type 0 where
  pub good : good_shape s ≡ true
  pub long : length s.lens ≡ max_rank

good-of : {s : Shape} {x : List ℤ} → WellFormed s x → Good s
good-of w = record { good = (formed w).good; long = w.long }

low : {s : Shape} → Good s → s.rank ≤ max_rank
low {s} g = good-rank s g.good

ranked : {s : Shape} → Good s → (x : List ℤ) → rank (array_of (lent s x)) ≡ s.rank
ranked {s} g x = rank-of s x g.long g.good

-- Two good shapes, and the higher.
pub record High (ls rs hs : Shape) : Type 0 where
  pub left : Good ls
  pub right : Good rs
  pub is : hs ≡ higher_shape ls rs

-- What is known of it beside the operands.
pub record Higher (hs : Shape) (L R : Array) : Type 0 where
  pub counts : counted hs ≡ higher L R
  pub high : hs.rank ≤ max_rank
  pub rank_is : length (counted hs) ≡ hs.rank

pub high-of : {ls rs hs : Shape} {x y : List ℤ} → WellFormed ls x → WellFormed rs y → hs ≡ higher_shape ls rs → High ls rs hs
high-of l r e = record { left = good-of l; right = good-of r; is = e }

module _ {ls rs hs : Shape} (h : High ls rs hs) where
  module _ (x y : List ℤ) where
    abbrev L : Array
    L = array_of (lent ls x)

    abbrev R : Array
    R = array_of (lent rs y)

    pub higher-is : Higher hs L R
    higher-is = subst (λ s. Higher s L R) (sym h.is) (by (dec_lt ls.rank rs.rank) (dec_lt 0 ls.rank) (ranked h.left x) (ranked h.right y))
      where
        by : Dec (ls.rank < rs.rank) → Dec (0 < ls.rank) → rank L ≡ ls.rank → rank R ≡ rs.rank → Higher (higher_shape ls rs) L R
        by (yes p) d l r =
            rw (lt-ltb ls.rank rs.rank p) (record { counts = sym (higher-right L R (omega arith)); high = low h.right; rank_is = r })
        by (no p) (yes d) l r =
            rw (le-ltb ls.rank rs.rank (omega arith), ne_eqb ls.rank 0 (λ z. omega arith))
            (record { counts = sym (higher-left L R (omega arith) (omega arith)); high = low h.left; rank_is = l })
        by (no p) (no d) l r =
            rw (le-ltb ls.rank rs.rank (omega arith), eq-eqb ls.rank 0 (omega arith))
            (record { counts = made_counted (1 ∷ []) ∙ sym (higher-scalars L R (omega arith) (omega arith)); high = omega arith; rank_is = refl })

    fit_is : ranks_fit L R ≡ fit ls.rank rs.rank
    unfolding ranks_fit
    fit_is = ap₂ fit (ranked h.left x) (ranked h.right y)

  -- Ranks that fit, beside its rank.
  pub besides : fit ls.rank rs.rank ≡ true → Beside ls.rank hs.rank × Beside rs.rank hs.rank
  besides f =
      let n = higher-is [] [] in
      let e = ap length (sym n.counts) ∙ n.rank_is in
      let b = ranks-beside (L [] []) (R [] []) (fit_is [] [] ∙ f) in
      (beside-as b.0 (ranked h.left []) e, beside-as b.1 (ranked h.right []) e)

pub catenate-names : (G K : ℤ) (L R : Operand) → Names 22 2 G K L R (catenate G K (array_of L) (array_of R))
unfolding primitives named int_same catenate precedence
catenate-names G K L R = record { number = refl; arity = refl; meaning = refl; own = refl }

-- What it asks, in turn: ranks that fit, an axis, and lengths that agree.
abbrev pub asked : Bool → Bool → Bool → ℕ
asked fit inside same = cond (not fit) (number RANK) (cond (not inside) (number AXIS) (cond (not same) (number LENGTH) 0))

module _ {ls rs hs : Shape} (h : High ls rs hs) (G K : ℤ) (x y : List ℤ) where
  pub catenate-own : own 22 (catenate G K (array_of (lent ls x)) (array_of (lent rs y))).refusals
      ≡ asked (fit ls.rank rs.rank) (within (K -ℤ G) hs.rank)
      (agree (counted hs) (from_zero G K) (array_of (lent ls x)) && agree (counted hs) (from_zero G K) (array_of (lent rs y)))
  unfolding catenate
  catenate-own =
      let n = higher-is h x y in
      let same : List ℕ → Bool =
      λ ns. agree ns (from_zero G K) (array_of (lent ls x)) && agree ns (from_zero G K) (array_of (lent rs y)) in
      own_first 22 _ (catenate-names G K (lent ls x) (lent rs y)).own
      ∙ ap₂ (λ f ns. asked f (within (K -ℤ G) (length ns)) (same ns)) (fit_is h x y) (sym n.counts)
      ∙ ap (λ m. asked (fit ls.rank rs.rank) (within (K -ℤ G) m) (same (counted hs))) n.rank_is

  -- Where the ranks fit and K names axis k, LENGTH is left.
  pub catenate-rest : {k : ℕ} → fit ls.rank rs.rank ≡ true → IsAt K G hs.rank k
      → own 22 (catenate G K (array_of (lent ls x)) (array_of (lent rs y))).refusals
      ≡ cond (not (agree (counted hs) k (array_of (lent ls x)) && agree (counted hs) k (array_of (lent rs y)))) (number LENGTH) 0
  catenate-rest f a = catenate-own ∙ rw (f, a.inside, a.is)
