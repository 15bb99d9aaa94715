-- The shape that R is read with: a scalar's is that of a vector of one.
use mathlib.Core.Path.{◌≡◌, refl, sym, ap, ◌∙◌}
use mathlib.Core.List.{List, [], ◌∷◌}
use mathlib.Core.Bool.{Bool, true, false, cond}
use native.Mathlib.Omega.{arith}
use borrow.Author.Tests.{le-leb, eqb-true, eqb-false}
use lib.ListN.{length, take}
use lib.Dec.{eqb}
use lib.IntN.{ℤ}
use Rattle.shape.specs.declared.Shape.{Shape}
use Rattle.shape.specs.Shape.{max_rank, counted, count, small, shape_rule, good_shape, count_of, shape_of}
use Rattle.meaning.specs.Array.{array_of}
use Rattle.meaning.specs.Terms.{rank, as_vector}
use Rattle.meaning.proofs.Scalars.{scalar-as, array-as, scalar-count}
use Rattle.answer.specs.Answer.{lent}
use Rattle.answer.proofs.Lent.{Lent, lent-good, form-by}
use Rattle.masks.specs.Steps.Actions.{vector_shape}

one-count : count (counted (shape_of (1 ∷ []))) ≡ 1
unfolding count
one-count = refl

one_of : count_of (shape_of (1 ∷ [])) ≡ 1
unfolding count_of shape_rule small count
one_of = refl

one-good : good_shape (shape_of (1 ∷ [])) ≡ true
unfolding shape_rule small count
one-good = refl

module _ (rs : Shape) {s : Shape} (read : s ≡ vector_shape rs) where
  by_rank : (P : Shape → Type 0) → (rs.rank ≡ 0 → P (shape_of (1 ∷ []))) → ((rs.rank ≡ 0 → ⊥) → P rs) → P s
  unfolding vector_shape
  by_rank P scalar other = rw read (by (eqb rs.rank 0) refl)
    where
      by : (t : Bool) → eqb rs.rank 0 ≡ t → P (cond t (shape_of (1 ∷ [])) rs)
      by true e = scalar (eqb-true rs.rank 0 e)
      by false e = other (eqb-false rs.rank 0 e)

  pub read-long : length rs.lens ≡ max_rank → length s.lens ≡ max_rank
  read-long h = by_rank (λ v. length v.lens ≡ max_rank) (λ z. refl) (λ n. h)

  pub read-good : good_shape rs ≡ true → good_shape s ≡ true
  read-good h = by_rank (λ v. good_shape v ≡ true) (λ z. one-good) (λ n. h)

  pub read-alone : rs.rank ≡ 0 → counted s ≡ 1 ∷ []
  read-alone h = by_rank (λ v. counted v ≡ 1 ∷ []) (λ z. refl) (λ n. absurd (n h))

  module _ (b : List ℤ) where
    pub read-lent : Lent rs b → Lent s b
    read-lent g =
        by_rank (λ v. Lent v b)
        (λ z.
        lent-good (shape_of (1 ∷ [])) b refl
        (form-by (shape_of (1 ∷ [])) b (omega (arith, one_of))
        ∙ le-leb (count_of (shape_of (1 ∷ []))) (length b) (omega (arith, one_of, g.room, scalar-count (counted rs) (g.rank_is ∙ z)))))
        (λ n. g)

    pub read-array : rank (array_of (lent rs b)) ≡ rs.rank → as_vector (array_of (lent rs b)) ≡ array_of (lent s b)
    read-array h =
        by_rank (λ v. as_vector (array_of (lent rs b)) ≡ array_of (lent v b))
        (λ z.
        scalar-as 1 (array_of (lent rs b)) (h ∙ z)
        ∙ ap (λ x. record { lengths = 1 ∷ []; elements = take x b }) (scalar-count (counted rs) (h ∙ z) ∙ sym one-count))
        (λ n. array-as 1 (array_of (lent rs b)) (omega (arith, h, n)))
