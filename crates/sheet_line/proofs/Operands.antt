-- An operand of a line, by what was taken of it.
use Rattle.std.proofs.Common.{◌≡◌, ℕ, suc, ◌+◌, ◌<◌, ◌≤◌, min, true, cond, leb, List, [], ◌++◌, length, take, set, ℤ, refl, ap, ◌∙◌, Some, None}
use Rattle.std.proofs.Common.{add-one, arith, drop, length-take-le, take_at, take-suc-set, le-leb}
use borrow.Author.Tests.{lt-leb}
use Rattle.shape.specs.declared.Shape.{Shape}
use Rattle.shape.specs.Shape.{max_rank, max_count, small, count, counted, count_of, shape_of, made_of}
use Rattle.shape.proofs.Counts.{count_held, small-snoc}
use Rattle.shape.proofs.Made.{made-is, made_counted}
use Rattle.meaning.specs.Array.{Array}
use Rattle.sheet_line.specs.Call.{max_held, Reader, give, fail, ◌then◌, next_number, natural, many, operand}
use Rattle.sheet_line.specs.Steps.{Takes, held_in}
use Rattle.sheet_line.proofs.Readers.{Left, then-none, then-some, gives, fails}

pub small-none : small [] ≡ true
unfolding small
small-none = refl

pub small-set : (i n : ℕ) (lens : List ℕ) → small (take i lens) ≡ true → n ≤ max_count → i < length lens → small (take (i + 1) (set lens i n)) ≡ true
small-set i n lens f h l = rw (add-one, take-suc-set lens i n l) (small-snoc (take i lens) n f h)

-- The shape that is made of lengths, and its count.
pub record Made (ns : List ℕ) (s : Shape) (n : ℕ) : Type 0 where
  pub shape : s ≡ shape_of ns
  pub counts : counted s ≡ ns
  pub held : n ≡ min (count ns) (suc max_count)

-- The lengths lie at the front of an array with room for as many as a shape may have.
pub made : (rank : ℕ) (ns lens : List ℕ) (s : Shape) (n : ℕ) → rank ≤ max_rank → length lens ≡ max_rank → length ns ≡ length (take rank lens)
    → small ns ≡ true → s ≡ made_of rank (ns ++ drop rank lens) → n ≡ count_of s → Made ns s n
made rank ns lens s n h w l f e k =
    let long : length ns ≡ rank = l ∙ length-take-le rank lens (omega arith) in
    let shape : s ≡ shape_of ns = e ∙ made-is ns rank (ns ++ drop rank lens) h (take_at ns (drop rank lens) rank long) in
    let counts : counted s ≡ ns = ap (λ x. counted x) shape ∙ made_counted ns in
    let bound : s.rank ≤ max_rank = rw shape (omega (arith, long)) in
    record { shape = shape; counts = counts; held = k ∙ count_held s bound (rw counts f) ∙ rw counts }

-- The array of the shape, where the elements were stored at the front of a buffer.
module _ (ns : List ℕ) (s : Shape) (n : ℕ) (m : Made ns s n) (few : n ≤ max_held) (zs rest : List ℤ) (l : length zs ≡ n) where
  pub held-is : held_in (zs ++ rest) s ≡ record { lengths = ns; elements = zs }
  held-is = rw (m.counts, take_at zs rest (count ns) (omega (arith, m.held)))

-- What is still to be read of an operand: after the rank, after the lengths, and where there is room for so many elements.
abbrev pub elements_on : List ℕ → Reader Array
elements_on ns = many next_number (count ns) then λ zs. give (record { lengths = ns; elements = zs })

abbrev pub count_on : ℕ → List ℕ → Reader Array
count_on limit ns = cond (leb (count ns) limit) (elements_on ns) fail

abbrev pub lengths_on : ℕ → ℕ → Reader Array
lengths_on limit rank = many (natural max_held) rank then count_on limit

-- By what the code has found: no rank, no lengths, too many elements, no elements, or all of them.
module _ (limit : ℕ) {before : Left} where
  pub no-rank : {after last : Left} → Takes (natural max_rank) before after None → Takes (operand limit) before last None
  unfolding operand
  no-rank e = then-none (lengths_on limit) e

  module _ (rank : ℕ) {ranked : Left} (e : Takes (natural max_rank) before ranked (Some rank)) where
    pub no-lengths : {after last : Left} → Takes (many (natural max_held) rank) ranked after None → Takes (operand limit) before last None
    unfolding operand
    no-lengths f = then-some (lengths_on limit) e (then-none (count_on limit) f)

    module _ (ns : List ℕ) {measured : Left} (f : Takes (many (natural max_held) rank) ranked measured (Some ns)) where
      pub too-many : {last : Left} → limit < count ns → Takes (operand limit) before last None
      unfolding operand
      too-many h = then-some (lengths_on limit) e (then-some (count_on limit) f (rw (lt-leb (count ns) limit h) fails))

      pub no-elements : {after last : Left} → count ns ≤ limit → Takes (many next_number (count ns)) measured after None
          → Takes (operand limit) before last None
      unfolding operand
      no-elements h g =
          then-some (lengths_on limit) e
          (then-some (count_on limit) f (rw (le-leb (count ns) limit h) (then-none (λ zs. give (record { lengths = ns; elements = zs })) g)))

      pub operand-is : {last : Left} {zs : List ℤ} → count ns ≤ limit → Takes (many next_number (count ns)) measured last (Some zs)
          → Takes (operand limit) before last (Some (record { lengths = ns; elements = zs }))
      unfolding operand
      operand-is h g =
          then-some (lengths_on limit) e
          (then-some (count_on limit) f (rw (le-leb (count ns) limit h) (then-some (λ zs. give (record { lengths = ns; elements = zs })) g gives)))
