-- Paper 01, "Exercises with solutions": a table of calls with their solutions, and one theorem over it.
use Prim.Native.Nat.{ℕ, zero, suc, ◌+◌, ◌*◌, ◌/◌, ◌%◌}
use mathlib.Core.Path.{◌≡◌, refl}
use mathlib.Core.List.{List, [], ◌∷◌, ◌++◌, map}
use lib.ListN.{length, replicate}
use lib.IntN.{ℤ, pos, negsuc}
use Rattle.shape.specs.Shape.{max_rank, max_count, count, small, shape_rule, shape_of, scalar, without}
use Rattle.shape.specs.Place.{inside, index, place}
use Rattle.meaning.specs.Array.{Operand, good_form, at, tab_from, tab, build}
use Rattle.meaning.specs.Refusal.{precedence, meets, winner}
use Rattle.meaning.specs.Terms.{negative, int_same, within, modulo, every, same_lengths, put_in, along, ones_from, first_at}
use Rattle.meaning.specs.Primitives.{lengths_of, ravel, interval, reverse, sent_to, smallest, axes_to, sent_lengths, brought_back, backwards}
use Rattle.meaning.specs.Primitives.{transpose, reshape, side, higher, ranks_fit, catenate, taken_from, taken_place, at_or_zero, takes}
use Rattle.meaning.specs.Primitives.{dropped_lengths, dropped_place, drops, rotate, occurs_in, all_occur, transpose_by, compress, expand, index_of}
use Rattle.meaning.specs.Primitives.{member, select}
use Rattle.meaning.specs.Reply.{Reply, primitives, named, is_origin, refusals, settle, reply}

-- Minus n.
abbrev minus : ℕ → ℤ
minus zero = pos zero
minus (suc n) = negsuc n

abbrev numbers : List ℕ → List ℤ
numbers = map pos

abbrev array : List ℕ → List ℤ → Operand
array ns xs = record { shape = shape_of ns; buffer = xs }

abbrev vector : List ℤ → Operand
vector xs = array (length xs ∷ []) xs

abbrev one : ℤ → Operand
one x = array [] (x ∷ [])

-- An operand that is not looked at.
abbrev none : Operand
none = vector []

-- A call and its solution.
record Exercise : Type 0 where
  call : ℕ
  G : ℤ
  K : ℤ
  L : Operand
  R : Operand
  out : List ℤ
  solution : Reply

-- The elements that the output buffer holds before the call.
abbrev room : ℕ → List ℤ
room n = replicate n (minus 9)

-- Accepted, with the lengths and elements of the solution. The buffer has one element more, which keeps its value.
abbrev gives : ℕ → ℤ → ℤ → Operand → Operand → List ℕ → List ℤ → Exercise
gives n G K L R ns xs = record {
  call = n;
  G = G;
  K = K;
  L = L;
  R = R;
  out = room (suc (length xs));
  solution = record { number = 0; shape = shape_of ns; out = xs ++ room 1 };
}

-- Refused.
abbrev refused : ℕ → ℤ → ℤ → Operand → Operand → ℕ → ℕ → Exercise
refused n G K L R size why = record {
  call = n;
  G = G;
  K = K;
  L = L;
  R = R;
  out = room size;
  solution = record { number = why; shape = scalar; out = room size };
}

-- Lengths 2 3, elements 1 to 6.
abbrev block : Operand
block = array (2 ∷ 3 ∷ []) (numbers (1 ∷ 2 ∷ 3 ∷ 4 ∷ 5 ∷ 6 ∷ []))

-- The starred exercises, in the paper's order.
abbrev starred : List Exercise
starred =
    gives 25 (pos 1) (pos 1) (one (minus 1)) (vector (numbers (1 ∷ 2 ∷ 3 ∷ 4 ∷ []))) (4 ∷ []) (numbers (4 ∷ 1 ∷ 2 ∷ 3 ∷ []))
    ∷ gives 25 (pos 1) (pos 1) (one (minus 2147483648)) (vector (numbers (1 ∷ 2 ∷ 3 ∷ []))) (3 ∷ []) (numbers (2 ∷ 3 ∷ 1 ∷ []))
    ∷ gives 14 (pos 1) (pos 1) none (vector (numbers (1 ∷ 2 ∷ 3 ∷ 4 ∷ []))) (4 ∷ []) (numbers (4 ∷ 3 ∷ 2 ∷ 1 ∷ []))
    ∷ gives 23 (pos 1) (pos 1) (one (minus 3)) (vector (numbers (5 ∷ 6 ∷ []))) (3 ∷ []) (numbers (0 ∷ 5 ∷ 6 ∷ []))
    ∷ gives 24 (pos 1) (pos 1) (one (minus 1)) (vector (numbers (5 ∷ 6 ∷ 7 ∷ []))) (2 ∷ []) (numbers (5 ∷ 6 ∷ []))
    ∷ gives 24 (pos 1) (pos 1) (one (pos 9)) (vector (numbers (5 ∷ 6 ∷ 7 ∷ []))) (0 ∷ []) []
    ∷ gives 15 (pos 1) (pos 1) none block (3 ∷ 2 ∷ []) (numbers (1 ∷ 4 ∷ 2 ∷ 5 ∷ 3 ∷ 6 ∷ []))
    ∷ gives 26 (pos 0) (pos 1) (vector (numbers (0 ∷ 0 ∷ []))) block (2 ∷ []) (numbers (1 ∷ 5 ∷ []))
    ∷ refused 26 (pos 0) (pos 1) (vector (numbers (1 ∷ 1 ∷ []))) block 6 7
    ∷ gives 27 (pos 1) (pos 1) (vector (numbers (1 ∷ 1 ∷ 0 ∷ 1 ∷ 0 ∷ []))) (one (pos 5)) (3 ∷ []) (numbers (5 ∷ 5 ∷ 5 ∷ []))
    ∷ gives 28 (pos 1) (pos 1) (vector (numbers (1 ∷ 0 ∷ 1 ∷ []))) (one (pos 5)) (3 ∷ []) (numbers (5 ∷ 0 ∷ 5 ∷ []))
    ∷ refused 28 (pos 1) (pos 1) (vector (numbers (1 ∷ 0 ∷ 1 ∷ []))) (vector (numbers (5 ∷ []))) 3 6
    ∷ gives 21 (pos 1) (pos 1) (vector (numbers (2 ∷ 2 ∷ []))) (vector []) (2 ∷ 2 ∷ []) (numbers (0 ∷ 0 ∷ 0 ∷ 0 ∷ []))
    ∷ gives 29 (pos 1) (pos 1) (vector (numbers (7 ∷ 8 ∷ 7 ∷ []))) (vector (numbers (7 ∷ 9 ∷ []))) (2 ∷ []) (numbers (1 ∷ 4 ∷ []))
    ∷ []

-- A shape of rank n, all of whose lengths are 1.
abbrev flat : ℕ → Operand
flat n = array (replicate n 1) (pos 7 ∷ [])

-- The exercises without a star, and the paper's example of the permutation that is not the opposite one.
abbrev others : List Exercise
others =
    gives 13 (pos 1) (pos 1) none (one (pos max_count)) (max_count ∷ []) (tab max_count (λ i. pos (suc i)))
    ∷ refused 13 (pos 1) (pos 1) none (one (pos (suc max_count))) 3 9
    ∷ refused 14 (pos 1) (minus 2147483648) none (vector (numbers (1 ∷ 2 ∷ []))) 2 5
    ∷ refused 12 (pos 1) (pos 1) none (vector (numbers (1 ∷ 2 ∷ 3 ∷ 4 ∷ []))) 3 10
    ∷ gives 12 (pos 1) (pos 1) none (vector (numbers (1 ∷ 2 ∷ 3 ∷ 4 ∷ []))) (4 ∷ []) (numbers (1 ∷ 2 ∷ 3 ∷ 4 ∷ []))
    ∷ gives 12 (pos 1) (pos 1) none (flat max_rank) (1 ∷ []) (numbers (7 ∷ []))
    ∷ refused 12 (pos 1) (pos 1) none (flat (suc max_rank)) 1 2
    ∷ gives
    26
    (pos 0)
    (pos 1)
    (vector (numbers (1 ∷ 2 ∷ 0 ∷ [])))
    (array (2 ∷ 3 ∷ 4 ∷ []) (tab 24 pos))
    (4 ∷ 2 ∷ 3 ∷ [])
    (tab 24 (λ j. pos (j % 6 / 3 * 12 + j % 3 * 4 + j / 6)))
    ∷ []

-- The open points that docs/DECISIONS.md decides, in its order: the calls on which the readings differ.
abbrev decided : List Exercise
decided =
    refused 12 (minus 1) (pos 1) (one (pos 1)) (vector (numbers (7 ∷ []))) 1 3
    ∷ gives 28 (pos 1) (pos 1) (vector (numbers (0 ∷ 0 ∷ 0 ∷ []))) (one (pos 5)) (3 ∷ []) (numbers (0 ∷ 0 ∷ 0 ∷ []))
    ∷ gives 28 (pos 1) (pos 1) (vector []) (one (pos 5)) (0 ∷ []) []
    ∷ gives 28 (pos 1) (pos 1) (one (pos 0)) (one (pos 5)) (1 ∷ []) (numbers (0 ∷ []))
    ∷ refused 28 (pos 1) (pos 1) (vector (numbers (1 ∷ []))) (vector (numbers (7 ∷ 8 ∷ 9 ∷ []))) 3 6
    ∷ gives 27 (pos 1) (pos 1) (vector []) (vector (numbers (5 ∷ []))) (0 ∷ []) []
    ∷ gives 27 (pos 1) (pos 1) (one (pos 1)) (vector []) (0 ∷ []) []
    ∷ gives 23 (pos 1) (pos 1) (vector []) (one (pos 5)) [] (numbers (5 ∷ []))
    ∷ gives 24 (pos 1) (pos 1) (one (pos 0)) (one (pos 5)) (1 ∷ []) (numbers (5 ∷ []))
    ∷ refused 23 (pos 1) (pos 1) (vector (replicate (suc max_rank) (pos 1))) (one (pos 5)) 1 9
    ∷ refused 21 (pos 1) (pos 1) (vector (numbers (0 ∷ suc max_count ∷ []))) (one (pos 5)) 1 9
    ∷ gives 21 (pos 1) (pos 1) (vector (numbers (1024 ∷ 1024 ∷ 0 ∷ []))) (one (pos 5)) (1024 ∷ 1024 ∷ 0 ∷ []) []
    ∷ refused 27 (pos 1) (pos 1) (vector (numbers (1 ∷ 2 ∷ []))) (vector (numbers (7 ∷ 8 ∷ 9 ∷ []))) 3 6
    ∷ refused 28 (pos 1) (pos 1) (vector (numbers (1 ∷ 2 ∷ []))) (vector (numbers (7 ∷ 8 ∷ 9 ∷ []))) 3 7
    ∷ refused 28 (pos 1) (pos 2) (vector (numbers (1 ∷ 2 ∷ []))) (vector (numbers (7 ∷ 8 ∷ []))) 3 5
    ∷ refused 25 (pos 1) (pos 1) (array (1 ∷ 1 ∷ []) (numbers (3 ∷ []))) (vector (numbers (7 ∷ 8 ∷ []))) 2 4
    ∷ refused 22 (pos 1) (pos 9) (vector (numbers (5 ∷ []))) (array (1 ∷ 1 ∷ 1 ∷ []) (numbers (7 ∷ []))) 2 4
    ∷ gives 22 (pos 1) (pos 2) (one (pos 5)) (array (2 ∷ 0 ∷ []) []) (2 ∷ 1 ∷ []) (numbers (5 ∷ 5 ∷ []))
    ∷ gives 22 (pos 1) (pos 1) (one (pos 5)) (one (pos 6)) (2 ∷ []) (numbers (5 ∷ 6 ∷ []))
    ∷ refused 22 (pos 1) (pos 2) (one (pos 5)) (one (pos 6)) 2 5
    ∷ gives 26 (pos 1) (pos 1) (vector []) (one (pos 5)) [] (numbers (5 ∷ []))
    ∷ refused 26 (pos 1) (pos 1) (one (pos 1)) (one (pos 5)) 1 6
    ∷ gives 26 (pos 0) (pos 0) (vector (numbers (1 ∷ 0 ∷ 1 ∷ []))) (array (2 ∷ 2 ∷ 2 ∷ []) (numbers (1 ∷ 2 ∷ 3 ∷ 4 ∷ 5 ∷ 6 ∷ 7 ∷ 8 ∷ []))) (2 ∷ 2 ∷ [])
    (numbers (1 ∷ 6 ∷ 3 ∷ 8 ∷ []))
    ∷ gives 31 (pos 1) (pos 1) (vector []) (vector []) (0 ∷ []) []
    ∷ refused 31 (pos 1) (pos 1) (one (pos 1)) (one (pos 5)) 1 4
    ∷ gives 31 (pos 1) (pos 1) (vector (numbers (2 ∷ []))) (array (2 ∷ 2 ∷ []) (numbers (1 ∷ 2 ∷ 3 ∷ 4 ∷ []))) (1 ∷ 2 ∷ []) (numbers (3 ∷ 4 ∷ []))
    ∷ gives 31 (pos 1) (pos 1) (one (pos 2)) (array (2 ∷ 2 ∷ []) (numbers (1 ∷ 2 ∷ 3 ∷ 4 ∷ []))) (2 ∷ []) (numbers (3 ∷ 4 ∷ []))
    ∷ refused 11 (pos 1) (pos 1) none (array (2 ∷ []) (numbers (1 ∷ []))) 1 2
    ∷ refused 29 (pos 1) (pos 1) (one (pos 7)) (vector (numbers (7 ∷ []))) 1 4
    ∷ refused 13 (pos 1) (pos 1) none (array (1 ∷ 1 ∷ []) (numbers (3 ∷ []))) 3 4
    ∷ []

abbrev answered : Exercise → Reply
answered e = reply (pos e.call) e.G e.K e.L e.R e.out

abbrev table : List Exercise
table = starred ++ others ++ decided

exercises : map answered table ≡ map (λ e. e.solution) table
unfolding precedence meets winner count small shape_rule inside index place good_form at tab_from tab build negative int_same within modulo every same_lengths
    without put_in along ones_from first_at lengths_of ravel interval reverse sent_to smallest axes_to sent_lengths brought_back backwards transpose reshape
    side higher ranks_fit catenate taken_from taken_place at_or_zero takes dropped_lengths dropped_place drops rotate occurs_in all_occur transpose_by compress
    expand index_of member select primitives named is_origin refusals settle reply
exercises = refl
