-- 23 and 24: what they ask, and what they give, with the kind open.
use Prim.Native.Nat.{ℕ, zero, suc, ◌≤◌, ◌<◌}
use native.Mathlib.Omega.{arith}
use mathlib.Core.Path.{◌≡◌, refl, sym, ap, ap₂, ◌∙◌, subst}
use mir.Syntax.{w32}
use mir.Val.{SFits, to_z, of_z}
use mathlib.Core.List.{List, ◌∷◌, ◌++◌}
use mathlib.Core.Bool.{Bool, true, false, not, cond, ◌||◌, ◌&&◌}
use borrow.Author.Tests.{eq-eqb, eqb-true, eqb-false, leb-true, leb-false}
use lib.Dec.{eqb, leb}
use lib.ListN.{length, take, drop, replicate, length-replicate}
use lib.Seq.{length-take-le}
use lib.IntN.{ℤ, pos}
use Rattle.shape.specs.declared.Shape.{Shape}
use Rattle.shape.specs.Shape.{max_rank, counted, count, count_of, shape_of}
use Rattle.shape.proofs.Counts.{count_ones}
use Rattle.shape.proofs.Made.{made_counted, Stands, made-stands, stands-count}
use Rattle.std.specs.Prelude.{Result, Ok, Err}
use Rattle.meaning.specs.Array.{Operand, Array, array_of, good_form, tab, build}
use Rattle.meaning.specs.Refusal.{number, precedence}
use Rattle.meaning.specs.Refusal.Refusal.{RANK, LENGTH, LIMIT}
use Rattle.meaning.specs.Terms.{rank, is_list, as_rank, int_same}
use Rattle.meaning.specs.Primitives.{takes, drops}
use Rattle.meaning.specs.Reply.{primitives, named, reply}
use Rattle.meaning.proofs.Scalars.{scalar-as, array-as, scalar-count}
use Rattle.answer.specs.Answer.{lent, WellFormed, early, own, late, Replied}
use Rattle.answer.specs.Refused.{asked, answered}
use Rattle.answer.specs.declared.Answer.{Answer}
use Rattle.answer.specs.declared.refusal.Refusal as code
use Rattle.answer.specs.declared.refusal.Refusal.TheVariants as coded
use Rattle.answer.proofs.Lent.{Lent, formed}
use Rattle.answer.proofs.Early.{early-read}
use Rattle.answer.proofs.Exits.{Refuses, asked_ok}
use Rattle.answer.proofs.Order.{Names, own_first, Ready, given-replied, Roomy, late-fine}
use Rattle.cuts.specs.declared.CutKind.{CutKind}
use Rattle.cuts.specs.declared.CutKind.TheVariants.{Take, Drop}
use Rattle.cuts.specs.Steps.{cut_number, cut_meaning, read_lengths, cut_lengths, cut_shape, table_of, cut_at, Parts}
use Rattle.answer.proofs.Over.{over-limit}
use Rattle.cuts.proofs.Building.{lengths-long}
use Rattle.cuts.proofs.Bridges.{read, cut-lengths, cut-elements}

abbrev array : Shape → List ℤ → Array
array s b = array_of (lent s b)

-- R has one axis for each number of L.
abbrev one_each : Array → Array → Bool
one_each L R = eqb (length L.elements) (rank (read L R))

pub cut-names : (kind : CutKind) (G K : ℤ) (L R : Operand) → Names (cut_number kind) 2 G K L R (cut_meaning kind (array_of L) (array_of R))
unfolding primitives named int_same takes drops precedence
cut-names Take G K L R = record { number = refl; arity = refl; meaning = refl; own = refl }
cut-names Drop G K L R = record { number = refl; arity = refl; meaning = refl; own = refl }

-- RANK and LENGTH, in turn.
in-turn : (kind : CutKind) (L R : Operand) → own (cut_number kind) (cut_meaning kind (array_of L) (array_of R)).refusals
    ≡ cond (not (is_list (array_of L))) (number RANK) (cond (not (one_each (array_of L) (array_of R))) (number LENGTH) 0)
unfolding takes drops
in-turn Take L R = own_first 23 _ (cut-names Take (pos 0) (pos 0) L R).own
in-turn Drop L R = own_first 24 _ (cut-names Drop (pos 0) (pos 0) L R).own

rank_as : (n : ℕ) (a : Array) → eqb n (rank (as_rank n a)) ≡ (eqb (rank a) 0 || eqb n (rank a))
rank_as n a = by (eqb (rank a) 0)
  where
    by : (b : Bool) → eqb n (rank (cond b (record { lengths = replicate n 1; elements = a.elements }) a)) ≡ (b || eqb n (rank a))
    by true = eq-eqb n (length (replicate {A = ℕ} n 1)) (sym (length-replicate n 1))
    by false = refl

-- A scalar has as many axes as L has numbers.
pub cut-own : (kind : CutKind) (L R : Operand) → own (cut_number kind) (cut_meaning kind (array_of L) (array_of R)).refusals
    ≡ cond (not (is_list (array_of L))) (number RANK)
    (cond (not (eqb (rank (array_of R)) 0 || eqb (length (array_of L).elements) (rank (array_of R)))) (number LENGTH) 0)
cut-own kind L R =
    in-turn kind L R
    ∙ ap (λ t. cond (not (is_list (array_of L))) (number RANK) (cond (not t) (number LENGTH) 0)) (rank_as (length (array_of L).elements) (array_of R))

-- Neither was met.
pub cut_fits : (kind : CutKind) (L R : Operand) → own (cut_number kind) (cut_meaning kind (array_of L) (array_of R)).refusals ≡ 0
    → length (array_of L).elements ≡ rank (read (array_of L) (array_of R))
cut_fits kind L R h = eqb-true _ _ (by (is_list (array_of L)) (one_each (array_of L) (array_of R)) (sym (in-turn kind L R) ∙ h))
  where
    by : (a b : Bool) → ◌≡◌ {A = ℕ} (cond (not a) (number RANK) (cond (not b) (number LENGTH) 0)) 0 → b ≡ true
    by false b e = absurd (omega arith)
    by true false e = absurd (omega arith)
    by true true e = refl

-- The count of an array does not change with the axes that it is read with.
count-as : (n : ℕ) (a : Array) → count (as_rank n a).lengths ≡ count a.lengths
count-as n a = by (eqb (rank a) 0) refl
  where
    by : (b : Bool) → eqb (rank a) 0 ≡ b → count (cond b (record { lengths = replicate n 1; elements = a.elements }) a).lengths ≡ count a.lengths
    by true e = count_ones n ∙ sym (scalar-count a.lengths (eqb-true (rank a) 0 e))
    by false e = refl

ones-front : (k m : ℕ) → k ≤ m → take k (replicate {A = ℕ} m 1) ≡ replicate k 1
ones-front zero m h = refl
ones-front (suc k) zero h = absurd (omega arith)
ones-front (suc k) (suc m) h = ap (λ ns. 1 ∷ ns) (ones-front k m (omega arith))

-- What is known where nothing before LIMIT was met: zs are L's numbers, and lens are R's lengths as they are read.
pub record Cuts (kind : CutKind) (L : Array) (rs : Shape) (r : List ℤ) (zs : List ℤ) (lens : List ℕ) : Type 0 where
  pub right : Lent rs r
  pub fit : length L.elements ≡ rank (read L (array rs r))
  pub numbers : zs ≡ L.elements
  pub lens-are : lens ≡ read_lengths rs

module _ {kind : CutKind} {L : Array} {rs : Shape} {r zs : List ℤ} {lens : List ℕ} (g : Cuts kind L rs r zs lens) where
  abbrev R : Array
  R = array rs r

  abbrev k : ℕ
  k = length zs

  -- The lengths of the result.
  abbrev ms : List ℕ
  ms = (cut_meaning kind L R).lengths

  so-many : length L.elements ≡ k
  so-many = ap length (sym g.numbers)

  -- If a shape can have so many.
  lens-read : k ≤ max_rank → take k lens ≡ (read L R).lengths
  lens-read high = ap (take k) g.lens-are ∙ by (eqb rs.rank 0) refl
    where
      by : (b : Bool) → eqb rs.rank 0 ≡ b → take k (cond b (replicate max_rank 1) rs.lens) ≡ (read L R).lengths
      by true q =
          ones-front k max_rank high
          ∙ ap (λ x. replicate x 1) (sym so-many)
          ∙ sym (ap (λ a. a.lengths) (scalar-as (length L.elements) R (g.right.rank_is ∙ eqb-true rs.rank 0 q)))
      by false q =
          let ne = eqb-false rs.rank 0 q in
          let same : read L R ≡ R = array-as (length L.elements) R (omega (arith, g.right.rank_is)) in
          ap (λ x. take x rs.lens) (sym so-many ∙ g.fit ∙ ap rank same ∙ g.right.rank_is) ∙ sym (ap (λ a. a.lengths) same)

  lengths-are : k ≤ max_rank → cut_lengths kind zs (take k lens) ≡ ms
  lengths-are h = ap₂ (cut_lengths kind) g.numbers (lens-read h) ∙ sym (cut-lengths L R g.fit kind)

  ms-long : length ms ≡ k
  ms-long = ap length (cut-lengths L R g.fit kind) ∙ lengths-long kind _ _ g.fit ∙ sym g.fit ∙ so-many

  -- What `cut_shape` makes of them.
  module _ {x : Result Shape code.Refusal} (is : x ≡ cut_shape kind zs lens) where
    pub over : {d : code.Refusal} → x ≡ Err d → (max_rank < length ms) × (asked x ≡ number LIMIT)
    unfolding asked
    over {d} o = by (leb k max_rank) refl (sym o ∙ is)
      where
        by : (b : Bool) → leb k max_rank ≡ b
            → ◌≡◌ {A = Result Shape code.Refusal} (Err d) (cond b (Ok (shape_of (cut_lengths kind zs (take k lens)))) (Err coded.Limit))
            → (max_rank < length ms) × (asked x ≡ number LIMIT)
        by true q h = absurd (let no : ⊥ = cc in no)
        by false q h = (omega (arith, leb-false k max_rank q, ms-long), ap asked (o ∙ h))

    module _ {s : Shape} (o : x ≡ Ok s) where
      fits : (k ≤ max_rank) × (s ≡ shape_of (cut_lengths kind zs (take k lens)))
      fits = by (leb k max_rank) refl (sym o ∙ is)
        where
          by : (b : Bool) → leb k max_rank ≡ b
              → ◌≡◌ {A = Result Shape code.Refusal} (Ok s) (cond b (Ok (shape_of (cut_lengths kind zs (take k lens)))) (Err coded.Limit))
              → (k ≤ max_rank) × (s ≡ shape_of (cut_lengths kind zs (take k lens)))
          by true q h = (leb-true k max_rank q, cc)
          by false q h = absurd (let no : ⊥ = cc in no)

      pub shape_is : s ≡ shape_of ms
      shape_is = fits.1 ∙ ap shape_of (lengths-are fits.0)

      pub stands : Stands s ms
      stands = made-stands s ms shape_is

      pub res-is : take s.rank s.lens ≡ cut_lengths kind zs (take k lens)
      res-is = ap counted shape_is ∙ made_counted ms ∙ sym (lengths-are fits.0)

      -- Neither LIMIT nor SPACE was met: R's elements and as much of the output as the result counts are handed on.
      module _ (out : List ℤ) (room : Roomy s (length out)) {src : List ℤ} {c : ℕ} (a : src ≡ R.elements) (b : c ≡ count_of s) where
        count-is : c ≡ count ms
        count-is = b ∙ stands-count stands room.good

        source-long : length src ≡ count (counted rs)
        source-long = ap length a ∙ g.right.whole

        pub out-long : length (take c out) ≡ c
        out-long = length-take-le c out (omega (arith, b, room.space))

        pub parts : length lens ≡ max_rank → Parts kind lens (take s.rank s.lens) zs (length src) (length (take c out))
        parts w = record {
          high = fits.0;
          long = w;
          made = res-is;
          source = source-long ∙ sym (ap count (lens-read fits.0) ∙ count-as (length L.elements) R);
          small = omega (arith, source-long, g.right.count_small);
          result = out-long ∙ count-is ∙ sym (ap count (lengths-are fits.0));
          limit = omega (arith, out-long, b, room.small);
        }

        pub out-is : {last : List ℤ} → last ≡ tab (length (take c out)) (cut_at (table_of kind zs (take k lens)) src)
            → last ++ drop c out ≡ (build ms (cut_meaning kind L R).element).elements ++ drop (count ms) out
        out-is q =
            ap₂ (λ x y. x ++ drop y out) (rw (out-long ∙ count-is, lens-read fits.0, g.numbers, a, ← cut-elements L R g.fit kind) at q) count-is

-- What a call knows once L's numbers are read: neither FORM nor ORIGIN nor a refusal of its own was met.
pub record Known (kind : CutKind) (G : ℤ) (L R : Operand) (rs : Shape) (r zs : List ℤ) (lens : List ℕ) : Type 0 where
  pub is : R ≡ lent rs r
  pub fine : early (good_form L && good_form R) G ≡ 0
  pub none : own (cut_number kind) (cut_meaning kind (array_of L) (array_of R)).refusals ≡ 0
  pub cuts : Cuts kind (array_of L) rs r zs lens

-- From what its calls promise: l and o are the operands as they are handed on.
pub known : (kind : CutKind) {G : ℤ} {L R l o : Operand} {rs : Shape} {r zs : List ℤ} {lens : List ℕ} {A B : Type 0} {x : Result A code.Refusal} {v : A}
    {y : Result B code.Refusal} {w : B} → SFits w32 G → asked x ≡ early (good_form L && good_form R) (to_z w32 (of_z w32 G)) → x ≡ Ok v
    → (l ≡ L) × (o ≡ R) → lent rs r ≡ o → WellFormed rs r → asked y ≡ own (cut_number kind) (cut_meaning kind (array_of l) (array_of o)).refusals
    → y ≡ Ok w → zs ≡ (array_of l).elements → lens ≡ read_lengths rs → Known kind G L R rs r zs lens
known kind {G} {L} {R} {l} {o} {rs} {r} f early-is fine same view formed' own-is none numbers lens-are =
    let e : R ≡ lent rs r = sym (view ∙ same.1) in
    let n : own (cut_number kind) (cut_meaning kind (array_of L) (array_of R)).refusals ≡ 0 =
    sym (own-is ∙ ap₂ (λ a b. own (cut_number kind) (cut_meaning kind (array_of a) (array_of b)).refusals) same.0 same.1) ∙ asked_ok none in
    record {
      is = e;
      fine = sym (early-read f _ _ early-is) ∙ asked_ok fine;
      none = n;
      cuts = record {
        right = formed formed';
        fit = cut_fits kind L (lent rs r) (rw e at n);
        numbers = numbers ∙ ap (λ a. (array_of a).elements) same.0;
        lens-are = lens-are;
      };
    }

module _ {kind : CutKind} {G : ℤ} {L R : Operand} {rs : Shape} {r zs : List ℤ} {lens : List ℕ} (k : Known kind G L R rs r zs lens)
    {x : Result Shape code.Refusal} (is : x ≡ cut_shape kind zs lens) where
  -- More axes than a shape can have.
  pub limit : {d : code.Refusal} → x ≡ Err d → (K : ℤ) (out : List ℤ) {a : Answer} → Refuses a (asked x)
      → Replied a out (reply (pos (cut_number kind)) G K L R out)
  limit o K out e =
      let m = over k.cuts is o in
      over-limit (cut-names kind G K L R) k.fine k.none
      (subst (λ p. max_rank < length (cut_meaning kind (array_of L) (array_of p)).lengths) (sym k.is) m.0) out e m.1

  module _ {s : Shape} (o : x ≡ Ok s) where
    pub ready : (K : ℤ) → Ready (cut_number kind) 2 G K L R (cut_meaning kind (array_of L) (array_of R)) s
    ready K = record {
      names = cut-names kind G K L R;
      fine = k.fine;
      none = k.none;
      stands = subst (λ p. Stands s (cut_meaning kind (array_of L) (array_of p)).lengths) (sym k.is) (stands k.cuts is o);
    }

    pub given_is : s ≡ shape_of (cut_meaning kind (array_of L) (array_of R)).lengths
    given_is = subst (λ p. s ≡ shape_of (cut_meaning kind (array_of L) (array_of p)).lengths) (sym k.is) (shape_is k.cuts is o)

    -- Neither LIMIT nor SPACE was met: c is the result's count, and src are R's elements.
    module _ (out : List ℤ) {w c : ℕ} (late-is : w ≡ late c (length out)) (none : w ≡ 0) (count-is : c ≡ count_of s) {src : List ℤ}
        (e : src ≡ (array_of (lent rs r)).elements) where
      abbrev roomy : Roomy s (length out)
      roomy = late-fine (length out) late-is count-is none

      pub parts_are : length lens ≡ max_rank → Parts kind lens (take s.rank s.lens) zs (length src) (length (take c out))
      parts_are = parts k.cuts is o out roomy e count-is

      pub replied : (K : ℤ) {last : List ℤ} → last ≡ tab (length (take c out)) (cut_at (table_of kind zs (take (length zs) lens)) src)
          → Replied (answered (Ok s)) (last ++ drop c out) (reply (pos (cut_number kind)) G K L R out)
      replied K {last} q =
          given-replied (ready K) out late-is count-is none given_is
          (subst
          (λ p.
          last ++ drop c out ≡ (build (cut_meaning kind (array_of L) (array_of p)).lengths (cut_meaning kind (array_of L) (array_of p)).element).elements
          ++ drop (count (cut_meaning kind (array_of L) (array_of p)).lengths) out)
          (sym k.is) (out-is k.cuts is o out roomy e count-is q))
