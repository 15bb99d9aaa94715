-- Laws 3 and 6 of transpositions.
use mathlib.Core.Path.{◌≡◌, refl, sym, ap, ap₂, subst, subst₂, ◌∙◌}
use mathlib.Core.List.{List, [], ◌∷◌, map}
use mathlib.Core.Bool.{true, not, ◌&&◌}
use Prim.Native.Nat.{ℕ, suc, ◌≤◌, ◌<◌}
use native.Mathlib.Omega.{arith}
use borrow.Author.Tests.{lt-ltb, eq-eqb}
use lib.ListN.{length, get_or, length-map}
use lib.IntN.{ℤ, pos, nat_abs, ◌+ℤ◌, ◌-ℤ◌, +ℤ_comm, +ℤ-neg_ℤ_cancel}
use Rattle.shape.specs.Shape.{max_count, shape_rule}
use Rattle.shape.proofs.Rule.{rule, rule-rank, rule-small, rule-count, small_at, small-from}
use Rattle.meaning.specs.Array.{Operand, Array, array_of}
use Rattle.meaning.specs.Terms.{rank, int_same, within, every}
use Rattle.meaning.specs.Primitives.{sent_to, sent_lengths, brought_back, backwards, transpose, all_occur, transpose_by}
use Rattle.meaning.specs.Reply.{primitives, named, reply}
use Rattle.meaning.proofs.Arrays.{build-lengths, form-whole}
use Rattle.meaning.proofs.Sent.{length_back, length-shape, sent-has, all-occur}
use Rattle.laws.specs.Words.{IsArray, IsOrigin, IsLong, given, Permutes, Sends, Transposition, by15, by26, primitive_of, left_operand_of, axes_of, sent_on}
use Rattle.laws.specs.Laws.{TwoTranspositions, TranspositionKeeps}
use Rattle.laws.proofs.Calls.{array-rule, GivesArray, gives, same-arrays, as-often, lists-array}
use Rattle.laws.proofs.Permuted.{permuted-count}
use Rattle.laws.proofs.Transposed.{transposed, axes-is, shape_at, brought_back-one, transpose-occurs, permutes-brought_back}
use Rattle.laws.proofs.Transposed.{transposed-transposed, permutes-backwards}

-- An axis number less its origin.
less-origin : (G : ℤ) (t : ℕ) → G +ℤ pos t -ℤ G ≡ pos t
less-origin G t = ap (λ z. z -ℤ G) (+ℤ_comm G (pos t)) ∙ +ℤ-neg_ℤ_cancel (pos t) G

axes-of : (G : ℤ) (ts : List ℕ) → map (λ z. nat_abs (z -ℤ G)) (map (λ t. G +ℤ pos t) ts) ≡ ts
axes-of G [] = refl
axes-of G (t ∷ ts) = ap₂ ◌∷◌ (ap nat_abs (less-origin G t)) (axes-of G ts)

axes-within : (G : ℤ) (ts : List ℕ) (r : ℕ) → ((i : ℕ) → i < length ts → get_or ts i 0 < r) → every (λ z. within (z -ℤ G) r) (map (λ t. G +ℤ pos t) ts) ≡ true
unfolding every within
axes-within G [] r h = refl
axes-within G (t ∷ ts) r h =
    rw (ap (λ z. within z r) (less-origin G t) ∙ lt-ltb t r (h 0 (omega arith))) (axes-within G ts r (λ i l. h (suc i) (omega arith)))

sent-on : (ts us : List ℕ) → sent_on ts us ≡ brought_back ts us
unfolding sent_on brought_back
sent-on [] us = refl
sent-on (t ∷ ts) us = ap (λ q. get_or us t 0 ∷ q) (sent-on ts us)

module _ (ts : List ℕ) (P : Permutes (length ts) ts) where
  occur : all_occur ts ≡ true
  occur =
      all-occur ts
      (λ j l.
      let w = P.each j (omega (arith, axes-is ts P)) in
      let s = sent-has ts ts w.0 refl w.1 in
      omega (arith, s.1, ap (λ i. length (sent_to i ts ts)) w.2))

  module _ (ns : List ℕ) (e : length ts ≡ length ns) where
    -- The lengths of the result keep the shape rule.
    sent-rule : shape_rule (length ns) ns ≡ true → shape_rule (length (sent_lengths ts ns)) (sent_lengths ts ns) ≡ true
    sent-rule h =
        let same : length (sent_lengths ts ns) ≡ length ns = length-shape ts ns ∙ axes-is ts P ∙ e in
        rule _ (sent_lengths ts ns) (omega (arith, rule-rank (length ns) ns h))
        (small-from (sent_lengths ts ns)
        (λ j l.
        let w = P.each j (omega arith) in
        let b : get_or ns w.0 0 ≤ max_count = small_at ns w.0 (rule-small (length ns) ns h) (omega (arith, w.1)) in
        let q : get_or (sent_lengths ts ns) j 0 ≡ get_or ns w.0 0 = ap (λ i. get_or (sent_lengths ts ns) i 0) (sym w.2) ∙ shape_at ts P ns e w.0 w.1 in
        omega arith))
        (omega (arith, permuted-count (sent_lengths ts ns) ns (brought_back-one ts P ns e), rule-count (length ns) ns h))

-- A permutation of r axes, by its own length.
own : {r : ℕ} {ts : List ℕ} → Permutes r ts → Permutes (length ts) ts
own {r} {ts} p = subst (λ n. Permutes n ts) (sym p.size) p

-- The axes of a transposition permute.
axes-permute : {G : ℤ} {r : ℕ} (t : Transposition G r) → Permutes r (axes_of t)
axes-permute {G} {r} (by15 l) = permutes-backwards r
axes-permute (by26 l ts s p) = p

-- What 15 and 26 give.
module _ (G K : ℤ) (l r : Operand) (out : List ℤ) (o : IsOrigin G) (h : IsArray r) where
  reversed-axes : IsLong (pos 15) G K l r out → GivesArray (reply (pos 15) G K l r out) (transposed (backwards (rank (array_of r))) (array_of r))
  unfolding named primitives int_same transpose transposed
  reversed-axes room =
      let p = permutes-backwards (rank (array_of r)) in
      gives (record {
        left_is = refl;
        right_is = refl;
        left-form = refl;
        right-form = h.form;
        origin = o;
        room = room;
        limit = sent-rule _ (own p) (array_of r).lengths p.size (array-rule r h);
        own = tt;
      })

  sent-axes : (ts : List ℕ) → Sends G l ts → Permutes (rank (array_of r)) ts → IsLong (pos 26) G K l r out
      → GivesArray (reply (pos 26) G K l r out) (transposed ts (array_of r))
  unfolding named primitives int_same transpose_by transposed
  sent-axes ts s p room =
      let a : Array = array_of r in
      let xs : List ℤ = map (λ t. G +ℤ pos t) ts in
      subst (λ us. GivesArray (reply (pos 26) G K l r out) (transposed us a)) (axes-of G ts)
      (gives (record {
        left_is = lists-array l xs s;
        right_is = refl;
        left-form = s.form;
        right-form = h.form;
        origin = o;
        room = room;
        limit =
            subst (λ us. shape_rule (length (sent_lengths us a.lengths)) (sent_lengths us a.lengths) ≡ true) (sym (axes-of G ts))
            (sent-rule ts (own p) a.lengths p.size (array-rule r h));
        own = (
          ap not s.list,
          (
            ap not (eq-eqb (length xs) (rank a) (length-map ts _ ∙ p.size)),
            (
              ap not
                  (ap₂ ◌&&◌ (axes-within G ts (rank a) (λ i b. p.below i (omega (arith, p.size)))) (ap all_occur (axes-of G ts) ∙ occur ts (own p))),
              tt,
            ),
          ),
        );
      }))

-- A transposition that permutes all n axes gives the array transposed.
transposition-gives : (G K : ℤ) (n : ℕ) (t : Transposition G n) (r : Operand) (out : List ℤ) → IsOrigin G → IsArray r → rank (array_of r) ≡ n
    → IsLong (primitive_of t) G K (left_operand_of t) r out
    → GivesArray (reply (primitive_of t) G K (left_operand_of t) r out) (transposed (axes_of t) (array_of r))
transposition-gives G K n (by15 l) r out o h e room =
    subst (λ m. GivesArray (reply (pos 15) G K l r out) (transposed (backwards m) (array_of r))) e (reversed-axes G K l r out o h room)
transposition-gives G K n (by26 l ts s p) r out o h e room = sent-axes G K l r out o h ts s (subst (λ m. Permutes m ts) (sym e) p) room

pub transposition-keeps : TranspositionKeeps
transposition-keeps G K r t out o h room =
    let a : Array = array_of r in
    let p = axes-permute t in
    let g = transposition-gives G K (rank a) t r out o h refl room in
    (g.number, as-often r g (transpose-occurs (axes_of t) a (own p) p.size (form-whole r h.form)))

transposed-rank : (ts : List ℕ) (a : Array) → Permutes (length ts) ts → length ts ≡ rank a → rank (transposed ts a) ≡ rank a
unfolding transposed
transposed-rank ts a P e = ap length (build-lengths (sent_lengths ts a.lengths) _) ∙ length-shape ts a.lengths ∙ axes-is ts P ∙ e

pub two-transpositions : TwoTranspositions
two-transpositions G K₁ K₂ K r l t u out₁ out₂ out o h s room₁ room₂ room =
    let a : Array = array_of r in
    let p = axes-permute t in
    let q = axes-permute u in
    let ts : List ℕ = axes_of t in
    let us : List ℕ = axes_of u in
    let once : Operand = given (reply (primitive_of t) G K₁ (left_operand_of t) r out₁) in
    let first = transposition-gives G K₁ (rank a) t r out₁ o h refl room₁ in
    let same : rank (array_of once) ≡ rank a = ap rank first.array ∙ transposed-rank ts a (own p) p.size in
    let second = transposition-gives G K₂ (rank a) u once out₂ o first.good same room₂ in
    let both : Permutes (rank a) (sent_on ts us) =
    subst₂ Permutes (length_back ts us ∙ p.size) (sym (sent-on ts us)) (permutes-brought_back ts us (own p) (own q) (q.size ∙ sym p.size)) in
    let one = sent-axes G K l r out o h (sent_on ts us) s both room in (
      first.number,
      second.number,
      one.number,
      same-arrays second one
          (ap (transposed us) first.array
          ∙ transposed-transposed ts us a (own p) (own q) (q.size ∙ sym p.size) p.size
          ∙ ap (λ v. transposed v a) (sym (sent-on ts us))),
    )
