-- Positions put into their chains, and an element looked for along one. Nothing here asks how the bucket of a value is computed.
use Prim.Native.Nat.{ℕ, ◌+◌, ◌-◌, ◌≤◌, ◌<◌}
use native.Mathlib.Nat.{mod-lt}
use native.Mathlib.Omega.{arith}
use native.Mathlib.Decide.{dec_le, dec_lt}
use mathlib.Core.Path.{◌≡◌, refl, sym, ap, ◌∙◌}
use mathlib.Core.List.{List}
use mathlib.Core.Bool.{Bool, true, false}
use lib.ListN.{length, get_or, set, length-set}
use lib.Seq.{get_or-set_same, get_or-set_other}
use lib.IntN.{ℤ, pos}
use lib.Dec.{eqb}
use borrow.Author.Tests.{eqb-true, eqb-false}
use Rattle.shape.specs.Shape.{max_count}
use Rattle.shape.proofs.Bools.{no_way}
use Rattle.meaning.specs.Terms.{int_same, first_at}
use Rattle.signed.proofs.Equal.{int_same-true}
use Rattle.lookups.specs.Steps.{buckets, hash_of, Next, Links, Linked, Empty, OnChain}
use Rattle.lookups.proofs.Finding.{first-le, first_holds, first-least}

hash-lt : (x : ℤ) → hash_of x < buckets
unfolding hash_of
hash-lt x = mod-lt _ (omega arith)

-- The positions from i on are in chains, and the table has its size.
pub record Linking (l : List ℤ) (heads links : List ℕ) (i : ℕ) : Type 0 where
  pub inside : i ≤ length l
  pub heads-long : length heads ≡ buckets
  pub links-long : length links ≡ max_count
  pub linked : Linked l heads links i

-- No position is yet.
pub linking-none : {l : List ℤ} {heads links : List ℕ} → Empty l heads links → Linking l heads links (length l)
linking-none t = record {
  inside = omega arith;
  heads-long = t.heads-long;
  links-long = t.links-long;
  linked = record {
    head = λ h b. record { after = t.none h b; same = λ q. absurd (omega (arith, t.none h b)); least = λ j a c s. absurd (omega arith) };
    link = λ p a b. absurd (omega arith);
  };
}

-- A position in front of those that are.
module _ {l : List ℤ} {heads links : List ℕ} {i : ℕ} (t : Linking l heads links i) (small : length l ≤ max_count) (positive : 0 < i) where
  abbrev here : ℕ
  here = hash_of (get_or l (i - 1) (pos 0))

  -- It is the first of its own chain, and changes no other.
  own-chain : Next l here (i - 1) (i - 1)
  own-chain = record { after = omega arith; same = λ q. refl; least = λ j a b s. a }

  other-chain : (h q : ℕ) → Next l h i q → (here ≡ h → ⊥) → Next l h (i - 1) q
  other-chain h q n ne = record { after = omega (arith, n.after); same = n.same; least = λ j a b s. by j a b s (dec_le i j) }
    where
      by : (j : ℕ) → i - 1 ≤ j → j < length l → hash_of (get_or l j (pos 0)) ≡ h → Dec (i ≤ j) → q ≤ j
      by j a b s (yes k) = n.least j k b s
      by j a b s (no k) = let e : i - 1 ≡ j = omega arith in absurd (ne (ap (λ m. hash_of (get_or l m (pos 0))) e ∙ s))

  pub linking-one : Linking l (set heads here (i - 1)) (set links (i - 1) (get_or heads here 0)) (i - 1)
  linking-one = record {
    inside = omega (arith, t.inside);
    heads-long = simp length-set t.heads-long;
    links-long = simp length-set t.links-long;
    linked = record { head = λ h b. by-head h b (eqb h here) refl; link = λ p a b. by-link p b (dec_le i p) a };
  }
    where
      lt : here < buckets
      lt = hash-lt (get_or l (i - 1) (pos 0))

      by-head : (h : ℕ) → h < buckets → (w : Bool) → eqb h here ≡ w → Next l h (i - 1) (get_or (set heads here (i - 1)) h 0)
      by-head h b true e = rw (eqb-true h here e, get_or-set_same heads here (i - 1) 0 (omega (arith, lt, t.heads-long))) own-chain
      by-head h b false e =
          let ne = eqb-false h here e in
          rw (get_or-set_other heads here h (i - 1) 0 ne) (other-chain h (get_or heads h 0) (t.linked.head h b) (λ s. ne (sym s)))

      by-link : (p : ℕ) → p < length l → Dec (i ≤ p) → i - 1 ≤ p
          → Next l (hash_of (get_or l p (pos 0))) (p + 1) (get_or (set links (i - 1) (get_or heads here 0)) p 0)
      by-link p b (yes k) a = rw (get_or-set_other links (i - 1) p (get_or heads here 0) 0 (λ e. omega arith)) (t.linked.link p k b)
      by-link p b (no k) a =
          let e : p ≡ i - 1 = omega arith in
          let s : i - 1 + 1 ≡ i = omega arith in
          rw (e, get_or-set_same links (i - 1) (get_or heads here 0) 0 (omega (arith, t.links-long)), s) (t.linked.head here lt)

-- An element that is looked for along its chain.
module _ (l : List ℤ) (x : ℤ) where
  next-on : (from q : ℕ) → Next l (hash_of x) from q → (first_at x l < length l → from ≤ first_at x l) → OnChain l x q
  next-on from q n b = record {
    before = λ h. n.least (first_at x l) (b h) h (sym (ap hash_of (int_same-true x _ (first_holds x l h))));
    same = n.same;
  }

  pub head-on : {heads links : List ℕ} → Linked l heads links 0 → OnChain l x (get_or heads (hash_of x) 0)
  head-on t = next-on 0 _ (t.head (hash_of x) (hash-lt x)) (λ h. omega arith)

module _ {l : List ℤ} {x : ℤ} {p : ℕ} (c : OnChain l x p) where
  pub link_on : (links : List ℕ) → Links l links 0 → p < length l → int_same x (get_or l p (pos 0)) ≡ false → OnChain l x (get_or links p 0)
  link_on links t b e = next-on l x (p + 1) _ (rw (c.same b) at (t p (omega arith) b)) (λ h. omega (arith, c.before h, not_yet h))
    where
      not_yet : first_at x l < length l → first_at x l ≡ p → ⊥
      not_yet h q = no_way (sym e ∙ ap (λ k. int_same x (get_or l k (pos 0))) (sym q) ∙ first_holds x l h)

  pub on-here : p < length l → int_same x (get_or l p (pos 0)) ≡ true → p ≡ first_at x l
  on-here b e = let h = first-least x l p b e in omega (arith, c.before (omega arith))

  pub on-past : length l ≤ p → length l ≡ first_at x l
  on-past b = by (dec_lt (first_at x l) (length l)) (first-le x l)
    where
      by : Dec (first_at x l < length l) → first_at x l ≤ length l → length l ≡ first_at x l
      by (yes h) le = absurd (omega (arith, c.before h))
      by (no h) le = omega arith
