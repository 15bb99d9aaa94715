-- The axes that 15 and 26 send to, found one after the other.
use mathlib.Core.Path.{◌≡◌, refl, sym, ap, ap₂, subst, ◌∙◌}
use mathlib.Core.List.{List, [], ◌∷◌, ◌++◌, map}
use mathlib.Core.Bool.{Bool, true, false, ◌&&◌, ◌||◌}
use Prim.Native.Nat.{ℕ, zero, suc, ◌+◌, ◌-◌, ◌≤◌, ◌<◌, max}
use native.Mathlib.Numerals.{add-one}
use native.Mathlib.Omega.{arith}
use lib.Dec.{eqb}
use lib.ListN.{length, get_or, set, take, drop, replicate, length-map, length-set, length-replicate}
use lib.Seq.{take_all, take-suc, take-suc-set}
use lib.IntN.{ℤ, pos, ◌-ℤ◌}
use Rattle.shape.specs.Shape.{max_rank}
use Rattle.std.proofs.lemmas.List.{get_or-map}
use Rattle.std.specs.List.{list_all, list_any, range_with_len}
use native.Mathlib.Nat.{sub-zero}
use Rattle.shape.specs.declared.Shape.{Shape}
use Rattle.shape.proofs.Bools.{both}
use Rattle.meaning.specs.Array.{Operand, array_of, tab, tab_from}
use Rattle.meaning.specs.Primitives.{sent_to, axes_to, backwards, occurs_in, all_occur}
use Rattle.meaning.specs.Terms.{rank, within, from_zero, every}
use Rattle.answer.specs.Answer.{lent}
use Rattle.answer.proofs.Lent.{Lent}
use Rattle.meaning.proofs.Every.{every-next, every-stop, every-end}
use Rattle.meaning.proofs.Positions.{within-lt}
use Rattle.meaning.proofs.Sent.{length-backwards, get_or-backwards, axes-lt, axes-le, sent-has, Occur, all-occur}
use mir.Syntax.{w32}
use mir.Val.{SFits, to_z, of_z}
use Rattle.signed.proofs.Finding.{IsAt}
use Rattle.signed.proofs.Reading.{read32}
use Rattle.transposes.specs.Steps.Sent.{route, sent_axes, in_domain, Transposes}

-- The first i axes are sent to those of ts.
pub record SentSoFar (ts to : List ℕ) (i : ℕ) : Type 0 where
  pub few : i ≤ length ts
  pub long : length to ≡ max_rank
  pub same : take i to ≡ take i ts

pub so-far-none : (ts to : List ℕ) → length to ≡ max_rank → SentSoFar ts to 0
so-far-none ts to e = record { few = omega arith; long = e; same = refl }

module _ {ts to : List ℕ} {i : ℕ} (f : SentSoFar ts to i) where
  pub so_far_more : (t : ℕ) → length ts ≤ max_rank → i < length ts → t ≡ get_or ts i 0 → SentSoFar ts (set to i t) (i + 1)
  so_far_more t h l e = record {
    few = omega arith;
    long = length-set to i t ∙ f.long;
    same = rw (add-one, take-suc-set to i t (omega (arith, f.long)), f.same, e) (sym (take-suc ts i 0 l));
  }

  pub so-far-all : length ts ≤ i → take (length ts) to ≡ ts
  so-far-all h = let n : length ts ≡ i = omega (arith, f.few) in ap (λ k. take k to) n ∙ f.same ∙ take_all i ts h

-- Whether an axis is sent to each of the first n, as the code looks for them.
occurs-any : (ts : List ℕ) (j : ℕ) → list_any (λ t. eqb t j) ts ≡ occurs_in ts j
unfolding occurs_in
occurs-any [] j = refl
occurs-any (t ∷ ts) j = ap (λ b. eqb t j || b) (occurs-any ts j)

used-from : (ts : List ℕ) (i n : ℕ) → list_all (λ j. list_any (λ t. eqb t j) ts) (range_with_len i n) ≡ every (occurs_in ts) (tab_from i n (λ j. j))
unfolding every tab_from
used-from ts i zero = refl
used-from ts i (suc n) = rw add-one (ap₂ ◌&&◌ (occurs-any ts i) (used-from ts (suc i) n))

pub used-range : (ts : List ℕ) (n : ℕ) → list_all (λ j. list_any (λ t. eqb t j) ts) (range_with_len 0 n) ≡ every (occurs_in ts) (tab n (λ j. j))
unfolding tab
used-range ts n = used-from ts 0 n

-- Backwards: one axis goes to each.
pub backwards-few : (r : ℕ) → axes_to (backwards r) ≤ r
backwards-few r = axes-le (backwards r) r (λ i h. let h' : i < r = rw (length-backwards r) at h in omega (arith, get_or-backwards r i h'))

pub backwards-axes : (r : ℕ) → axes_to (backwards r) ≡ r
backwards-axes zero = omega (arith, backwards-few zero)
backwards-axes (suc r) =
    omega (arith, backwards-few (suc r), axes-lt (backwards (suc r)) 0 (omega (arith, length-backwards (suc r))), get_or-backwards (suc r) 0 (omega arith))

pub backwards-occur : (r : ℕ) → Occur (backwards r)
backwards-occur r j h =
    let l : j < r = rw (backwards-axes r) at h in
    let i : ℕ = r - 1 - j in
    let e : get_or (backwards r) i 0 ≡ j = get_or-backwards r i (omega arith) ∙ omega arith in
    let w = sent-has (backwards r) (backwards r) i refl (omega (arith, length-backwards r)) in
    omega (arith, w.1, ap (λ k. length (sent_to k (backwards r) (backwards r))) e)

-- R has as many axes as L has elements.
pub as-many : {R : Operand} {rs : Shape} {b : List ℤ} {n : ℕ} → lent rs b ≡ R → n ≡ R.shape.rank → rs.rank ≡ n
as-many e h = ap (λ o. o.shape.rank) e ∙ sym h

-- So R's axes go there.
module _ {R : Operand} {rs : Shape} {b : List ℤ} {to : List ℕ} {i : ℕ} (e : lent rs b ≡ R) (g : Lent rs b) (f : SentSoFar (backwards rs.rank) to i)
    (end : rs.rank ≤ i) where
  backwards-axes-are : sent_axes R to ≡ backwards rs.rank
  backwards-axes-are =
      ap (λ o. take o.shape.rank to) (sym e) ∙ ap (λ n. take n to) (sym (length-backwards rs.rank)) ∙ so-far-all f (rw length-backwards end)

  pub backwards-route : route R (sent_axes R to) ≡ route R (backwards (rank (array_of R)))
  backwards-route = ap (route R) (backwards-axes-are ∙ ap backwards (sym g.rank_is ∙ ap (λ o. rank (array_of o)) e))

  pub backwards-sends : Transposes R rs.rank to
  backwards-sends = record {
    long = f.long;
    axes-are = sym (ap axes_to backwards-axes-are ∙ backwards-axes rs.rank);
    few = rw backwards-axes-are (omega (arith, backwards-few rs.rank, ap (λ o. o.shape.rank) e));
    each = rw backwards-axes-are (all-occur _ (backwards-occur rs.rank));
  }

-- One axis more: the largest may be it.
axes-snoc : (xs : List ℕ) (t : ℕ) → axes_to (xs ++ (t ∷ [])) ≡ max (suc t) (axes_to xs)
unfolding axes_to
axes-snoc [] t = refl
axes-snoc (x ∷ xs) t = rw (axes-snoc xs t) (omega arith)

-- What 26 has found in the first i elements of L: each names an axis.
module _ (G : ℤ) (l : List ℤ) where
  abbrev pub named-axes : List ℕ
  named-axes = map (from_zero G) l

  abbrev pub inside-from : ℕ → Bool
  inside-from i = every (λ z. within (z -ℤ G) (length l)) (drop i l)

pub record Choosing (G : ℤ) (l : List ℤ) (to : List ℕ) (axes i : ℕ) : Type 0 where
  pub sent : SentSoFar (named-axes G l) to i
  pub inside : inside-from G l 0 ≡ inside-from G l i
  pub low : axes ≤ length l
  pub axes-is : axes ≡ axes_to (take i (named-axes G l))

pub choosing-none : (G : ℤ) (l : List ℤ) → Choosing G l (replicate max_rank 0) 0 0
unfolding axes_to
choosing-none G l = record { sent = so-far-none (named-axes G l) _ (length-replicate {A = ℕ} max_rank 0); inside = refl; low = omega arith; axes-is = refl }

-- The same of the origin, read from a local.
pub choosing-read : {G : ℤ} {l : List ℤ} {to : List ℕ} {axes i : ℕ} → SFits w32 G → Choosing (to_z w32 (of_z w32 G)) l to axes i → Choosing G l to axes i
choosing-read {G} {l} {to} {axes} {i} f h = subst (λ (G : ℤ). Choosing G l to axes i) (read32 G f) h

-- Elements that name axes.
named-few : (G : ℤ) (n : ℕ) (xs : List ℤ) → every (λ z. within (z -ℤ G) n) xs ≡ true → axes_to (map (from_zero G) xs) ≤ n
unfolding every axes_to
named-few G n [] h = omega arith
named-few G n (x ∷ xs) h =
    let b = both (within (x -ℤ G) n) (every (λ z. within (z -ℤ G) n) xs) h in
    omega (arith, within-lt (x -ℤ G) n b.0, named-few G n xs b.1)

module _ {G : ℤ} {l : List ℤ} {to : List ℕ} {axes i : ℕ} (f : Choosing G l to axes i) where
  module _ (t : ℕ) (a : IsAt (get_or l i (pos 0)) G (length l) t) (h : i < length l) (high : length l ≤ max_rank) where
    named-at : get_or (named-axes G l) i 0 ≡ t
    named-at = get_or-map (from_zero G) l i (pos 0) 0 h ∙ sym a.is

    one_more : take (i + 1) (named-axes G l) ≡ take i (named-axes G l) ++ (t ∷ [])
    one_more = rw (add-one, take-suc (named-axes G l) i 0 (rw length-map h), named-at)

    pub choosing-more : (most : ℕ) → most ≡ max (suc t) axes → Choosing G l (set to i t) most (i + 1)
    choosing-more most e = record {
      sent = so_far_more f.sent t (rw length-map high) (rw length-map h) (sym named-at);
      inside = f.inside ∙ every-next (λ z. within (z -ℤ G) (length l)) l i (pos 0) h a.inside;
      low = omega (arith, a.below, f.low);
      axes-is = e ∙ ap (max (suc t)) f.axes-is ∙ sym (ap axes_to one_more ∙ axes-snoc (take i (named-axes G l)) t);
    }

  -- An element that names no axis.
  pub choosing-stop : i < length l → within (get_or l i (pos 0) -ℤ G) (length l) ≡ false → in_domain G (length l) l ≡ false
  choosing-stop h w = rw (f.inside ∙ every-stop (λ z. within (z -ℤ G) (length l)) l i (pos 0) h w)

  -- All name axes: what is left is whether one is sent to each.
  module _ (end : length l ≤ i) where
    taken : take (length l) to ≡ named-axes G l
    taken = ap (λ n. take n to) (sym (length-map l (from_zero G))) ∙ so-far-all f.sent (rw length-map end)

    axes-to : axes ≡ axes_to (named-axes G l)
    axes-to = f.axes-is ∙ ap axes_to (take_all i (named-axes G l) (rw length-map end))

    pub domain-is : (n : ℕ) → n ≡ length l → in_domain G (length l) l ≡ every (occurs_in (take (n - 0) to)) (tab axes (λ j. j))
    unfolding all_occur
    domain-is n e =
        ap (λ b. b && all_occur (named-axes G l)) (f.inside ∙ every-end (λ z. within (z -ℤ G) (length l)) l i end)
        ∙ ap₂ (λ ts n. every (occurs_in ts) (tab n (λ j. j))) (sym taken ∙ ap (λ n. take n to) (sym (sub-zero n ∙ e))) (sym axes-to)

    -- Where it is, R's axes go to those.
    module _ {R : Operand} (long : length l ≡ R.shape.rank) where
      pub chosen-route : route R (sent_axes R to) ≡ route R (named-axes G l)
      chosen-route = ap (route R) (ap (λ n. take n to) (sym long) ∙ taken)

      pub chosen-sends : in_domain G (length l) l ≡ true → Transposes R axes to
      chosen-sends d =
          let b = both (every (λ z. within (z -ℤ G) (length l)) l) (all_occur (named-axes G l)) d in
          let e : sent_axes R to ≡ named-axes G l = ap (λ s. s.to) chosen-route in
          record {
            long = f.sent.long;
            axes-are = axes-to ∙ ap axes_to (sym e);
            few = rw e (omega (arith, named-few G (length l) l b.0));
            each = rw e b.1;
          }
