use Prim.Native.Nat.{ℕ, ◌-◌, ◌≤◌, ◌<◌, min}
use native.Mathlib.Omega.{arith}
use native.Mathlib.Decide.{dec_lt}
use mathlib.Core.Path.{◌≡◌, sym, ap, ◌∙◌}
use mathlib.Core.Bool.{true, false}
use mathlib.Core.List.{List}
use lib.IntN.{ℤ, pos}
use lib.ListN.{length, get_or}
use mir.Syntax.{w32}
use mir.Val.{SFits}
use borrow.Author.Rules.{rules}
use borrow.Author.Tests.{eq-eqb, ne_eqb}
use Rattle.meaning.specs.Terms.{int_same, first_at}
use Rattle.signed.proofs.Equal.{int_same-bits}
use Rattle.signed.proofs.Reading.{read32}
use Rattle.lookups.specs.Steps.{hash_of, Links, OnChain}
use Rattle.lookups.proofs.Chaining.{head-on, link_on, on-past}
use Rattle.lookups.proofs.Finding.{first-le, first-least}
use Rattle.lookups.proofs.table.Chains.look.Goals as goal
use Rattle.lookups.proofs.table.Chains.look.Goals.{then-found, else-found, then-found-2, else-found-2}

-- The chain's first position p, and q, which is p or the list's last.
module _ {l : List ℤ} {x : ℤ} {p : ℕ} (c : OnChain l x p) (q : ℕ) (near : q ≡ min p (length l - 1)) (some : 0 < length l) where
  here : int_same x (get_or l q (pos 0)) ≡ true → q ≡ first_at x l
  here e = let h = first-least x l q (omega arith) e in omega (arith, c.before (omega arith))

  nowhere : (links : List ℕ) → Links l links 0 → int_same x (get_or l q (pos 0)) ≡ false → length l ≤ get_or links q 0 → length l ≡ first_at x l
  nowhere links t e h = by (dec_lt p (length l))
    where
      by : Dec (p < length l) → length l ≡ first_at x l
      by (yes b) = let at : q ≡ p = omega arith in on-past (link_on c links t b (rw at at e)) (rw at at h)
      by (no b) = on-past c (omega arith)

pub returns-then-n-eq0 : goal.returns-then-n-eq0
returns-then-n-eq0 c = omega (arith, first-le c.args.x c.self.inside.l.now, ap (first_at c.args.x) c.self.view_is)

pub follow-requires : goal.follow-requires
follow-requires c =
    let first = c.from-p.ensures ∙ ap (λ h. get_or c.self.inside.heads.now h 0) c.hash.ensures.0 in
    rw (← c.self.view_is) (rw first (head-on c.self.inside.l.now _ c.self.invariant.linked))

pub returns : goal.returns
returns c =
    let l = c.self.inside.l.now in
    let t = c.self.invariant.linked in
    let hash = c.hash.ensures.0 ∙ ap hash_of (read32 _ c.ranges.x) in
    let first = c.from-p.ensures ∙ ap (λ h. get_or c.self.inside.heads.now h 0) hash in
    let on : OnChain l c.args.x c.from-p.result = rw first (head-on l c.args.x t) in
    let f : SFits w32 (get_or l c.min-q.result (pos 0)) = search rules in
    let same = sym (int_same-bits c.args.x _ c.ranges.x f) in
    elim c.if-found-2.branch [
      | then-found-2 w ↦ w.at-is ∙ here on _ c.min-q.ensures (omega arith) (same ∙ eq-eqb _ _ w.if-found-2.true)
      | else-found-2 w ↦
          let past : length l ≤ c.from-next.result =
          elim c.if-found.branch [
            | then-found u ↦ absurd (w.if-found-2.false u.if-found.true)
            | else-found u ↦ omega (arith, u.skip-is)
          ] in
          w.at-is
          ∙ nowhere on _ c.min-q.ensures (omega arith) c.self.inside.links.now t.link (same ∙ ne_eqb _ _ w.if-found-2.false)
          (omega (arith, past, c.from-next.ensures))
    ]
    ∙ ap (first_at c.args.x) c.self.view_is
