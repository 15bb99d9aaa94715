-- What is written for the elements that are looked for, one after another.
use mathlib.Core.Path.{◌≡◌, sym, ap, ◌∙◌}
use mathlib.Core.List.{List}
use mathlib.Core.Bool.{Bool}
use Prim.Native.Nat.{ℕ, ◌+◌, ◌-◌, ◌≤◌, ◌<◌}
use native.Mathlib.Omega.{arith}
use lib.ListN.{length, take, drop, get_or, set}
use lib.IntN.{ℤ, pos}
use borrow.Rule.Slice.PartMut.{put_mid, mid_len}
use Rattle.meaning.specs.Array.{tab}
use Rattle.meaning.specs.Terms.{first_at}
use Rattle.meaning.proofs.Tab.{length-tab, get_or-tab, get_or_part}
use Rattle.copying.specs.Steps.{filled}
use Rattle.copying.proofs.Runs.{filled_none, filled-one, filled-whole, part_length, put-list}
use Rattle.lookups.specs.Steps.{entry, entries, Entered}

pub entered-none : (bits : Bool) (first : ℕ) (l r out : List ℤ) → Entered bits first l r out out 0
entered-none bits first l r out = record { some = omega arith; done = filled_none _ out }

module _ {bits : Bool} {first : ℕ} {l r out₀ out : List ℤ} {n : ℕ} (d : Entered bits first l r out₀ out n) where
  -- One element more.
  pub entered-next : {at : ℕ} (v : ℤ) → n < length r → length r ≤ length out₀ → at ≡ first_at (get_or r n (pos 0)) l → v ≡ entry bits first (length l) at
      → Entered bits first l r out₀ (set out n v) (n + 1)
  entered-next v h room e q = record {
    some = omega arith;
    done = ap (λ o. set o n v) d.done ∙ filled-one _ (pos 0) v n out₀ (omega arith) (q ∙ ap (entry bits first (length l)) e);
  }

  pub entered_all : length r ≤ n → Entered bits first l r out₀ out (length r)
  entered_all h = let e : n ≡ length r = omega (arith, d.some) in rw e at d

  -- The rest, put into the part of the buffer after them.
  module _ (last : List ℤ) where
    abbrev m : ℕ
    m = length r

    abbrev rest : ℕ → ℤ
    rest = entries bits first l (take (m - n) (drop n r))

    pub entered-rest : m ≤ length out₀ → last ≡ filled rest (length (take (m - n) (drop n r))) (take (m - n) (drop n out))
        → put_mid n (m - n) out last ≡ filled (entries bits first l r) m out₀
    entered-rest room q =
        let g = entries bits first l r in
        let some = d.some in
        let end : n + (m - n) ≡ m = omega arith in
        let part = part_length out (tab n g) out₀ n m d.done (length-tab n g) some room in
        let whole : last ≡ tab (m - n) rest =
        q ∙ ap (λ k. filled rest k (take (m - n) (drop n out))) (mid_len n m r (omega arith)) ∙ filled-whole rest (m - n) _ (omega arith) in
        put-list g (pos 0) n (m - n) m out out₀ last d.done (sym end) (ap length whole ∙ length-tab (m - n) rest)
        (λ i b. sym (ap (λ ys. get_or ys i (pos 0)) whole ∙ get_or-tab (m - n) rest i (pos 0) b
        ∙ ap (λ z. entry bits first (length l) (first_at z l)) (get_or_part r n (m - n) i (pos 0) b)))
        ∙ ap (λ k. filled g k out₀) end
