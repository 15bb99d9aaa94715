-- A run written element by element, from its front.
use Prim.Native.Nat.{ℕ, suc, ◌+◌, ◌<◌}
use mathlib.Core.Path.{◌≡◌, sym, ap, ◌∙◌}
use mathlib.Core.List.{List, [], ◌∷◌, ◌++◌}
use lib.ListN.{length, get_or, drop, set, replicate, length-replicate}
use lib.Seq.{drop-cons, set_at}
use Rattle.std.proofs.lemmas.List.{replicate-append-replicate}
use Rattle.std.proofs.Common.{add-one, append_assoc}

module _ {A : Type 0} where
  -- One more element of the same value.
  pub fill_step : (x : A) (d : List A) (i : ℕ) → i < length d → set (replicate i x ++ drop i d) i x ≡ replicate (i + 1) x ++ drop (i + 1) d
  fill_step x d i h =
      rw (drop-cons d i x h, set_at (replicate i x) (get_or d i x) (drop (suc i) d) x i (length-replicate i x), ← add-one)
      (sym (append_assoc (replicate i x) (x ∷ []) (drop (i + 1) d)) ∙ ap (λ r. r ++ drop (i + 1) d) (replicate-append-replicate i 1 x))
