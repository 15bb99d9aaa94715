-- More lengths than a shape has: LIMIT.
use mathlib.Core.Path.{◌≡◌, refl, sym, ap, ◌∙◌}
use mathlib.Core.List.{List}
use mathlib.Core.Bool.{Bool, true, false, cond}
use Prim.Native.Nat.{ℕ}
use native.Mathlib.Omega.{arith}
use borrow.Author.Tests.{leb-false}
use lib.ListN.{length}
use lib.Dec.{leb}
use lib.IntN.{ℤ, pos}
use Rattle.std.specs.Prelude.{Result, Ok, Err}
use Rattle.shape.specs.declared.Shape.{Shape}
use Rattle.shape.specs.Shape.{max_rank, shape_of}
use Rattle.meaning.specs.Array.{Operand}
use Rattle.meaning.specs.Primitives.{Meaning}
use Rattle.meaning.specs.Refusal.Refusal.{LIMIT}
use Rattle.meaning.specs.Reply.{reply}
use Rattle.answer.specs.Answer.{own, Replied}
use Rattle.answer.specs.Refused.{asked}
use Rattle.answer.specs.declared.Answer.{Answer}
use Rattle.answer.specs.declared.refusal.Refusal as code
use Rattle.answer.proofs.Exits.{Refuses}
use Rattle.answer.proofs.Order.{early_of, Names}
use Rattle.answer.proofs.Over.{over-limit}
use Rattle.vectors.specs.Steps.{shape_or_limit}

-- As many as it has, or fewer.
pub some_shape : (ns : List ℕ) {x : Result Shape code.Refusal} {s : Shape} → x ≡ shape_or_limit ns → x ≡ Ok s → s ≡ shape_of ns
some_shape ns {x} {s} is o = by (leb (length ns) max_rank) (sym o ∙ is)
  where
    by : (b : Bool) → ◌≡◌ {A = Result Shape code.Refusal} (Ok s) (cond b (Ok (shape_of ns)) (Err code.TheVariants.Limit)) → s ≡ shape_of ns
    by true h = cc
    by false h = cc

module _ {n operands : ℕ} {G K : ℤ} {L R : Operand} {m : Meaning} (names : Names n operands G K L R m) where
  pub over-replied : early_of operands G L R ≡ 0 → own n m.refusals ≡ 0 → (out : List ℤ) → {x : Result Shape code.Refusal} {d : code.Refusal}
      → x ≡ shape_or_limit m.lengths → x ≡ Err d → {a : Answer} → Refuses a (asked x) → Replied a out (reply (pos n) G K L R out)
  unfolding asked
  over-replied fine none out {x} {d} is o {a} e = by (leb (length m.lengths) max_rank) refl (sym o ∙ is)
    where
      by : (b : Bool) → leb (length m.lengths) max_rank ≡ b
          → ◌≡◌ {A = Result Shape code.Refusal} (Err d) (cond b (Ok (shape_of m.lengths)) (Err code.TheVariants.Limit))
          → Replied a out (reply (pos n) G K L R out)
      by true q h = absurd (let no : ⊥ = cc in no)
      by false q h = over-limit names fine none (omega (arith, leb-false _ _ q)) out e (ap asked (o ∙ h))
