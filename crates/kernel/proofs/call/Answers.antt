use Rattle.std.proofs.Common.{arith}
use Rattle.answer.proofs.Exits.{refuses}
use Rattle.answer.specs.declared.refusal.Refusal.TheVariants.{Number}
use Rattle.kernel.proofs.Numbered.{unnamed-replied}
use Rattle.kernel.proofs.call.Goals as goal

pub returns-in_default : goal.returns-in_default
returns-in_default c =
    unnamed-replied c.args.primitive (λ a b. omega arith) (λ a b. omega arith) _ _ c.args.l.now c.args.r.now _ (refuses Number).is
