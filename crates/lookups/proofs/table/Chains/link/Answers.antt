use Rattle.std.proofs.Common.{rules, ◌≡◌, ◌∙◌, ◌-◌, arith, get_or, pos}
use mathlib.Core.Path.{ap}
use mir.Syntax.{w32}
use mir.Val.{SFits}
use Rattle.signed.proofs.Reading.{read32}
use Rattle.lookups.specs.Steps.{hash_of}
use Rattle.lookups.proofs.Chaining.{linking-none, linking-one}
use Rattle.lookups.proofs.table.Chains.link.Goals as goal

pub loop-i-init : goal.loop-i-init
loop-i-init c = linking-none c.requires

pub loop-i-preserved : goal.loop-i-preserved
loop-i-preserved c =
    let f : SFits w32 (get_or c.args.l.now (c.loop-i.i - 1) (pos 0)) = search rules in
    let h : c.hash-h.result ≡ hash_of (get_or c.args.l.now (c.loop-i.i - 1) (pos 0)) = c.hash-h.ensures.0 ∙ ap hash_of (read32 _ f) in
    rw h (linking-one c.loop-i.invariant c.requires.small (omega arith))

pub invariant_of-result : goal.invariant_of-result
invariant_of-result c =
    let e : c.loop-i.i ≡ 0 = omega arith in
    record { small = c.requires.small; linked = rw e at c.loop-i.invariant.linked }
