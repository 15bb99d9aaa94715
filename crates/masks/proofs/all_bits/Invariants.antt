use Rattle.std.proofs.Common.{◌≡◌, ◌&&◌, drop}
use Rattle.meaning.specs.Terms.{every, is_bit}
use Rattle.masks.proofs.all_bits.Given as goal

abbrev pub invariant-loop-z : goal.invariant-loop-z
invariant-loop-z l = every is_bit l.l ≡ (l.all && every is_bit (drop l.z-index l.l))
