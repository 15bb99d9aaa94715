use Rattle.std.proofs.Common.{arith, rules, ◌≡◌, ◌∙◌, sym, true, false, length, ◌<◌}
use lib.ListN.{take}
use Rattle.shape.specs.Shape.{max_rank}
use Rattle.meaning.specs.Terms.{same_lengths}
use Rattle.joins.proofs.Agreeing.{same_pointwise, agrees-scalar, agrees-parts}
use Rattle.joins.proofs.Along.agrees.Goals as goal

pub returns-then-s-eq0 : goal.returns-then-s-eq0
returns-then-s-eq0 c x =
    let a = c.args.self in
    let l : length c.args.s.now.lens ≡ max_rank = search rules in
    sym (agrees-scalar c.args.s.now a.shape a.axis c.requires a.high a.has l a.long x c.if-s-eq0.true)

pub returns-then-eq : goal.returns-then-eq
returns-then-eq c x =
    let a = c.args.self in
    let l : length c.args.s.now.lens ≡ max_rank = search rules in
    let some : 0 < c.args.s.now.rank = omega (arith, c.if-s-eq0.false) in
    let front : same_lengths (take c.args.self.axis c.args.s.now.lens) (take c.args.self.axis c.args.self.shape.lens) ≡ true =
    same_pointwise _ _ ∙ sym c.eq.ensures ∙ c.if-eq.true in
    sym (agrees-parts c.args.s.now a.shape a.axis c.requires a.high a.has l a.long x some ∙ rw front (same_pointwise _ _ ∙ sym c.eq-then-eq.ensures))

pub returns-else-eq : goal.returns-else-eq
returns-else-eq c x =
    let a = c.args.self in
    let l : length c.args.s.now.lens ≡ max_rank = search rules in
    let some : 0 < c.args.s.now.rank = omega (arith, c.if-s-eq0.false) in
    let front : same_lengths (take c.args.self.axis c.args.s.now.lens) (take c.args.self.axis c.args.self.shape.lens) ≡ false =
    same_pointwise _ _ ∙ sym c.eq.ensures ∙ c.if-eq.false in
    c.if-eq.false ∙ sym (agrees-parts c.args.s.now a.shape a.axis c.requires a.high a.has l a.long x some ∙ rw front)
