use Rattle.std.proofs.Common.{rules, ◌≡◌, ◌≤◌, ◌∙◌, pos, get_or}
use native.Mathlib.Omega.{arith}
use mir.Syntax.{w32}
use mir.Val.{SFits}
use Rattle.shape.specs.Shape.{max_count}
use Rattle.meaning.specs.Terms.{first_at}
use Rattle.signed.proofs.Reading.{read32}
use Rattle.lookups.proofs.Finding.{first_small, found_or}
use Rattle.lookups.proofs.Entering.{entered-none, entered-next, entered_all}
use Rattle.lookups.proofs.put_searched.Given as given
use Rattle.lookups.proofs.put_searched.Goals as goal
use Rattle.lookups.proofs.put_searched.Goals.{After-unwrap_or-at}

-- The position of an element, which is at most the length.
at-is : (g : given.Over) (c : After-unwrap_or-at g) → c.unwrap_or-at.result ≡ first_at (get_or c.args.r.now c.loop-j.j (pos 0)) c.args.l.now
at-is g c =
    let f : SFits w32 (get_or c.args.r.now c.loop-j.j (pos 0)) = search rules in
    c.unwrap_or-at.ensures ∙ found_or _ _ _ (rw (read32 _ f) at c.position.ensures)

at_small : (g : given.Over) (c : After-unwrap_or-at g) → c.unwrap_or-at.result ≤ max_count
at_small g c = first_small _ _ (at-is g c) c.requires.small

pub loop-j-init : goal.loop-j-init
loop-j-init g c = entered-none _ _ _ _ _

pub returns-then-allowed-tests : goal.returns-then-allowed-tests
returns-then-allowed-tests g c = c.loop-j.invariant

pub entry-requires : goal.entry-requires
entry-requires g c = (c.requires.origin, at_small g c)

pub overflow_add-tests : goal.overflow_add-tests
overflow_add-tests g c = let h = at_small g c.before in omega (arith, c.tests_allowed-allowed.ensures)

pub loop-j-preserved : goal.loop-j-preserved
loop-j-preserved g c =
    entered-next c.loop-j.invariant _ (omega arith) c.requires.space (at-is g c.before) (read32 _ (search rules) ∙ c.entry.ensures)

pub returns : goal.returns
returns g c = let all = entered_all c.loop-j.invariant (omega arith) in all.done
