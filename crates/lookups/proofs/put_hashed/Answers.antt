use Rattle.std.proofs.Common.{rules, ℕ, ◌≡◌, ◌∙◌, arith, pos, get_or}
use mathlib.Core.Path.{ap}
use lib.ListN.{length-replicate, get_or-replicate}
use mir.Syntax.{w32}
use mir.Val.{SFits}
use Rattle.shape.specs.Shape.{max_count}
use Rattle.meaning.specs.Terms.{first_at}
use Rattle.signed.proofs.Reading.{read32}
use Rattle.lookups.specs.Steps.{buckets}
use Rattle.lookups.proofs.Finding.{first_small}
use Rattle.lookups.proofs.Entering.{entered-none, entered-next}
use Rattle.lookups.proofs.put_hashed.Given as given
use Rattle.lookups.proofs.put_hashed.Goals as goal
use Rattle.lookups.proofs.put_hashed.Goals.{After-look-at}

-- Past every list.
abbrev past : ℕ
past = 65535

pub link-chains-requires : goal.link-chains-requires
link-chains-requires g c =
    let small = c.requires.small in
    record {
      small = small;
      heads-long = length-replicate buckets past;
      links-long = length-replicate max_count past;
      none = λ h b. omega (arith, small, get_or-replicate buckets h past 0 b);
    }

-- The position of an element, which is at most the length.
at-is : (g : given.Over) (c : After-look-at g) → c.look-at.result ≡ first_at (get_or c.args.r.now c.loop-j.j (pos 0)) c.args.l.now
at-is g c =
    let f : SFits w32 (get_or c.args.r.now c.loop-j.j (pos 0)) = search rules in
    c.look-at.ensures ∙ ap (λ z. first_at z c.link-chains.result) (read32 _ f) ∙ ap (first_at _) c.link-chains.ensures

pub loop-j-init : goal.loop-j-init
loop-j-init g c = entered-none _ _ _ _ _

pub entry-requires : goal.entry-requires
entry-requires g c = (c.requires.origin, first_small _ _ (at-is g c) c.requires.small)

pub loop-j-preserved : goal.loop-j-preserved
loop-j-preserved g c =
    entered-next c.loop-j.invariant _ (omega arith) c.requires.space (at-is g c.before) (read32 _ (search rules) ∙ c.entry.ensures)
