use Rattle.std.proofs.Common.{rules, ◌≡◌, ◌-ℤ◌, true}
use Rattle.std.specs.Prelude.{◌↔◌, IsTrue, All}
use Rattle.meaning.specs.Terms.{within}
use Rattle.selects.proofs.Tested.{tested}
use Rattle.selects.proofs.Choice.all_within.Goals as goal

pub returns : goal.returns
returns c =
    let h : IsTrue c.all.result ↔ All (λ z. within (z -ℤ c.self.inside.origin) c.args.n ≡ true) c.self.inside.numbers.now = search rules in
    rw (← c.self.view_is) (tested _ _ c.all.result h)
