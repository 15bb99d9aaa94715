use Rattle.std.proofs.Common.{arith, rules, refl, ◌∙◌}
use Rattle.std.proofs.lemmas.Iterator.{YieldsList-from_range}
use Rattle.std.proofs.lemmas.Iterator.Search.{all_from_yields_List}
use Rattle.std.specs.List.{list_any}
use borrow.Author.Tests.{tests}
use Rattle.transposes.proofs.Choosing.{used-range}
use lib.Dec.{eqb}
use Rattle.transposes.proofs.all_used.Goals as goal

pub returns : goal.returns
returns c =
    all_from_yields_List (λ j. list_any (λ t. eqb t j) c.args.to.now) _ _ _ c.all.ensures.ran
    (YieldsList-from_range 0 c.args.axes c.args.axes refl (omega arith))
    (λ x b q k. search (rules, tests))
    ∙ used-range c.args.to.now c.args.axes
