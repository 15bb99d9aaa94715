use Rattle.std.proofs.Common.{◌≡◌, not}
use Rattle.meaning.specs.Terms.{negative}
use Rattle.vectors.proofs.fn.none_negative.all.Given as goal

abbrev pub ensures : goal.ensures
ensures l r = r ≡ not (negative l.z.entry.now)
