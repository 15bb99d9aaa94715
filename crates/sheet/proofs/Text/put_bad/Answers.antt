use Rattle.std.proofs.Common.{arith, rules}
use Rattle.sheet_answer.proofs.Room.{bad-fits}
use Rattle.sheet.proofs.Waits.{it-fits, answered}
use Rattle.sheet.proofs.Text.put_bad.Goals as goal

pub unwrap-n-requires : goal.unwrap-n-requires
unwrap-n-requires c =
    let fits = bad-fits c.args.line (omega arith) in
    it-fits c.self.inside.bytes _ c.self.inside.len c.self.view_is (search rules) c.self.invariant c.requires _ _ _ fits
    (c.print_bad.ensures.count, c.print_bad.ensures.text)

pub returns : goal.returns
returns c =
    let fits = bad-fits c.args.line (omega arith) in
    answered c.self.inside.bytes _ c.self.inside.len c.self.view_is (search rules) c.self.invariant c.requires _ _ _ fits
    (c.print_bad.ensures.count, c.print_bad.ensures.text) _ c.unwrap-n.ensures
