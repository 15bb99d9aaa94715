use Rattle.std.proofs.Common.{rules}
use Rattle.sheet.proofs.Waits.{answered}
use Rattle.sheet.proofs.Text.put_reply.Goals as goal

pub returns : goal.returns
returns c =
    answered c.self.inside.bytes _ c.self.inside.len c.self.view_is (search rules) c.self.invariant c.requires _ _ _ (c.print_reply.ensures.room (search rules))
    (c.print_reply.ensures.count, c.print_reply.ensures.text) _ c.unwrap-n.ensures
