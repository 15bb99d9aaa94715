use Rattle.std.proofs.Common.{sym}
use Rattle.sheet_answer.proofs.Writing.{width-log}
use Rattle.sheet_answer.proofs.print.width.Goals as goal

pub returns-clause-digits : goal.returns-clause-digits
returns-clause-digits c = sym (width-log c.args.n c.max.result c.ilog10.result c.max.ensures c.ilog10.ensures.power_le c.ilog10.ensures.next_power_gt)
