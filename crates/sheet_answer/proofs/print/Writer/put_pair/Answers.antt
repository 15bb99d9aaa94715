use Rattle.sheet_answer.proofs.Writing.{put-more}
use Rattle.sheet_answer.proofs.Pairs.{table}
use Rattle.sheet_answer.proofs.print.Writer.put_pair.Goals as goal

pub returns : goal.returns
returns c = rw (table c.args.n c.requires.0) at (put-more c.put_byte.ensures c.put_byte-2.ensures)
