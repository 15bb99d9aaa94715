use Rattle.transposes.proofs.Walking.{run-strided}
use Rattle.transposes.proofs.line.Goals as goal

pub returns-then-stride-eq1 : goal.returns-then-stride-eq1
returns-then-stride-eq1 c = run-strided c.args.r.now c.args.out.now _ c.args.stride c.if-stride-eq1.true c.requires.0 c.requires.1 c.copy_run.ensures
