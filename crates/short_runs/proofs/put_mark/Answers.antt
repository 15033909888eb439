use Rattle.short_runs.proofs.Printed.{mark-ends}
use Rattle.short_runs.proofs.put_mark.Goals as goal

pub returns : goal.returns
returns c = mark-ends c.args.out.now c.requires
