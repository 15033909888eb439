use Rattle.refinement.specs.Run.{exec}
use Rattle.sequence_runs.proofs.Called.{asked-told}
use Rattle.sequence_runs.proofs.calls.write_first.Goals as goal

pub returns : goal.returns
unfolding exec
returns c =
    asked-told c.write.result _ c.args.image.now _ _ c.write.ensures.started
