use Rattle.trials.specs.Trials.{as_abandoned}
use Rattle.trials.proofs.abandon.Goals as goal

pub returns : goal.returns
unfolding as_abandoned
returns c words img = rw c.one_more.ensures
