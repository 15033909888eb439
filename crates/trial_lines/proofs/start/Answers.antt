use lib.ListN.{replicate}
use Rattle.trial_lines.proofs.Taken.{first-told}
use Rattle.trial_lines.proofs.start.Goals as goal

pub returns : goal.returns
returns c img = first-told _ img (c.nothing_tried-trial.ensures (replicate 1280 0) img)
