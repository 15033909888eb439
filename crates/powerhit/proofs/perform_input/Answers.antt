use Rattle.powerhit.proofs.Going.{performs-all}
use Rattle.powerhit.proofs.perform_input.Goals as goal

pub returns : goal.returns
returns c =
    performs-all (c.started-first.ensures _ _ _) c.read_all-s.ensures c.perform_last.ensures
