use Rattle.badgerdross.proofs.Leaving.{leaves, keeps}
use Rattle.badgerdross.proofs.round.badgerdross_begin_wide.Goals as goal

pub returns : goal.returns
returns c =
    let h = c.begin_wide.ensures in
    let n = c.number_of.ensures in
    record {
      state = leaves c.begin_wide.result _ n _ _ h.state;
      words = keeps c.begin_wide.result _ n _ _ h.words;
    }
