use Rattle.badgerdross.proofs.Leaving.{leaves, keeps}
use Rattle.badgerdross.proofs.round.badgerdross_abort.Goals as goal

pub returns : goal.returns
returns c =
    let h = c.abort.ensures in
    let n = c.number_of.ensures in
    record {
      state = leaves c.abort.result _ n _ _ h.state;
      words = keeps c.abort.result _ n _ _ h.words;
    }
