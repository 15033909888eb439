use Rattle.badgerdross.proofs.Leaving.{leaves, keeps}
use Rattle.badgerdross.proofs.round.badgerdross_withdraw.Goals as goal

pub returns : goal.returns
returns c =
    let h = c.withdraw.ensures in
    let n = c.number_of.ensures in
    record {
      state = leaves c.withdraw.result _ n _ _ h.state;
      words = keeps c.withdraw.result _ n _ _ h.words;
    }
