use Rattle.badgerdross.proofs.Leaving.{leaves, keeps}
use Rattle.badgerdross.proofs.pending.badgerdross_step.Goals as goal

pub returns : goal.returns
returns c =
    let h = c.step.ensures in
    let n = c.number_of.ensures in
    record {
      state = leaves c.step.result _ n _ _ h.outcome;
      bytes = h.bytes;
      words = keeps c.step.result _ n _ _ h.words;
    }
