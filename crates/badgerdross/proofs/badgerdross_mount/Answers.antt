use Rattle.badgerdross.proofs.Leaving.{leaves, keeps}
use Rattle.badgerdross.proofs.badgerdross_mount.Goals as goal

pub returns : goal.returns
returns c =
    let h = c.mount.ensures in
    let n = c.number_of.ensures in
    record {
      state = leaves c.mount.result _ n _ _ h.state;
      words = keeps c.mount.result _ n _ _ h.words;
    }
