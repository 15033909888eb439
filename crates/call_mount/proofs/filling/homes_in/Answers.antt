use Rattle.call_mount.proofs.MapFilled.{part-back}
use mathlib.Core.Path.{refl}
use Rattle.call_mount.proofs.filling.homes_in.Goals as goal

pub returns : goal.returns
returns c = part-back c.args.words.now _ _ c.args.z.pages _ refl c.put_homes.ensures
