use Rattle.call_mount.proofs.MapFilled.{entries-back}
use Rattle.call_mount.proofs.filling.put_homes.Goals as goal

pub returns : goal.returns
returns c = entries-back c.args.words.now _ c.all_words.ensures c.args.z.pages _ c.requires.0.pages-high c.homes_in.ensures
