use Rattle.call_mount.proofs.MapFilled.{entries-back}
use Rattle.call_mount.proofs.filling.put_own.Goals as goal

pub returns : goal.returns
returns c = entries-back c.args.words.now _ c.all_words.ensures c.args.z.pages (λ p. p) c.requires.pages-high c.own_in.ensures
