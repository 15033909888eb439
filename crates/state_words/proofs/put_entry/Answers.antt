use Rattle.state_words.proofs.DecodedLaws.{entry-put}
use Rattle.state_words.proofs.put_entry.Goals as goal

pub returns : goal.returns
returns c = entry-put c.args.words.now c.args.p c.args.frame c.requires
