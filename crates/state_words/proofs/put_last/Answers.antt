use Rattle.state_words.proofs.DecodedLaws.{last-put}
use Rattle.state_words.proofs.put_last.Goals as goal

pub returns : goal.returns
returns c = last-put c.args.words.now c.args.s c.requires c.args.q
