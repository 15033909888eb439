use Rattle.state_words.proofs.PendingLaws.{made-put}
use Rattle.state_words.proofs.parts.put_made.Goals as goal

pub returns : goal.returns
returns c = made-put c.args.words.now c.all_words.ensures c.requires c.args.made
