use Rattle.state_words.proofs.DecodedLaws.{head-put}
use Rattle.state_words.proofs.put_head.Goals as goal

pub returns : goal.returns
returns c = head-put c.args.words.now c.all_words.ensures c.args.head
