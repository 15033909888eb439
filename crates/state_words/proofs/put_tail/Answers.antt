use Rattle.state_words.proofs.DecodedLaws.{tail-put}
use Rattle.state_words.proofs.put_tail.Goals as goal

pub returns : goal.returns
returns c = tail-put c.args.words.now c.all_words.ensures c.args.tail
