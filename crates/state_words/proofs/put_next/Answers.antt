use Rattle.state_words.proofs.DecodedLaws.{next-put}
use Rattle.state_words.proofs.put_next.Goals as goal

pub returns : goal.returns
returns c = next-put c.args.words.now c.all_words.ensures c.args.next
