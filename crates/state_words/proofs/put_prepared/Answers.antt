use Rattle.state_words.proofs.DecodedLaws.{prepared-put}
use Rattle.state_words.proofs.put_prepared.Goals as goal

pub returns : goal.returns
returns c = prepared-put c.args.words.now c.all_words.ensures c.args.w
