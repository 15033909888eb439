use Rattle.state_words.proofs.DecodedLaws.{wide-put}
use Rattle.state_words.proofs.put_wide.Goals as goal

pub returns : goal.returns
returns c = wide-put c.args.words.now c.all_words.ensures c.args.writer c.args.count
