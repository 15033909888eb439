use Rattle.state_words.proofs.DecodedLaws.{nothing_put}
use Rattle.state_words.proofs.put_nothing.Goals as goal

pub returns : goal.returns
returns c = nothing_put c.args.words.now c.all_words.ensures
