use Rattle.state_words.proofs.DecodedLaws.{key-put}
use Rattle.state_words.proofs.put_key.Goals as goal

pub returns : goal.returns
returns c = key-put c.args.words.now c.args.e c.args.key c.requires
