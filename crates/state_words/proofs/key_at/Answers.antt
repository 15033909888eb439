use Rattle.state_words.proofs.DecodedLaws.{key-read}
use Rattle.state_words.proofs.key_at.Goals as goal

pub returns : goal.returns
returns c = key-read c.args.words.now c.args.e c.requires
