use Rattle.state_words.proofs.DecodedLaws.{sizes-read}
use Rattle.state_words.proofs.sizes_in.Goals as goal

pub returns : goal.returns
returns c = sizes-read c.args.words.now
