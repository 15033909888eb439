use Rattle.state_words.proofs.DecodedLaws.{open-read}
use Rattle.state_words.proofs.open_at.Goals as goal

pub returns : goal.returns
returns c = open-read c.args.words.now c.args.w c.requires
