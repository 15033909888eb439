use Rattle.state_words.proofs.DecodedLaws.{last-read}
use Rattle.state_words.proofs.last_at.Goals as goal

pub returns : goal.returns
returns c = last-read c.args.words.now c.args.s c.requires
