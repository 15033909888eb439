use Rattle.state_words.proofs.DecodedLaws.{entry_read}
use Rattle.state_words.proofs.entry_at.Goals as goal

pub returns : goal.returns
returns c = entry_read c.args.words.now c.args.p c.requires
