use Rattle.state_words.proofs.PendingLaws.{made-read}
use Rattle.state_words.proofs.parts.made_in.Goals as goal

pub returns : goal.returns
returns c = made-read c.args.words.now c.requires
