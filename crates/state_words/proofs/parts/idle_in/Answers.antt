use Rattle.state_words.proofs.PendingLaws.{idle-read}
use Rattle.state_words.proofs.parts.idle_in.Goals as goal

pub returns : goal.returns
returns c = idle-read c.args.words.now
