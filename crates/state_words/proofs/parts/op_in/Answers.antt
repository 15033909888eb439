use Rattle.state_words.proofs.PendingLaws.{op-read}
use Rattle.state_words.proofs.parts.op_in.Goals as goal

pub returns : goal.returns
returns c = op-read c.args.words.now _ c.op_by.ensures
