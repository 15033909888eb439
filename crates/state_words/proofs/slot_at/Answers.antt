use Rattle.state_words.proofs.DecodedLaws.{slot_read}
use Rattle.state_words.proofs.slot_at.Goals as goal

pub returns : goal.returns
returns c = slot_read c.args.words.now c.args.s c.requires
