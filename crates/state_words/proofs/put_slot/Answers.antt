use Rattle.state_words.proofs.DecodedLaws.{slot-put}
use Rattle.state_words.proofs.put_slot.Goals as goal

pub returns : goal.returns
returns c = slot-put c.args.words.now c.args.s c.args.v c.requires
