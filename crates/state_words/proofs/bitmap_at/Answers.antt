use Rattle.state_words.proofs.DecodedLaws.{bitmap-read}
use Rattle.state_words.proofs.bitmap_at.Goals as goal

pub returns : goal.returns
returns c = bitmap-read c.args.words.now c.args.s c.requires
