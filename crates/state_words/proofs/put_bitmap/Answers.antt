use Rattle.state_words.proofs.DecodedLaws.{bitmap-put}
use Rattle.state_words.proofs.put_bitmap.Goals as goal

pub returns : goal.returns
returns c = bitmap-put c.args.words.now c.args.s c.requires c.args.m
