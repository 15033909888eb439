use Rattle.state_edits.proofs.Sizes.{size-put}
use Rattle.state_edits.proofs.put_size.Goals as goal

pub returns : goal.returns
returns c = size-put c.args.words.now c.all_words.ensures c.args.k c.args.v c.requires
