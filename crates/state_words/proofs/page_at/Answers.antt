use Rattle.state_words.proofs.DecodedLaws.{page-read}
use Rattle.state_words.proofs.page_at.Goals as goal

pub returns : goal.returns
returns c = page-read c.args.words.now c.args.s c.requires
