use Rattle.state_words.specs.Decoded.{decoded, part, start, size}
use Rattle.state_words.proofs.parts.bitmaps_in.Goals as goal

pub returns : goal.returns
unfolding decoded part start size
returns c = c.words_at.ensures
