use mathlib.Core.Path.{◌∙◌}
use Rattle.state_words.proofs.PendingLaws.{second-read}
use Rattle.state_words.proofs.parts.second_in.Goals as goal

pub returns : goal.returns
returns c = c.words_at.ensures ∙ second-read c.args.words.now c.requires
