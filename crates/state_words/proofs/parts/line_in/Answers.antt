use mathlib.Core.Path.{◌∙◌}
use Rattle.state_words.proofs.PendingLaws.{line_read}
use Rattle.state_words.proofs.parts.line_in.Goals as goal

pub returns : goal.returns
returns c = c.words_at.ensures ∙ line_read c.args.words.now c.requires
