use Rattle.names.proofs.Homes.{both-once}
use Rattle.replay.specs.Map.{page_frames}
use Rattle.words.specs.Words.{word}
use mathlib.Core.Path.{◌∙◌}
use Rattle.names.proofs.put_both.Goals as goal

pub returns : goal.returns
returns c = c.each_once.ensures ∙ both-once (page_frames (word c.args.image.now)) c.args.z _ _ _ c.put_spares.ensures c.put_homes.ensures
