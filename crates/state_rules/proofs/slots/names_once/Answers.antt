use Rattle.state_rules.proofs.MapParts.{few, parts-once}
use mathlib.Core.Path.{◌∙◌}
use Rattle.state_rules.proofs.slots.names_once.Goals as goal

pub each_once-requires : goal.each_once-requires
each_once-requires c = few c.args.words.now c.all_words.ensures c.args.z c.requires

pub returns : goal.returns
returns c = c.each_once.ensures ∙ parts-once c.args.words.now c.all_words.ensures c.args.z c.requires
