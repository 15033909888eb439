use Rattle.state_rules.proofs.MapParts.{entries-own}
use mathlib.Core.Path.{◌∙◌}
use Rattle.state_rules.proofs.fresh_state.map_fresh.Goals as goal

pub returns : goal.returns
returns c = c.all_own.ensures ∙ entries-own c.args.words.now c.all_words.ensures c.args.z c.requires
