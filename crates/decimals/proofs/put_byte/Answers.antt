use mathlib.Core.Path.{refl}
use Rattle.words.proofs.Over.{set-over}
use Rattle.decimals.proofs.put_byte.Goals as goal

-- The byte that is set is a list of one, laid over.
pub returns : goal.returns
returns c = record { target_after = set-over c.args.target.now c.args.at c.args.b c.requires; value = refl }
