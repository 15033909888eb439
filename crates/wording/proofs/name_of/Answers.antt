use mathlib.Core.Path.{refl}
use Rattle.wording.specs.Words.{codes, names}
use Rattle.wording.proofs.Tables.{lent, lent_at}
use Rattle.wording.proofs.name_of.Goals as goal

-- One test over the table.
pub returns : goal.returns
unfolding lent codes names
returns c = simp lent_at refl
