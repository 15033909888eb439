use mathlib.Core.Path.{refl}
use Rattle.wording.specs.Words.{codes, texts}
use Rattle.wording.proofs.Tables.{lent, lent_at}
use Rattle.wording.proofs.text_of.Goals as goal

-- One test over the table.
pub returns : goal.returns
unfolding lent codes texts
returns c = simp lent_at refl
