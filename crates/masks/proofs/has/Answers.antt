use mathlib.Core.Path.{refl}
use Rattle.masks.specs.Lines.{in_mask}
use Rattle.masks.proofs.has.Goals as goal

pub returns : goal.returns
unfolding in_mask
returns c = refl
