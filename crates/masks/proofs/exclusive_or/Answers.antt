use mathlib.Core.Path.{refl}
use Rattle.masks.specs.Lines.{exclusive_or}
use Rattle.masks.proofs.exclusive_or.Goals as goal

pub returns : goal.returns
unfolding exclusive_or
returns c = refl
