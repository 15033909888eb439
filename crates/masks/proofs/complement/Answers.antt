use mathlib.Core.Path.{refl}
use Rattle.masks.specs.Lines.{others}
use Rattle.masks.proofs.complement.Goals as goal

pub returns : goal.returns
unfolding others
returns c = refl
