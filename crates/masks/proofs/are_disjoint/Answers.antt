use mathlib.Core.Path.{refl}
use Rattle.masks.specs.Lines.{disjoint}
use Rattle.masks.proofs.are_disjoint.Goals as goal

pub returns : goal.returns
unfolding disjoint
returns c = refl
