use mathlib.Core.Path.{refl}
use Rattle.script.proofs.performing.start.Goals as goal

pub returns : goal.returns
returns c = refl
