use mathlib.Core.Path.{refl}
use Rattle.bounded.specs.Tab.{tab}
use Rattle.meters.specs.Meters.{fixed_modulus, fixed_moduli}
use Rattle.meters.proofs.fixed_moduli.Goals as goal

-- The table's rule is one test over its 24 entries, which antt computes.
pub returns : goal.returns
unfolding fixed_moduli fixed_modulus tab
returns c = refl
