use mathlib.Core.Path.{refl}
use Rattle.refinement.specs.Calls.{prepare_of}
use Rattle.call_prepare.proofs.prepare.Goals as goal

pub ask_for-requires : goal.ask_for-requires
ask_for-requires c = (refl, λ wide fresh. refl)

pub returns : goal.returns
unfolding prepare_of
returns c = c.ask_for.ensures
