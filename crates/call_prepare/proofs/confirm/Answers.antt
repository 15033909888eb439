use mathlib.Core.Path.{refl}
use Rattle.refinement.specs.Calls.{confirm_of}
use Rattle.call_prepare.proofs.confirm.Goals as goal

pub ask_for-requires : goal.ask_for-requires
ask_for-requires c = (refl, λ wide fresh. refl)

pub returns : goal.returns
unfolding confirm_of
returns c = c.ask_for.ensures
