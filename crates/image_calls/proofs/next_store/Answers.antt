use mathlib.Core.Path.{ap}
use Rattle.std.proofs.Common.{Some}
use Rattle.workbench.proofs.Formed.{has-numbers}
use Rattle.image_calls.proofs.next_store.Goals as goal

pub returns : goal.returns
returns c = let (form, e) = has-numbers 0 c.args.line _ c.in_ok-numbers.ensures in rw form (ap Some c.store_told.ensures)
