use native.Mathlib.Omega.{arith}
use lib.ListN.{length}
use mathlib.Core.Path.{ap}
use Rattle.wording.proofs.Wording.{name-fits}
use Rattle.wording.proofs.put_name.Goals as goal

pub put_text-requires : goal.put_text-requires
put_text-requires c = omega (arith, ap length c.name_of.ensures, (name-fits c.args.call).short)
