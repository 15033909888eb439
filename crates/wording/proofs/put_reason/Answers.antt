use native.Mathlib.Omega.{arith}
use lib.ListN.{length}
use mathlib.Core.Path.{ap}
use Rattle.wording.proofs.Wording.{text-fits}
use Rattle.wording.proofs.put_reason.Goals as goal

pub put_text-requires : goal.put_text-requires
put_text-requires c = omega (arith, ap length c.text_of.ensures, (text-fits c.args.number).short)
