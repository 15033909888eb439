use Rattle.naming.proofs.NamingLaws.{from-0}
use lib.Dec.{eqb}
use lib.ListN.{get_or}
use mathlib.Core.Path.{◌∙◌}
use Rattle.naming.proofs.all_own.Goals as goal

pub returns : goal.returns
returns c = c.own_from.ensures ∙ from-0 (λ i. eqb (get_or c.args.names.now i 0) i) _
