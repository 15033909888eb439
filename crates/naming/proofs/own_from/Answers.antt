use Rattle.naming.proofs.NamingLaws.{from-none, own_turn}
use Rattle.bounded.proofs.Below.{ends}
use Rattle.bounded.specs.Below.{all_below}
use lib.ListN.{get_or}
use lib.Dec.{eqb, ltb}
use mathlib.Core.Bool.{◌||◌}
use mathlib.Core.Path.{◌∙◌}
use Rattle.naming.proofs.own_from.Goals as goal

pub loop-i-init : goal.loop-i-init
loop-i-init c = from-none (λ k. eqb (get_or c.args.names.now k 0) k) _

pub loop-i-preserved : goal.loop-i-preserved
loop-i-preserved c = own_turn c.args.names.now c.args.from c.loop-i.differ _ c.loop-i.auto.i c.loop-i.invariant

pub returns : goal.returns
returns c = c.loop-i.invariant
    ∙ ends (λ k. all_below k (λ i. ltb i c.args.from || eqb (get_or c.args.names.now i 0) i)) _ _ (c.loop-i.auto.i-end c.requires.0) c.loop-i-test.false
