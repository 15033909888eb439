use Rattle.naming.proofs.NamingLaws.{from-none, from-turn}
use Rattle.bounded.proofs.Below.{ends}
use Rattle.bounded.specs.Below.{all_below}
use lib.Dec.{ltb}
use lib.ListN.{get_or}
use mathlib.Core.Path.{refl, ◌∙◌}
use mathlib.Core.Bool.{false, ◌||◌}
use Rattle.naming.proofs.marked_from.Goals as goal

pub loop-i-init : goal.loop-i-init
loop-i-init c = from-none (λ x. get_or c.args.seen.now x false) _

pub loop-i-preserved : goal.loop-i-preserved
loop-i-preserved c = from-turn (λ x. get_or c.args.seen.now x false) c.args.from _ _ _ c.loop-i.auto.i c.loop-i.invariant refl

pub returns : goal.returns
returns c = c.loop-i.invariant
    ∙ ends (λ k. all_below k (λ x. ltb x c.args.from || get_or c.args.seen.now x false)) _ _ (c.loop-i.auto.i-end c.requires.0) c.loop-i-test.false
