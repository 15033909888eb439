use Rattle.names.proofs.Homes.{filled-whole}
use Rattle.bounded.proofs.Tab.{filled_none, filled-turn, filled-ends}
use lib.ListN.{length}
use mathlib.Core.Path.{refl, ◌∙◌}
use Rattle.call_mount.proofs.filling.put_numbers.Goals as goal

pub loop-p-init : goal.loop-p-init
loop-p-init c = filled_none _ _

pub loop-p-preserved : goal.loop-p-preserved
loop-p-preserved c = filled-turn (λ q. q) _ _ _ _ c.loop-p.invariant refl

pub returns : goal.returns
returns c =
    let l = c.loop-p in
    filled-ends (λ q. q) _ _ _ _ l.auto.p-end c.loop-p-test.false l.invariant ∙ filled-whole (length c.args.entries.now) (λ q. q) c.args.entries.now refl
