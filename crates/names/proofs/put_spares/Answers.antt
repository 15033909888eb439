use mathlib.Core.Path.{refl, ◌∙◌}
use lib.ListN.{length-set, get_or}
use borrow.Author.Rules.{rules}
use Rattle.bounded.proofs.Tab.{filled_none, filled-turn, filled-ends}
use Rattle.names.proofs.Homes.{filled-whole}
use Rattle.names.proofs.put_spares.Goals as goal

pub loop-s-init : goal.loop-s-init
loop-s-init c = (search rules, filled_none _ _)

pub loop-s-preserved : goal.loop-s-preserved
loop-s-preserved c = (simp length-set (search rules), filled-turn _ _ _ _ _ c.loop-s.invariant.1 refl)

pub returns : goal.returns
returns c =
    let x = c.args in
    filled-ends _ _ _ _ _ c.loop-s.auto.s-end c.loop-s-test.false c.loop-s.invariant.1 ∙ filled-whole x.z.slots (λ k. get_or x.spare.now k 0) x.names.now c.requires.1
