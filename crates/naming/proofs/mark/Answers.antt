use Prim.Native.Nat.{ℕ}
use Rattle.naming.specs.Marks.{marked}
use Rattle.bounded.proofs.Below.{up_none, up_turn, up_ends}
use lib.ListN.{get_or, set}
use mathlib.Core.Path.{ap, ◌∙◌}
use mathlib.Core.Bool.{true}
use Prim.Native.Nat.{min}
use Rattle.naming.proofs.mark.Goals as goal

pub loop-name-init : goal.loop-name-init
loop-name-init c = up_none _ _

pub loop-name-preserved : goal.loop-name-preserved
loop-name-preserved c =
    ap (λ (k : ℕ). set c.loop-name.seen k true) c.min.ensures
    ∙ up_turn (λ k l. set l (min (get_or c.args.names.now k 0) 1040) true) _ _ _ c.loop-name.invariant

pub returns : goal.returns
unfolding marked
returns c = up_ends _ _ _ _ _ c.loop-name.auto.name-index-end c.loop-name-test.false c.loop-name.invariant
