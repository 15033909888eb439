use Prim.Native.Nat.{◌-◌, ◌+◌, ◌%◌}
use mathlib.Core.Path.{refl, ◌∙◌}
use native.Mathlib.Omega.{arith}
use lib.ListN.{length-set}
use Rattle.sequences.proofs.Filled.{left-all, left-turn, left-none}
use Rattle.sequences.proofs.fill.Goals as goal

pub loop-k-init : goal.loop-k-init
loop-k-init c = (omega arith, refl, left-all c.args.i c.args.numbers.now)

pub loop-k-preserved : goal.loop-k-preserved
loop-k-preserved c =
    let h = c.loop-k in
    (omega arith, length-set h.numbers (h.k - 1) (h.rest % 12 + 1) ∙ h.invariant.1, left-turn h.k h.rest h.numbers _ c.loop-k-test.true (omega arith) h.invariant.2)

pub returns : goal.returns
returns c = let h = c.loop-k in left-none h.k h.rest h.numbers _ c.loop-k-test.false h.invariant.2
