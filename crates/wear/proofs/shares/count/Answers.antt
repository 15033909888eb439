use Rattle.std.proofs.Common.{◌-◌, refl, ◌∙◌, arith, length-set}
use Rattle.bounded.specs.Below.{count_below}
use Rattle.bounded.proofs.Tab.{filled_none, filled-ends}
use Rattle.wear.specs.Shares.{wear_at}
use Rattle.wear.proofs.Counting.{counted-turn}
use Rattle.wear.proofs.shares.count.Goals as goal

pub loop-k-init : goal.loop-k-init
loop-k-init c = (omega arith, refl, filled_none _ _)

pub loop-k-preserved : goal.loop-k-preserved
loop-k-preserved c =
    let at = c.loop-k in
    let k = at.k in
    let a = c.args in (
      omega arith,
      length-set at.counts k _ ∙ at.invariant.1,
      counted-turn (λ k. count_below a.n (λ i. wear_at a.e a.written i k)) a.counts.now at.counts k _ _ at.invariant.2 c.worn.ensures
          refl,
    )

pub shape_of-counts : goal.shape_of-counts
shape_of-counts c = c.loop-k.invariant.1

pub returns : goal.returns
returns c = filled-ends _ _ _ _ _ c.loop-k.invariant.0 c.loop-k-test.false c.loop-k.invariant.2
