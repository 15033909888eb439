use Rattle.bounded.proofs.Below.{all_none, all-turn, all-stops, all-ends}
use Rattle.replay.proofs.pages_apart.Goals as goal

pub loop-s-init : goal.loop-s-init
loop-s-init c = all_none _

pub returns-then-not-page_apart : goal.returns-then-not-page_apart
returns-then-not-page_apart c = all-stops _ _ _ _ c.loop-s-test.true c.page_apart.ensures (c.if-not-page_apart.true)

pub loop-s-preserved : goal.loop-s-preserved
loop-s-preserved c = all-turn _ _ _ c.loop-s.invariant c.page_apart.ensures c.if-not-page_apart.false

pub returns : goal.returns
returns c = all-ends _ _ _ c.loop-s.auto.s-end c.loop-s-test.false c.loop-s.invariant
