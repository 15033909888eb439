use borrow.Author.Rules.{rules}
use Rattle.bounded.proofs.Least.{least-none, least-turn, least-ends, least-finds}
use Rattle.refinement.specs.Freeing.{slot_to_free}
use Rattle.call_consolidate.proofs.choosing.slot_to_free.Goals as goal

pub loop-s-init : goal.loop-s-init
loop-s-init c = least-none _ _

pub better-best-requires : goal.better-best-requires
better-best-requires c = (search rules, rw c.loop-s.invariant (least-finds _ _ _).le)

pub loop-s-preserved : goal.loop-s-preserved
loop-s-preserved c = least-turn _ _ _ _ _ c.loop-s.invariant c.better-best.ensures

pub returns : goal.returns
unfolding slot_to_free
returns c = least-ends _ _ _ _ _ c.loop-s.auto.s-end c.loop-s-test.false c.loop-s.invariant
