use borrow.Author.Rules.{rules}
use Rattle.bounded.proofs.Below.{first-none, first-turn, first_stops, first_ends}
use Rattle.refusals.proofs.first_of_line.Goals as goal

pub loop-v-init : goal.loop-v-init
loop-v-init c = (search rules, first-none _)

pub returns-then-holds_line : goal.returns-then-holds_line
returns-then-holds_line c = first_stops _ _ _ _ c.loop-v-test.true c.loop-v.invariant.1 c.holds_line.ensures c.if-holds_line.true

pub loop-v-preserved : goal.loop-v-preserved
loop-v-preserved c = (search rules, first-turn _ _ _ c.loop-v.invariant.1 c.holds_line.ensures c.if-holds_line.false)

pub returns : goal.returns
returns c = first_ends _ _ _ c.loop-v.invariant.0 c.loop-v-test.false c.loop-v.invariant.1
