use borrow.Author.Rules.{rules}
use Rattle.bounded.proofs.Below.{first-none, first-turn, first_stops, first_ends}
use Rattle.wording.specs.Calls.{call_count}
use Rattle.wording.specs.Words.{starts_with, call_named}
use Rattle.wording.proofs.call_named.Goals as goal

pub loop-call-init : goal.loop-call-init
loop-call-init c = let x = c.args in (search rules, first-none (starts_with x.a x.b x.d))

pub returns-then-starts_with : goal.returns-then-starts_with
unfolding call_named
returns-then-starts_with c =
    let x = c.args in
    first_stops (starts_with x.a x.b x.d) call_count _ _ c.loop-call-test.true c.loop-call.invariant.1 c.starts_with.ensures c.if-starts_with.true

pub loop-call-preserved : goal.loop-call-preserved
loop-call-preserved c =
    let x = c.args in
    (search rules, first-turn (starts_with x.a x.b x.d) _ _ c.loop-call.invariant.1 c.starts_with.ensures c.if-starts_with.false)

pub returns : goal.returns
unfolding call_named
returns c =
    let x = c.args in
    first_ends (starts_with x.a x.b x.d) call_count _ c.loop-call.invariant.0 c.loop-call-test.false c.loop-call.invariant.1
