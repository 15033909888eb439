use borrow.Author.Tests.{le-leb, lt-leb}
use borrow.Author.Rules.{rules}
use Rattle.bounded.proofs.Below.{all_none, all-turn, all-stops, all-ends}
use Rattle.entries.specs.Entries.{entries_ok}
use Rattle.entries.proofs.entries_ok.Goals as goal

pub returns-then-z-n : goal.returns-then-z-n
unfolding entries_ok
returns-then-z-n c = rw (lt-leb _ _ c.if-z-n.true)

pub loop-e-init : goal.loop-e-init
loop-e-init c = (search rules, all_none _)

pub returns-then-not-key_right : goal.returns-then-not-key_right
unfolding entries_ok
returns-then-not-key_right c =
    rw (le-leb _ _ c.loop-e.invariant.0)
    (all-stops _ _ _ _ c.loop-e-test.true c.key_right.ensures (c.if-not-key_right.true))

pub loop-e-preserved : goal.loop-e-preserved
loop-e-preserved c = (search rules, all-turn _ _ _ c.loop-e.invariant.1 c.key_right.ensures (c.if-not-key_right.false))

pub returns : goal.returns
unfolding entries_ok
returns c =
    rw (le-leb _ _ c.loop-e.invariant.0)
    (all-ends _ _ _ c.loop-e.auto.e-end c.loop-e-test.false c.loop-e.invariant.1)
