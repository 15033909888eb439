use Prim.Native.Nat.{◌<◌, ◌≤◌}
use mathlib.Core.Bool.{true}
use mathlib.Core.Path.{◌≡◌}
use native.Mathlib.Omega.{arith}
use borrow.Author.Tests.{le-ltb, lt-ltb}
use Rattle.bounded.proofs.Tests.{and-stops, held}
use Rattle.entries.specs.Entries.{entries_ok}
use Rattle.state.specs.Wide.{alone_open, wide_ok}
use Rattle.state_words.specs.Decoded.{decoded}
use Rattle.state_held.proofs.held.wide_ok.Lts
use Rattle.state_held.proofs.held.wide_ok.Tie
use Rattle.state_held.proofs.held.wide_ok.Reads
use mathlib.Core.Path.{ap}
use mathlib.Core.Bool.{not}
use Rattle.state_held.proofs.held.wide_ok.Goals as goal

abbrev At-Else-not-entries_ok : Type 0
At-Else-not-entries_ok = Lts.Else1 Tie.the-claims Reads.Pre Reads.Post

abbrev At-Else-at-gt3 : Type 0
At-Else-at-gt3 = Lts.Else2 Tie.the-claims Reads.Pre Reads.Post

abbrev At-Else-not-alone_open : Type 0
At-Else-not-alone_open = Lts.Else3 Tie.the-claims Reads.Pre Reads.Post

entries1 : (c : At-Else-not-entries_ok) → let a = c.before.before.args in entries_ok a.z (decoded a.words.now).wide.keys a.at.count ≡ true
entries1 c = held _ _ c.before.entries_ok.ensures (ap not c.if-not-entries_ok.false)

wide2 : (c : At-Else-at-gt3) → c.before.before.before.before.args.at.wide < 4
wide2 c = omega (arith, c.if-at-gt3.false)

alone3 : (c : At-Else-not-alone_open) → let a = c.before.before.before.before.before.before.args in alone_open (decoded a.words.now).writers.opened a.at.wide ≡ true
alone3 c = held _ _ c.before.alone_open.ensures (ap not c.if-not-alone_open.false)

pub returns-then-not-entries_ok : goal.returns-then-not-entries_ok
unfolding wide_ok
returns-then-not-entries_ok c = and-stops _ _ _ c.entries_ok.ensures (ap not c.if-not-entries_ok.true)

pub returns-then-at-gt3 : goal.returns-then-at-gt3
unfolding wide_ok
returns-then-at-gt3 c =
    let h : 4 ≤ c.args.at.wide = omega (arith, c.if-at-gt3.true) in
    rw (entries1 c.before.before, le-ltb _ _ h)

pub returns-then-not-alone_open : goal.returns-then-not-alone_open
unfolding wide_ok
returns-then-not-alone_open c = rw (entries1 c.before.before.before.before, lt-ltb _ _ (wide2 c.before.before)) (and-stops _ _ _ c.alone_open.ensures (ap not c.if-not-alone_open.true))

pub returns : goal.returns
unfolding wide_ok
returns c = rw (entries1 c.before.before.before.before.before.before, lt-ltb _ _ (wide2 c.before.before.before.before), alone3 c.before.before, c.none_held.ensures)
