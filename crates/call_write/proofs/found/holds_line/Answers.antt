use borrow.Author.Tests.{lt-ltb, le-ltb}
use Rattle.call_write.proofs.found.holds_line.Goals as goal

pub returns-then-z-s : goal.returns-then-z-s
returns-then-z-s c = rw (le-ltb _ _ c.if-z-s.true)

pub returns : goal.returns
returns c = rw (lt-ltb _ _ c.if-z-s.false, ← c.held_at.ensures) c.has.ensures
