use borrow.Author.Tests.{ne_eqb}
use Rattle.probing.proofs.lent_after.Goals as goal

pub returns-then-line-eq76 : goal.returns-then-line-eq76
returns-then-line-eq76 c = rw c.if-line-eq76.true c.lent_by.ensures

pub returns : goal.returns
returns c = rw (ne_eqb _ 76 c.if-line-eq76.false)
