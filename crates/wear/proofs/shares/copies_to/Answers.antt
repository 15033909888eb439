use Rattle.std.proofs.Common.{sym}
use Rattle.wear.proofs.Counting.{copies-none, copies-some, copies-past}
use Rattle.wear.proofs.shares.copies_to.Goals as goal

pub returns-then-frame-e : goal.returns-then-frame-e
returns-then-frame-e c = let a = c.args in sym (copies-none a.e a.frame a.n c.if-frame-e.true)

pub returns-then-end-from : goal.returns-then-end-from
returns-then-end-from c =
    let a = c.args in
    copies-past a.e a.frame a.n _ _ c.if-frame-e.false c.smaller-to.ensures c.smaller-end.ensures c.if-end-from.true

pub returns-else-end-from : goal.returns-else-end-from
returns-else-end-from c =
    let a = c.args in
    copies-some a.e a.frame a.n _ _ c.if-frame-e.false c.smaller-to.ensures c.smaller-end.ensures
