use Rattle.wear.proofs.Counting.{wear-copies, wear-parts, wear-others, wear-writes}
use Rattle.wear.proofs.shares.worn.Goals as goal

pub returns-then-k-lt15 : goal.returns-then-k-lt15
returns-then-k-lt15 c =
    let a = c.args in
    wear-copies a.e a.written a.n a.k _ c.if-k-lt15.true c.copies_to.ensures

pub returns-then-k-lt20 : goal.returns-then-k-lt20
returns-then-k-lt20 c =
    let a = c.args in
    wear-parts a.e a.written a.n a.k _ c.if-k-lt15.false c.if-k-lt20.true c.stores_to.ensures

pub returns-then-k-eq20 : goal.returns-then-k-eq20
returns-then-k-eq20 c =
    let a = c.args in
    wear-others a.e a.written a.n a.k _ c.if-k-eq20.true c.stores_if.ensures

pub returns : goal.returns
returns c =
    let a = c.args in
    wear-writes a.e a.written a.n a.k _ c.if-k-lt20.false c.if-k-eq20.false c.stores_if-2.ensures
