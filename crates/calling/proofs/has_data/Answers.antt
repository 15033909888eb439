use borrow.Author.Tests.{lt-leb, le-leb}
use Rattle.calling.proofs.has_data.Goals as goal

pub returns-then-count-lt5 : goal.returns-then-count-lt5
returns-then-count-lt5 c = rw (lt-leb 5 c.args.count c.if-count-lt5.true)

pub returns-then-count-gt69 : goal.returns-then-count-gt69
returns-then-count-gt69 c =
    let count = c.args.count in
    rw (le-leb 5 count c.if-count-lt5.false, lt-leb count 69 c.if-count-gt69.true)

pub returns : goal.returns
returns c =
    let count = c.args.count in
    rw (le-leb 5 count c.if-count-lt5.false, le-leb count 69 c.if-count-gt69.false) c.all_bytes.ensures
