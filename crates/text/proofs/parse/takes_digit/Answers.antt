use borrow.Author.Tests.{lt-leb}
use Rattle.text.specs.Digits.{takes}
use Rattle.text.proofs.Reading.{takes_at}
use Rattle.text.proofs.parse.takes_digit.Goals as goal

-- A byte below 48 is no digit; for the others the test on v is that 10 v and the digit are below 2^64.
pub returns-then-b-lt48 : goal.returns-then-b-lt48
unfolding takes
returns-then-b-lt48 c = rw (lt-leb 48 c.args.b c.if-b-lt48.true)

pub returns : goal.returns
returns c =
    let x = c.args in
    takes_at x.digits x.n x.v x.b c.if-b-lt48.false
