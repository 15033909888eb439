use borrow.Author.Tests.{ne_eqb}
use Rattle.answers.specs.Answers.{number_of}
use Rattle.host.proofs.begin_in.Goals as goal

pub returns : goal.returns
returns c = (c.begin.ensures.state, λ n. rw (ne_eqb (number_of c.begin.result) 0 n) at c.begin.ensures.words)
