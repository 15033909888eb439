use borrow.Author.Rules.{rules}
use Rattle.state_words.specs.Decoded.{start, size, part, flags, decoded}
use Rattle.workbench.proofs.starting.put_first.Goals as goal

-- with the numbers of no writer put, all else is zero
pub returns : goal.returns
unfolding decoded part flags size start
returns c = search rules
