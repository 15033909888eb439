use Rattle.state_words.specs.Decoded.{start, size, part, flags, decoded}
use Rattle.call_mount.proofs.filling.put_quiet.Goals as goal

-- with the words of the sizes, head, tail, and the numbers of no writer put, all else is zero
pub returns : goal.returns
unfolding decoded part flags size start
returns c = c.put_table.ensures
