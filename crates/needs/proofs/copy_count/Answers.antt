use native.Mathlib.Omega.{arith}
use borrow.Author.Tests.{le-leb, lt-leb}
use Rattle.masks.proofs.Counts.{count-lines-le}
use Rattle.operations.specs.Operations.{copy_count}
use Rattle.needs.proofs.copy_count.Goals as goal

pub overflow_sub-result : goal.overflow_sub-result
overflow_sub-result c = omega (arith, c.count-k.ensures, count-lines-le c.args.bitmap)

pub returns-then-k-le32 : goal.returns-then-k-le32
unfolding copy_count
returns-then-k-le32 c = rw (← c.count-k.ensures, le-leb _ _ c.if-k-le32.true)

pub returns-else-k-le32 : goal.returns-else-k-le32
unfolding copy_count
returns-else-k-le32 c = rw (← c.count-k.ensures, lt-leb _ _ c.if-k-le32.false)
