use native.Mathlib.Omega.{arith}
use Rattle.needs.proofs.Counted.{copy-le}
use Rattle.needs.proofs.consolidate_needs.Goals as goal

pub overflow_mul-result : goal.overflow_mul-result
overflow_mul-result c = omega (arith, copy-le _ _ c.copy_count.ensures)

pub overflow_add-result : goal.overflow_add-result
overflow_add-result c = omega (arith, copy-le _ _ c.copy_count.ensures)
