use native.Mathlib.Omega.{arith}
use Rattle.needs.proofs.Counted.{recorded-le}
use Rattle.op_rows.proofs.counting.checkpoint_needs.Goals as goal

pub overflow_mul-result : goal.overflow_mul-result
overflow_mul-result c = omega (arith, recorded-le _ _ _ c.recorded_count.ensures)

pub overflow_add-result : goal.overflow_add-result
overflow_add-result c = omega (arith, recorded-le _ _ _ c.recorded_count.ensures)
