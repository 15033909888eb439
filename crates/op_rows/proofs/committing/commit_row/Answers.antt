use native.Mathlib.Omega.{arith}
use Rattle.state.proofs.Numbers.{held-le}
use Rattle.op_rows.proofs.committing.commit_row.Goals as goal

pub overflow_add-live_count : goal.overflow_add-live_count
overflow_add-live_count c = omega (arith, held-le _ _ _ _ c.held_count-n.ensures)
