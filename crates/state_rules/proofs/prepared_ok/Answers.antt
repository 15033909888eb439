use native.Mathlib.Omega.{arith}
use Rattle.state.proofs.Numbers.{held-le}
use Rattle.state_rules.proofs.prepared_ok.Goals as goal

pub overflow_add-result : goal.overflow_add-result
overflow_add-result c = omega (arith, held-le _ _ _ _ c.held_count.ensures)
