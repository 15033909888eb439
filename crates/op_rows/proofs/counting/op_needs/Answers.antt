use native.Mathlib.Omega.{arith}
use Rattle.state.proofs.Numbers.{held-le}
use Rattle.op_rows.proofs.counting.op_needs.Goals as goal

pub commit_needs-requires : goal.commit_needs-requires
commit_needs-requires c = omega (arith, held-le _ _ _ _ c.held_count.ensures, c.requires.0)

pub prepare_needs-requires : goal.prepare_needs-requires
prepare_needs-requires c = omega (arith, held-le _ _ _ _ c.held_count-in-Prepare.ensures, c.requires.0)
