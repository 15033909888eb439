use Prim.Native.Nat.{◌≤◌}
use Rattle.reasons_shown.proofs.samples.show_call.Given as goal

abbrev pub invariant-loop-number : goal.invariant-loop-number
invariant-loop-number l = l.none ≤ l.number
