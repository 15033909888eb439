use Prim.Native.Nat.{◌≤◌}
use Rattle.reasons_shown.proofs.samples.count_nothing.Given as goal

abbrev pub invariant-loop-i : goal.invariant-loop-i
invariant-loop-i l = l.count ≤ l.i
