use Prim.Native.Nat.{◌≤◌}
use mathlib.Core.Bool.{true}
use mathlib.Core.Path.{◌≡◌}
use Rattle.bounded.specs.Below.{all_below}
use Rattle.entries.specs.Entries.{key_right}
use Rattle.entries.proofs.entries_ok.Given as goal

abbrev pub invariant-loop-e : goal.invariant-loop-e
invariant-loop-e l = (l.n ≤ l.z.entries) × (all_below l.e (key_right l.z l.keys) ≡ true)
