use Prim.Native.Nat.{◌≤◌}
use mathlib.Core.Path.{◌≡◌}
use Rattle.bounded.specs.Tab.{filled}
use Rattle.calling.specs.WriteLine.{datum}
use Rattle.calling.proofs.data_of.Given as goal

abbrev pub invariant-loop-i : goal.invariant-loop-i
invariant-loop-i l = (l.i ≤ l.n) × (l.bytes ≡ filled l.i (datum l.numbers) l.initial.bytes)
