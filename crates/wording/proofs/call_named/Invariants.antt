use Prim.Native.Nat.{◌≤◌}
use mathlib.Core.Path.{◌≡◌}
use Rattle.bounded.specs.Below.{first_below}
use Rattle.wording.specs.Calls.{call_count}
use Rattle.wording.specs.Words.{starts_with}
use Rattle.wording.proofs.call_named.Given as goal

abbrev pub invariant-loop-call : goal.invariant-loop-call
invariant-loop-call l = (l.call ≤ call_count) × (first_below l.call (starts_with l.a l.b l.d) ≡ l.call)
