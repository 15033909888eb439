use mathlib.Core.Path.{◌≡◌}
use Prim.Native.Nat.{◌+◌, ◌-◌, ◌^◌, ◌<◌, ◌≤◌}
use lib.ListN.{length}
use Rattle.decimals.specs.Decimal.{decimal_of}
use Rattle.decimals.proofs.Printing.{wide}
use Rattle.decimals.proofs.width.Given as goal

-- After a turn there is one digit more, and one fewer is left to find.
abbrev pub invariant-loop-rest : goal.invariant-loop-rest
invariant-loop-rest l = (l.n ≤ 20) × (l.rest < 10 ^ (20 - l.n)) × (length (decimal_of l.v) ≡ l.n + wide (20 - l.n) l.rest)

abbrev pub decreases-loop-rest : goal.decreases-loop-rest
decreases-loop-rest l = l.rest
