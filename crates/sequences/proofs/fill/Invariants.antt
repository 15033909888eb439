use Prim.Native.Nat.{◌≤◌}
use mathlib.Core.Path.{◌≡◌}
use lib.ListN.{length}
use Rattle.sequences.specs.Sequences.{sequence}
use Rattle.sequences.proofs.Filled.{Left}
use Rattle.sequences.proofs.fill.Given as goal

-- At each turn the first k numbers are still to set, to the digits of what is left of i.
abbrev pub invariant-loop-k : goal.invariant-loop-k
invariant-loop-k l = (l.k ≤ length l.initial.numbers) × (length l.numbers ≡ length l.initial.numbers) × Left l.k l.rest l.numbers (sequence (length l.initial.numbers) l.i)
