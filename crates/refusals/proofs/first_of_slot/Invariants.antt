use Prim.Native.Nat.{◌≤◌}
use mathlib.Core.Path.{◌≡◌}
use Rattle.bounded.specs.Below.{first_below}
use Rattle.state_words.specs.Decoded.{decoded}
use Rattle.refusals.specs.Met.{holds_slot}
use Rattle.refusals.proofs.first_of_slot.Given as goal

abbrev pub invariant-loop-v : goal.invariant-loop-v
invariant-loop-v l = (l.v ≤ 4) × (first_below l.v (holds_slot (decoded l.words).writers.held l.s) ≡ l.v)
