use mathlib.Core.Path.{◌≡◌}
use Rattle.bounded.specs.Below.{first_below}
use Rattle.state.specs.Slots.{free_at, round_slot}
use Rattle.state_words.specs.Decoded.{decoded}
use Rattle.state_held.proofs.slots.free_after.Given as goal

abbrev pub invariant-loop-k : goal.invariant-loop-k
invariant-loop-k l = first_below l.k (λ i. free_at (decoded l.words).table.page (round_slot l.z l.next i)) ≡ l.k
