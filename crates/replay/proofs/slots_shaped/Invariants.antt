use mathlib.Core.Path.{◌≡◌}
use mathlib.Core.Bool.{true}
use Rattle.bounded.specs.Below.{all_below}
use Rattle.journal.specs.Slots.{shaped}
use Rattle.replay.specs.Table.{slot_in}
use Rattle.replay.proofs.slots_shaped.Given as goal

-- After s turns the first s slots have a shape.
abbrev pub invariant-loop-s : goal.invariant-loop-s
invariant-loop-s l = all_below l.s (λ k. shaped l.z (slot_in l.t k)) ≡ true
