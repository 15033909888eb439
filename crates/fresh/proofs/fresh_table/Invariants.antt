use mathlib.Core.Path.{◌≡◌}
use Prim.Native.Nat.{◌+◌}
use Rattle.bounded.specs.Below.{up_to}
use Rattle.journal.specs.Slots.{free_slot}
use Rattle.replay.specs.Table.{with_slot, empty_table}
use Rattle.fresh.proofs.fresh_table.Given as goal

-- After s turns the first s slots are free ones.
abbrev pub invariant-loop-s : goal.invariant-loop-s
invariant-loop-s l = l.t ≡ up_to l.s (λ k u. with_slot u k (free_slot (l.z.pages + k))) empty_table
