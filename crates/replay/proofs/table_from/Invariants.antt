use mathlib.Core.Path.{◌≡◌}
use Rattle.bounded.specs.Below.{up_to}
use Rattle.layout.specs.Layout.{slot_word}
use Rattle.words.specs.Words.{word}
use Rattle.journal.specs.Slots.{slot_from}
use Rattle.replay.specs.Table.{with_slot, empty_table}
use Rattle.replay.proofs.table_from.Given as goal

-- After s turns the first s slots are laid.
abbrev pub invariant-loop-s : goal.invariant-loop-s
invariant-loop-s l = (l.t ≡ up_to l.s (λ k u. with_slot u k (slot_from (word l.image) (slot_word l.z k))) empty_table)
