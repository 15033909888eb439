-- Row 8's rules for the slots of a state, slot by slot: what one pass tests.
use Rattle.std.specs.Prelude.{ℕ, Bool, ◌&&◌}
use Rattle.bounded.specs.Below.{all_below}
use Rattle.bounded.specs.Count.{each_once}
use Rattle.layout.specs.declared.Sizes.{Sizes}
use Rattle.layout.specs.Layout.{frames}
use Rattle.journal.specs.Slots.{shaped}
use Rattle.replay.specs.declared.Table.{Table}
use Rattle.replay.specs.Table.{slot_in, page_apart}
use Rattle.replay.specs.Map.{original_kept}
pub use Rattle.replay.specs.Map.{names_kept}

-- slot s has a shape, its page is that of no slot below it, and that page's own frame, by h, is the slot's original
abbrev pub slot_fine : (ℕ → ℕ) → Sizes → Table → ℕ → Bool
slot_fine h z t s = shaped z (slot_in t s) && (page_apart t.page s && original_kept h t s)

-- each slot is fine, and spares and own frames name each frame once
abbrev pub slots_fine : (ℕ → ℕ) → Sizes → Table → Bool
slots_fine h z t = all_below z.slots (slot_fine h z t) && each_once (frames z) (names_kept h z t)
