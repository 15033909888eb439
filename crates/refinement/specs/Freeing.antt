-- Freeing a slot (document 02, "Make a slot free"): the slot that is chosen, and what is promised of the choice and the call.
use Rattle.std.specs.Prelude.{ℕ, ◌<◌, ◌≤◌, Bool, false, ◌&&◌, not, List, ◌≡◌, get_or}
use Rattle.bounded.specs.Below.{least_below}
use Rattle.layout.specs.declared.Sizes.{Sizes}
use Rattle.state.specs.State.{State}
use Rattle.state.specs.Slots.{free_at}
use Rattle.state.specs.Held.{held_at, some_hold}
use Rattle.operations.specs.Operations.{copy_count}

-- slot s is taken and no line of it is held
abbrev pub may_free : List ℕ → List ℕ → ℕ → Bool
may_free page held s = not (free_at page s) && not (some_hold held s)

-- the lines that a consolidation of slot s copies
abbrev pub lines_to_copy : List ℕ → ℕ → ℕ
lines_to_copy bitmap s = copy_count (get_or bitmap s 0)

-- the one of them that needs the fewest lines copied, the lower slot on a tie; S where there is none
unfoldable pub slot_to_free : Sizes → List ℕ → List ℕ → List ℕ → ℕ
slot_to_free z page bitmap held = least_below z.slots (may_free page held) (lines_to_copy bitmap)

-- of a state; and the page of the slot chosen
abbrev pub freed_slot : State → ℕ
freed_slot st = slot_to_free st.sizes st.table.page st.table.bitmap st.writers.held

abbrev pub freed_page : State → ℕ
freed_page st = get_or st.table.page (freed_slot st) 0

-- ---- the same in words of facts, for a reader: slot s is taken and no writer holds a line of it
pub record Freeable (st : State) (s : ℕ) : Type 0 where
  pub low : s < st.sizes.slots
  pub taken : free_at st.table.page s ≡ false
  pub unheld : (w : ℕ) → w < 4 → held_at st.writers.held w s ≡ 0

-- and no such slot needs fewer lines copied, nor does one below it need as few
pub record Chosen (st : State) (s : ℕ) : Type 0 where
  pub freeable : Freeable st s
  pub fewest : (k : ℕ) → Freeable st k → lines_to_copy st.table.bitmap s ≤ lines_to_copy st.table.bitmap k
  pub lowest : (k : ℕ) → k < s → Freeable st k → lines_to_copy st.table.bitmap s < lines_to_copy st.table.bitmap k
