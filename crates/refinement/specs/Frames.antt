-- Where the copies of a line lie: bit l of a slot's bitmap is 0 where line l's committed copy is in the original
-- frame, 1 where it is in the spare.
use Rattle.std.specs.Prelude.{ℕ, Bool, ◌&&◌, cond, List, ltb, get_or}
use Rattle.layout.specs.declared.Sizes.{Sizes}
use Rattle.journal.specs.declared.Slot.{Slot}
use Rattle.replay.specs.declared.Table.{Table}
use Rattle.replay.specs.Table.{slot_in, slot_of}
use Rattle.masks.specs.Lines.{in_mask}
use Rattle.state.specs.State.{State, own_frame}
use Rattle.state.specs.Held.{held_at}
use Rattle.operations.specs.Operations.{slot_for, slotted}

-- the slot of a slotted page
abbrev pub page_slot_in : Sizes → Table → ℕ → Slot
page_slot_in z t p = slot_in t (slot_of z t p)

abbrev pub page_slot : State → ℕ → Slot
page_slot st p = page_slot_in st.sizes st.table p

-- slot s, with page p, of arrays
abbrev pub slot_at : ℕ → List ℕ → List ℕ → List ℕ → ℕ → Slot
slot_at p original spare bitmap s = record { page = p; original = get_or original s 0; spare = get_or spare s 0; bitmap = get_or bitmap s 0 }

-- the frame with the committed copy of line l of a slot's page, and the other one
abbrev pub committed_frame : Slot → ℕ → ℕ
committed_frame t l = cond (in_mask t.bitmap l) t.spare t.original

abbrev pub other_frame : Slot → ℕ → ℕ
other_frame t l = cond (in_mask t.bitmap l) t.original t.spare

-- the frame with the committed copy of line l of page p, h p being the page's own frame
abbrev pub frame_of : (ℕ → ℕ) → Sizes → Table → ℕ → ℕ → ℕ
frame_of h z t p l = cond (ltb (slot_of z t p) z.slots) (committed_frame (slot_in t (slot_of z t p)) l) (h p)

-- the frame that a line l is read from, f being the page's own frame, s its slot, S where it has none, t that slot, and
-- mine the lines that the reader holds of it: a held line shows the writer's own copy, any other the committed one
abbrev pub seen_at : Sizes → Slot → ℕ → ℕ → ℕ → ℕ → ℕ
seen_at z t mine s l f = cond (ltb s z.slots) (cond (in_mask mine l) (other_frame t l) (committed_frame t l)) f

-- the frame that writer w reads line l of page p from: no word of the image tells it
unfoldable pub seen_frame : State → ℕ → ℕ → ℕ → ℕ
seen_frame st w p l = seen_at st.sizes (page_slot st p) (held_at st.writers.held w (slot_for st p)) (slot_for st p) l (own_frame st p)

-- whether writer w holds line l of page p
abbrev pub holds : State → ℕ → ℕ → ℕ → Bool
holds st w p l = slotted st p && in_mask (held_at st.writers.held w (slot_for st p)) l
