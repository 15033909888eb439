-- Write: the finished line goes whole to the frame that is not the committed one; 8 stores, rising.
use Rattle.std.specs.Prelude.{ℕ, ◌+◌, ◌*◌, ◌%◌, Bool, cond, List, eqb, ltb, get_or, set}
use Rattle.bounded.specs.Below.{first_below, up_to}
use Rattle.layout.specs.declared.Sizes.{Sizes}
use Rattle.layout.specs.Layout.{line_word}
use Rattle.words.specs.Words.{store}
use Rattle.replay.specs.declared.Table.{Table}
use Rattle.replay.specs.Table.{slot_in, with_slot}
use Rattle.masks.specs.Lines.{with_line}
use Rattle.state.specs.State.{State, Writers, own_frame}
use Rattle.state.specs.Slots.{round_slot, free_after}
use Rattle.state.specs.Held.{held_at}
use Rattle.operations.specs.Operations.{slot_for, slotted}
use Rattle.refinement.specs.Frames.{other_frame}
use Rattle.refinement.specs.Settled.{settled}

-- the page's slot: its own, or the first free one, going round from the next slot to try
unfoldable pub write_slot : State → ℕ → ℕ
write_slot st p = cond (slotted st p) (slot_for st p) (round_slot st.sizes st.next (free_after st.sizes st.table.page st.next))

-- the same by what it reads of a state, and the frame that line l then goes to
abbrev pub slot_to_write : Sizes → List ℕ → ℕ → ℕ → ℕ
slot_to_write z page next p =
    let s = first_below z.slots (λ k. eqb (get_or page k 0) p) in
    cond (ltb s z.slots) s (round_slot z next (free_after z page next))

abbrev pub frame_to_write : Sizes → Table → ℕ → ℕ → ℕ → ℕ
frame_to_write z t next p l = other_frame (slot_in t (slot_to_write z t.page next p)) l

-- store i
abbrev pub write_at : State → ℕ → ℕ → ℕ → ℕ
write_at st p l i = line_word st.sizes (other_frame (slot_in st.table (write_slot st p)) l) l + i

abbrev pub write_value : State → ℕ → ℕ
write_value st i = get_or st.pending.line i 0

-- n stores from store `from` on
abbrev pub write_stores : State → ℕ → ℕ → ℕ → ℕ → List ℕ → List ℕ
write_stores st p l from n img = up_to n (λ i m. store m (write_at st p l (from + i)) (write_value st (from + i))) img

-- a page without a slot takes it, its frame by the map being the original, so that the map stays; the next slot to try is then the one after it
abbrev pub write_table : State → ℕ → Table
write_table st p =
    cond (slotted st p) st.table (with_slot st.table (write_slot st p)
    (record { page = p; original = own_frame st p; spare = (slot_in st.table (write_slot st p)).spare; bitmap = 0 }))

abbrev pub write_next : State → ℕ → ℕ
write_next st p = cond (slotted st p) st.next ((write_slot st p + 1) % st.sizes.slots)

-- the writers with line l of slot s held, and the line of a write
abbrev pub with_held : Writers → ℕ → ℕ → ℕ → Writers
with_held ws w s l = record { opened = ws.opened; held = set ws.held (16 * w + s) (with_line (held_at ws.held w s) l); prepared = ws.prepared }

abbrev pub write_writers : State → ℕ → ℕ → ℕ → Writers
write_writers st w p l = with_held st.writers w (write_slot st p) l

-- the state when its last store is made
abbrev pub write_done : State → ℕ → ℕ → ℕ → State
write_done st w p l = settled st st.head st.tail (write_next st p) (write_table st p) (write_writers st w p l)
