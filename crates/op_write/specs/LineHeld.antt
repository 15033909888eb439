-- A line that a writer holds from now on. What is pending stays.
use Rattle.std.specs.Prelude.{ℕ, cond, List, ltb}
use Rattle.layout.specs.declared.Sizes.{Sizes}
use Rattle.replay.specs.declared.Table.{Table}
use Rattle.replay.specs.Table.{slot_in, with_slot}
use Rattle.state.specs.State.{State, own_frame}
use Rattle.state.specs.Slots.{round_slot, free_after}
use Rattle.operations.specs.Operations.{slotted}
use Rattle.refinement.specs.Write.{write_slot, write_next, write_writers}

-- the slot that a page is written by, own being the one that it has, S where it has none
abbrev pub slot_from : Sizes → ℕ → List ℕ → ℕ → ℕ
slot_from z next page own = cond (ltb own z.slots) own (round_slot z next (free_after z page next))

-- page p without a slot takes the slot to write
abbrev pub table_with : State → ℕ → Table
table_with st p =
    cond (slotted st p) st.table (with_slot st.table (write_slot st p)
    (record { page = p; original = own_frame st p; spare = (slot_in st.table (write_slot st p)).spare; bitmap = 0 }))

-- the state in which writer w holds line l of page p
abbrev pub line_held : State → ℕ → ℕ → ℕ → State
line_held st w p l =
    record {
      sizes = st.sizes;
      head = st.head;
      tail = st.tail;
      next = write_next st p;
      table = table_with st p;
      map = st.map;
      writers = write_writers st w p l;
      wide = st.wide;
      pending = st.pending;
    }
