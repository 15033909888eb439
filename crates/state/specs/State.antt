-- The state that a host keeps, as the definitions speak of it. The code keeps it as words, of which `decoded` (state_words) gives this record.
use Rattle.std.specs.Prelude.{ℕ, Bool, List, get_or}
use Rattle.layout.specs.declared.Sizes.{Sizes}
use Rattle.replay.specs.declared.Table.{Table}
use Rattle.state.specs.declared.Pending.{Pending}

-- four writers: open or not, the lines that each holds of each slot, at 16 × writer + slot, and the one that is prepared, or none
pub record Writers : Type 0 where
  pub opened : List Bool
  pub held : List ℕ
  pub prepared : ℕ

-- a wide transaction: its writer, how many entries it uses, and their keys, page × 64 + line. A writer above 3 is none
pub record Wide : Type 0 where
  pub writer : ℕ
  pub count : ℕ
  pub keys : List ℕ

-- head, tail and the next slot to try are numbers; the table has the slots with the positions of their last records; entry p of the map is page p's frame, a
-- slotted page's its slot's original (document 02, L5). The map has 1,024 entries, of which those past P are not read
pub record State : Type 0 where
  pub sizes : Sizes
  pub head : ℕ
  pub tail : ℕ
  pub next : ℕ
  pub table : Table
  pub map : List ℕ
  pub writers : Writers
  pub wide : Wide
  pub pending : Pending

-- page p's own frame by the map
abbrev pub own_frame : State → ℕ → ℕ
own_frame st p = get_or st.map p 0
