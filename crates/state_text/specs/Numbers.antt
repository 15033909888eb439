-- The state's numbers, as G prints them (PROBE.md).
use Rattle.std.specs.Prelude.{ℕ, ◌*◌, min, false, List, [], ◌∷◌, ◌++◌, get_or}
use Rattle.bounded.specs.Below.{one}
use Rattle.bounded.specs.Tab.{tab}
use Rattle.words.specs.Words.{part}
use Rattle.replay.specs.declared.Table.{Table}
use Rattle.state.specs.State.{State, Writers}
use Rattle.number_text.specs.Text.{each, blanked, field}
use Rattle.pending_text.specs.Numbers.{pending_numbers}

abbrev pub slot_numbers : Table → ℕ → List ℕ
slot_numbers t i = get_or t.page i 0 ∷ get_or t.original i 0 ∷ get_or t.spare i 0 ∷ get_or t.bitmap i 0 ∷ get_or t.last i 0 ∷ []

-- four open flags, then for each writer its held lines of the first n slots
abbrev pub open_numbers : Writers → List ℕ
open_numbers ws = tab 4 (λ w. one (get_or ws.opened w false))

abbrev pub held_numbers : List ℕ → ℕ → ℕ → List ℕ
held_numbers held n w = part held (16 * w) n

abbrev pub writer_numbers : Writers → ℕ → List ℕ
writer_numbers ws n = open_numbers ws ++ each 4 (held_numbers ws.held n)

abbrev pub header_numbers : State → List ℕ
header_numbers st = st.sizes.slots ∷ st.sizes.places ∷ st.sizes.entries ∷ st.head ∷ st.tail ∷ st.next ∷ []

-- entry p of the map; and key e of the wide transaction
abbrev pub entry_number : List ℕ → ℕ → List ℕ
entry_number map p = get_or map p 0 ∷ []

abbrev pub key_number : List ℕ → ℕ → List ℕ
key_number keys e = get_or keys e 0 ∷ []

-- the prepared writer and the wide one, 4 where there is none; the entries used, and the keys of the first 64 at most
abbrev pub turn_numbers : State → List ℕ
turn_numbers st = min st.writers.prepared 4 ∷ min st.wide.writer 4 ∷ st.wide.count ∷ []

abbrev pub wide_numbers : State → List ℕ
wide_numbers st = turn_numbers st ++ each (min st.wide.count 64) (key_number st.wide.keys)

-- the header past P, at most 16 slots, and the map's entries of at most 1,024 pages
abbrev pub places_numbers : State → List ℕ
places_numbers st =
    header_numbers st ++ (each (min st.sizes.slots 16) (slot_numbers st.table) ++ each (min st.sizes.pages 1024) (entry_number st.map))

abbrev pub places_field : State → List ℕ
places_field st = field st.sizes.pages ++ blanked (places_numbers st)

-- the writers, the wide transaction and the pending operation
abbrev pub work_numbers : State → List ℕ
work_numbers st = writer_numbers st.writers (min st.sizes.slots 16) ++ (wide_numbers st ++ pending_numbers st.pending)

-- the state's numbers, parted by blanks
abbrev pub state_field : State → List ℕ
state_field st = places_field st ++ blanked (work_numbers st)
