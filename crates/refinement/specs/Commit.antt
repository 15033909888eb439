-- Commit: for each slot with held lines, rising, one record with bitmap = committed exclusive-or held, 4 stores; then
-- head.
use Rattle.std.specs.Prelude.{ℕ, ◌+◌, ◌*◌, ◌/◌, ◌%◌, false, cond, List, ltb, length, get_or, set}
use Rattle.bounded.specs.Below.{up_to}
use Rattle.layout.specs.declared.Sizes.{Sizes}
use Rattle.layout.specs.Layout.{head_word, record_word}
use Rattle.journal.specs.declared.Slot.{Slot}
use Rattle.journal.specs.declared.Record.{Record}
use Rattle.replay.specs.declared.Table.{Table}
use Rattle.journal.specs.Records.{position, word_of_record}
use Rattle.words.specs.Words.{store}
use Rattle.replay.specs.Table.{slot_in, replay}
use Rattle.masks.specs.Lines.{exclusive_or}
use Rattle.state.specs.State.{State, Writers}
use Rattle.state.specs.Held.{no_writer, held_at, held_slots}
use Rattle.refinement.specs.Settled.{settled, with_prepared}

abbrev pub commit_slots : State → ℕ → List ℕ
commit_slots st w = held_slots st.sizes st.writers.held w

-- slot s of a table with the held lines of writer w committed
abbrev pub committed_slot : Table → List ℕ → ℕ → ℕ → Slot
committed_slot t held w s =
    let u = slot_in t s in
    record { page = u.page; original = u.original; spare = u.spare; bitmap = exclusive_or u.bitmap (held_at held w s) }

-- the j-th record, by the sizes, head, table and held lines, which is what these stores read of a state
unfoldable pub commit_record_of : Sizes → ℕ → Table → List ℕ → ℕ → ℕ → Record
commit_record_of z head t held w j = let s = get_or (held_slots z held w) j 0 in record { first = head; slot = s; now = committed_slot t held w s }

-- store i: the records' words, then head
unfoldable pub commit_at_of : Sizes → ℕ → List ℕ → ℕ → ℕ → ℕ
commit_at_of z head held w i =
    cond (ltb i (4 * length (held_slots z held w))) (record_word z (position z head (i / 4)) + i % 4) head_word

unfoldable pub commit_value_of : Sizes → ℕ → Table → List ℕ → ℕ → ℕ → ℕ
commit_value_of z head t held w i =
    cond (ltb i (4 * length (held_slots z held w))) (word_of_record (commit_record_of z head t held w (i / 4)) (i % 4))
    (position z head (length (held_slots z held w)))

-- n stores from store `from` on
abbrev pub commit_stores : Sizes → ℕ → Table → List ℕ → ℕ → ℕ → ℕ → List ℕ → List ℕ
commit_stores z head t held w from n img = up_to n (λ i m. store m (commit_at_of z head held w (from + i)) (commit_value_of z head t held w (from + i))) img

-- the same of a state
abbrev pub commit_record : State → ℕ → ℕ → Record
commit_record st w = commit_record_of st.sizes st.head st.table st.writers.held w

abbrev pub commit_at : State → ℕ → ℕ → ℕ
commit_at st w = commit_at_of st.sizes st.head st.writers.held w

abbrev pub commit_value : State → ℕ → ℕ → ℕ
commit_value st w = commit_value_of st.sizes st.head st.table st.writers.held w

-- the records replace their slots
abbrev pub commit_table : State → ℕ → Table
commit_table st w = replay st.sizes st.head (length (commit_slots st w)) (commit_record st w) st.table

-- of a table only the bitmaps and the last positions of those slots change, from the first n records
abbrev pub bitmaps_after : Sizes → List ℕ → List ℕ → ℕ → ℕ → List ℕ
bitmaps_after z bitmap held w n =
    up_to n (λ j m. let s = get_or (held_slots z held w) j 0 in set m s (exclusive_or (get_or bitmap s 0) (held_at held w s))) bitmap

abbrev pub lasts_after : Sizes → ℕ → List ℕ → List ℕ → ℕ → ℕ → List ℕ
lasts_after z head last held w n = up_to n (λ j m. set m (get_or (held_slots z held w) j 0) (position z head j)) last

abbrev pub commit_head : State → ℕ → ℕ
commit_head st w = position st.sizes st.head (length (commit_slots st w))

-- a writer closed, its held lines emptied
unfoldable pub closed_writer : Sizes → Writers → ℕ → Writers
closed_writer z ws w = record { opened = set ws.opened w false; held = up_to z.slots (λ s h. set h (16 * w + s) 0) ws.held; prepared = ws.prepared }

-- the state when its last store is made: no writer is prepared
abbrev pub commit_done : State → ℕ → State
commit_done st w =
    settled st (commit_head st w) st.tail st.next (commit_table st w) (with_prepared (closed_writer st.sizes st.writers w) no_writer)

-- ---- in two parts (document 02, L8)

-- n stores of a confirm, which has one: that of head
abbrev pub confirm_stores : Sizes → ℕ → List ℕ → ℕ → ℕ → List ℕ → List ℕ
confirm_stores z head held w n img = up_to n (λ i m. store m head_word (position z head (length (held_slots z held w)))) img

-- prepare stores the records alone; then the writer is prepared, and nothing else has changed
abbrev pub prepare_done : State → ℕ → State
prepare_done st w = settled st st.head st.tail st.next st.table (with_prepared st.writers w)
