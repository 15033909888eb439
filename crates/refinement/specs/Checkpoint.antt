-- Checkpoint: for each slot with a live record, rising, its last record's three words go to the slot table, read from
-- the image; then tail becomes head.
use Rattle.std.specs.Prelude.{ℕ, ◌+◌, ◌*◌, ◌/◌, ◌%◌, cond, List, ltb, length, get_or}
use Rattle.bounded.specs.Below.{up_to}
use Rattle.bounded.specs.Tab.{filled}
use Rattle.layout.specs.declared.Sizes.{Sizes}
use Rattle.layout.specs.Layout.{tail_word, slot_word, record_word}
use Rattle.words.specs.Words.{word, store}
use Rattle.replay.specs.declared.Table.{Table}
use Rattle.replay.specs.Table.{no_position}
use Rattle.state.specs.State.{State}
use Rattle.operations.specs.Operations.{recorded_slots}

-- store i, by the sizes, head and last positions, which is what these stores read of a state: slot words, then tail
abbrev pub checkpoint_slot_of : Sizes → List ℕ → ℕ → ℕ
checkpoint_slot_of z last i = get_or (recorded_slots z last) (i / 3) 0

unfoldable pub checkpoint_at_of : Sizes → List ℕ → ℕ → ℕ
checkpoint_at_of z last i = cond (ltb i (3 * length (recorded_slots z last))) (slot_word z (checkpoint_slot_of z last i) + i % 3) tail_word

unfoldable pub checkpoint_value_of : Sizes → ℕ → List ℕ → List ℕ → ℕ → ℕ
checkpoint_value_of z head last img i =
    cond (ltb i (3 * length (recorded_slots z last))) (word img (record_word z (get_or last (checkpoint_slot_of z last i) no_position) + 1 + i % 3)) head

-- the same of a state
abbrev pub checkpoint_slot : State → ℕ → ℕ
checkpoint_slot st i = checkpoint_slot_of st.sizes st.table.last i

abbrev pub checkpoint_at : State → ℕ → ℕ
checkpoint_at st i = checkpoint_at_of st.sizes st.table.last i

abbrev pub checkpoint_value : State → List ℕ → ℕ → ℕ
checkpoint_value st img i = checkpoint_value_of st.sizes st.head st.table.last img i

-- n stores from store `from` on; n words from word k of the three from word a on, copied to those from word b on
abbrev pub checkpoint_stores : Sizes → ℕ → List ℕ → ℕ → ℕ → List ℕ → List ℕ
checkpoint_stores z head last from n img = up_to n (λ i m. store m (checkpoint_at_of z last (from + i)) (checkpoint_value_of z head last m (from + i))) img

abbrev pub slot_copies : ℕ → ℕ → ℕ → ℕ → List ℕ → List ℕ
slot_copies a b k n img = up_to n (λ i m. store m (b + (k + i)) (word m (a + (k + i)))) img

-- no slot has a live record
abbrev pub without_lasts : Sizes → Table → Table
without_lasts z t =
    record { page = t.page; original = t.original; spare = t.spare; bitmap = t.bitmap; last = filled z.slots (λ s. no_position) t.last }
