-- Consolidate: k is the number of ones in the bitmap. If k ≤ 32, those k lines go from spare to original; otherwise the
-- 64 − k others go from original to spare and the two frames change roles. Then the page-table word, a record that frees
-- the slot, and head. The map changes with the last store (document 02, L5).
use Rattle.std.specs.Prelude.{ℕ, ◌+◌, ◌-◌, ◌*◌, ◌/◌, ◌%◌, ◌<◌, Bool, true, cond, List, ◌≡◌, ltb, leb, eqb, get_or, set}
use Rattle.bounded.specs.Below.{up_to}
use Rattle.layout.specs.declared.Sizes.{Sizes}
use Rattle.layout.specs.Layout.{Legal, head_word, page_word, record_word, line_word}
use Rattle.words.specs.Words.{word, store}
use Rattle.journal.specs.declared.Slot.{Slot}
use Rattle.journal.specs.declared.Record.{Record}
use Rattle.replay.specs.declared.Table.{Table}
use Rattle.journal.specs.Slots.{free_slot}
use Rattle.journal.specs.Records.{position, word_of_record}
use Rattle.replay.specs.Table.{slots_shaped, slot_of, replay}
use Rattle.masks.specs.Lines.{count_lines, lines_in, lines_not_in}
use Rattle.state.specs.State.{State}
use Rattle.operations.specs.Operations.{copy_count}
use Rattle.refinement.specs.Frames.{page_slot_in, page_slot}
use Rattle.refinement.specs.Settled.{settled, with_map}

-- k ≤ 32
abbrev pub is_few : Slot → Bool
is_few t = leb (count_lines t.bitmap) 32

-- the frame that the lines go to, the one that they come from, and the lines, rising
abbrev pub copy_to : Slot → ℕ
copy_to t = cond (is_few t) t.original t.spare

abbrev pub copy_from : Slot → ℕ
copy_from t = cond (is_few t) t.spare t.original

abbrev pub copy_lines : Slot → List ℕ
copy_lines t = cond (is_few t) (lines_in t.bitmap) (lines_not_in t.bitmap)

abbrev pub copy_store_count : Slot → ℕ
copy_store_count t = 8 * copy_count t.bitmap

-- the record that frees the slot of page p; its spare is the frame that the lines came from
abbrev pub freeing_record_of : Sizes → ℕ → Table → ℕ → Record
freeing_record_of z head t p = record { first = head; slot = slot_of z t p; now = free_slot (copy_from (page_slot_in z t p)) }

unfoldable pub freeing_record : State → ℕ → ℕ → Record
freeing_record st p j = freeing_record_of st.sizes st.head st.table p

-- store i, of a slot t that record e frees: 8 c for the lines, the page-table word, the record's four, head
abbrev pub consolidation_at : Sizes → ℕ → Slot → ℕ → ℕ → ℕ
consolidation_at z head t p i =
    let c = copy_store_count t in
    cond (ltb i c) (line_word z (copy_to t) (get_or (copy_lines t) (i / 8) 64) + i % 8)
    (cond (eqb i c) (page_word p)
    (cond (ltb i (c + 5)) (record_word z head + (i - (c + 1))) head_word))

abbrev pub consolidation_value : Sizes → ℕ → Slot → Record → List ℕ → ℕ → ℕ
consolidation_value z head t e img i =
    let c = copy_store_count t in
    cond (ltb i c) (word img (line_word z (copy_from t) (get_or (copy_lines t) (i / 8) 64) + i % 8))
    (cond (eqb i c) (copy_to t)
    (cond (ltb i (c + 5)) (word_of_record e (i - (c + 1))) (position z head 1)))

-- of the slot of page p
unfoldable pub consolidate_at : State → ℕ → ℕ → ℕ
consolidate_at st p i = consolidation_at st.sizes st.head (page_slot st p) p i

unfoldable pub consolidate_value : State → List ℕ → ℕ → ℕ → ℕ
consolidate_value st img p i = consolidation_value st.sizes st.head (page_slot st p) (freeing_record st p 0) img i

-- what they lean on: numbers in their ranges, slots with shapes, a page that has one
pub record Consolidates (z : Sizes) (head : ℕ) (t : Table) (p : ℕ) : Type 0 where
  pub legal : Legal z
  pub head-low : head < 2 * z.places
  pub shapes : slots_shaped z t ≡ true
  pub page-low : p < z.pages
  pub has-slot : ltb (slot_of z t p) z.slots ≡ true

-- n stores from store `from` on; of a table only the slots are read
abbrev pub consolidation_stores : Sizes → ℕ → Slot → Record → ℕ → ℕ → ℕ → List ℕ → List ℕ
consolidation_stores z head t e p from n img =
    up_to n (λ i m. store m (consolidation_at z head t p (from + i)) (consolidation_value z head t e m (from + i))) img

abbrev pub consolidate_stores : Sizes → ℕ → Table → ℕ → ℕ → ℕ → List ℕ → List ℕ
consolidate_stores z head t p from n img = consolidation_stores z head (page_slot_in z t p) (freeing_record_of z head t p) p from n img

abbrev pub consolidate_table : State → ℕ → Table
consolidate_table st p = replay st.sizes st.head 1 (freeing_record st p) st.table

-- the page's frame is then the one that the lines went to: the original, or the spare where the two change roles
abbrev pub consolidate_map : State → ℕ → List ℕ
consolidate_map st p = set st.map p (copy_to (page_slot st p))

-- the state when its last store is made
abbrev pub consolidate_done : State → ℕ → State
consolidate_done st p =
    with_map (settled st (position st.sizes st.head 1) st.tail st.next (consolidate_table st p) st.writers) (consolidate_map st p)
