-- Where the stores of the operations of document 01 go, store by store, counted from 0 (document 01, "The image" and "Calls"; document 02, L6).
use Rattle.std.specs.Prelude.{ℕ, ◌+◌, ◌-◌, ◌*◌, ◌/◌, ◌%◌, ◌<◌, ◌≤◌, List, ◌≡◌, length, get_or}
use Rattle.layout.specs.declared.Sizes.{Sizes}
use Rattle.layout.specs.Layout.{Legal, layout_word, head_word, tail_word, page_word, slot_word, padding_word, frame_word, line_word, image_words}
use Rattle.state.specs.State.{State}
use Rattle.state.specs.declared.Op.TheVariants.{Write, Commit, Consolidate, Checkpoint, Format}
use Rattle.state.specs.Held.{held_slots}
use Rattle.operations.specs.Operations.{copy_count, recorded_slots}
use Rattle.refinement.specs.Frames.{other_frame, page_slot}
use Rattle.refinement.specs.Write.{write_slot}
use Rattle.refinement.specs.Consolidate.{copy_to, copy_lines}
use Rattle.replay.specs.Table.{slot_in}
use Rattle.refinement.specs.Stores.{store_at}

-- a word of a record in the journal; of a slot in the slot table
pub record InJournal (z : Sizes) (a : ℕ) : Type 0 where
  pub from : slot_word z z.slots ≤ a
  pub below : a < padding_word z

pub record InSlots (z : Sizes) (a : ℕ) : Type 0 where
  pub from : slot_word z 0 ≤ a
  pub below : a < slot_word z z.slots

-- the slots that a commit has records for, and a checkpoint slot words; the lines that a consolidation copies
abbrev pub records_of : State → ℕ → ℕ
records_of st w = length (held_slots st.sizes st.writers.held w)

abbrev pub recorded_in : State → ℕ
recorded_in st = length (recorded_slots st.sizes st.table.last)

abbrev pub copies_of : State → ℕ → ℕ
copies_of st p = copy_count (page_slot st p).bitmap

pub record Placed (st : State) (img : List ℕ) : Type 0 where
  -- a write's to one line, rising
  pub write : (w p l o n i : ℕ) → store_at st (Write w p l o n) i ≡ line_word st.sizes (other_frame (slot_in st.table (write_slot st p)) l) l + i
  -- a commit's: four for each record, then head
  pub records : (w i : ℕ) → i < 4 * records_of st w → InJournal st.sizes (store_at st (Commit w) i)
  pub head : (w i : ℕ) → 4 * records_of st w ≤ i → store_at st (Commit w) i ≡ head_word
  -- a consolidation's: eight for each line, rising, all in one frame; then the page's word, the freeing record, head
  pub copies : (p i : ℕ) → i < 8 * copies_of st p
      → store_at st (Consolidate p) i ≡ line_word st.sizes (copy_to (page_slot st p)) (get_or (copy_lines (page_slot st p)) (i / 8) 64) + i % 8
  pub lines : (p j : ℕ) → j < copies_of st p → get_or (copy_lines (page_slot st p)) j 64 < 64
  pub few : (p : ℕ) → copies_of st p ≤ 32
  pub page : (p i : ℕ) → i ≡ 8 * copies_of st p → store_at st (Consolidate p) i ≡ page_word p
  pub freeing : (p i : ℕ) → 8 * copies_of st p < i → i < 8 * copies_of st p + 5 → InJournal st.sizes (store_at st (Consolidate p) i)
  pub freed : (p i : ℕ) → 8 * copies_of st p + 5 ≤ i → store_at st (Consolidate p) i ≡ head_word
  -- a checkpoint's: three for each slot, then tail
  pub slots : (i : ℕ) → i < 3 * recorded_in st → InSlots st.sizes (store_at st Checkpoint i)
  pub tail : (i : ℕ) → 3 * recorded_in st ≤ i → store_at st Checkpoint i ≡ tail_word
  -- a format's: the layout word, the other words rising, the layout word. From store 8 on a store's number is its word's
  pub first : (i : ℕ) → i < 8 → store_at st Format i < 8
  pub rising : (i : ℕ) → 8 ≤ i → i < image_words st.sizes → store_at st Format i ≡ i
  pub last : store_at st Format (image_words st.sizes) ≡ layout_word

-- in every state with legal sizes, whatever the image
abbrev pub EachPlaced : Type 0
EachPlaced = (st : State) (img : List ℕ) → Legal st.sizes → Placed st img
