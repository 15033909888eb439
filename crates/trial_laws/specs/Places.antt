-- Where the stores of a round's operations go: that `stores_for` puts each to the part of the image that it belongs to (document 01, "The image").
use Rattle.std.specs.Prelude.{ℕ, ◌+◌, ◌<◌, ◌≤◌, ◌⊎◌, ◌≡◌}
use Rattle.layout.specs.declared.Sizes.{Sizes}
use Rattle.layout.specs.Layout.{Legal, head_word, tail_word, slot_word, padding_word, frame_word}
use Rattle.state.specs.State.{State}
use Rattle.state.specs.declared.Op.TheVariants.{Write, Commit, Consolidate, Checkpoint}
use Rattle.operations.specs.Operations.{needs}
use Rattle.refinement.specs.Stores.{store_at}

-- a word of a frame; of the journal, or head; of the page table or the slot table, or tail
abbrev pub OfFrames : Sizes → ℕ → Type 0
OfFrames z a = frame_word z ≤ a

abbrev pub OfJournal : Sizes → ℕ → Type 0
OfJournal z a = (a ≡ head_word) ⊎ ((slot_word z z.slots ≤ a) × (a < padding_word z))

abbrev pub OfTables : Sizes → ℕ → Type 0
OfTables z a = (a ≡ tail_word) ⊎ ((8 ≤ a) × (a < slot_word z z.slots))

-- store i of each operation, counted from 0: a consolidation's last six are the page-table word, the record's four and head
pub record Placed (st : State) : Type 0 where
  pub write : (w p l o n i : ℕ) → OfFrames st.sizes (store_at st (Write w p l o n) i)
  pub commit : (w i : ℕ) → OfJournal st.sizes (store_at st (Commit w) i)
  pub copies : (p i : ℕ) → i + 6 < needs st (Consolidate p) → OfFrames st.sizes (store_at st (Consolidate p) i)
  pub page : (p i : ℕ) → i + 6 ≡ needs st (Consolidate p) → p < st.sizes.pages → OfTables st.sizes (store_at st (Consolidate p) i)
  pub freeing : (p i : ℕ) → needs st (Consolidate p) < i + 6 → OfJournal st.sizes (store_at st (Consolidate p) i)
  pub checkpoint : (i : ℕ) → OfTables st.sizes (store_at st Checkpoint i)

-- in every state with legal sizes
abbrev pub StoresPlaced : Type 0
StoresPlaced = (st : State) → Legal st.sizes → Placed st
