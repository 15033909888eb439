-- What holds of the store and the reference machine between two calls.
use Rattle.state.specs.State.{Wide, State, own_frame}
use Prim.Native.Nat.{ℕ, ◌-◌, ◌^◌, ◌<◌, ◌≤◌}
use mathlib.Core.Bool.{true, false}
use mathlib.Core.List.{List}
use mathlib.Core.Logic.{◌⊎◌}
use mathlib.Core.Path.{◌≡◌, ap, ◌∙◌}
use lib.ListN.{length, drop}
use Rattle.layout.specs.declared.Sizes.{Sizes}
use Rattle.layout.specs.Layout.{image_length}
use Rattle.image.specs.Lines.{line_bytes, line_words}
use Rattle.words.specs.Words.{Bytes, word}
use Rattle.replay.specs.declared.Table.{Table}
use Rattle.journal.specs.Slots.{free_slot}
use Rattle.replay.specs.Table.{slot_in, last_in, slot_of, home_of}
use Rattle.replay.specs.Map.{page_frames}
use Rattle.mount.proofs.View.{View, Shows}
use Rattle.mount.proofs.Verdict.{Taken}
use Rattle.replay.proofs.Tables.{Sixteen}
use Rattle.state.specs.declared.Op.{Op}
use Rattle.state.specs.declared.Op.TheVariants.{Idle, Write, Commit, Consolidate, Checkpoint, Event, Prepare, Confirm, Log, Copy, Format}
use Rattle.state.specs.Held.{no_writer, held_at}
use Rattle.state.specs.Wide.{no_wide, is_wide, some_wide}
use Rattle.operations.specs.Operations.{slot_for, needs}
use Rattle.validity.specs.Validity.{state_ok}
use Rattle.refinement.specs.Frames.{other_frame}
use Rattle.refinement.specs.Settled.{no_pending}
use Rattle.refinement.specs.Stores.{World, store_at, store_value}
use Rattle.refinement.specs.Recall.{frame_of}
use Rattle.refinement.proofs.WriterCalls.{unwide}
use Rattle.refinement.proofs.Records.{Stored}
use Rattle.refinement.specs.Reference.{Reference, none, idle, under, writing, committing, nothing, written, read_line, recall_line}
pub use Rattle.refinement.specs.Frames.{holds}

-- slot s of the state's table t is what a mount finds in d; or a write took it and nothing is committed yet, so that it is still free
-- in the image, whose page table has page p in frame r p
pub record TakenOnly (r : ℕ → ℕ) (z : Sizes) (d t : Table) (s : ℕ) : Type 0 where
  pub page-low : (slot_in t s).page < z.pages
  pub original : (slot_in t s).original ≡ r (slot_in t s).page
  pub bitmap : (slot_in t s).bitmap ≡ 0
  pub was_free : slot_in d s ≡ free_slot (slot_in t s).spare
  pub unslotted : slot_of z d (slot_in t s).page ≡ z.slots

pub record Behind (r : ℕ → ℕ) (z : Sizes) (d t : Table) : Type 0 where
  pub sixteen : Sixteen t
  pub last-same : (s : ℕ) → s < z.slots → last_in t s ≡ last_in d s
  pub slot_same : (s : ℕ) → s < z.slots → (slot_in t s ≡ slot_in d s) ⊎ TakenOnly r z d t s

-- of the image: a mount is taken and finds the state's durable part, the map has each page's home by the page table, and the committed copy of every line is
-- the reference machine's
pub record Durable (past : List ℕ) (st : State) (img : List ℕ) (b : Reference) : Type 0 where
  pub bytes : Bytes img
  pub past-kept : drop (image_length st.sizes) img ≡ past
  pub view : View
  pub shows : Shows img view
  pub mounts : Taken (length img) view
  pub sizes-same : view.sizes ≡ st.sizes
  pub head-same : view.head ≡ st.head
  pub tail-same : view.tail ≡ st.tail
  pub count_same : view.count ≡ st.wide.count
  pub behind : Behind (page_frames (word img)) st.sizes view.table st.table
  pub map-long : length st.map ≡ 1024
  pub own : (p : ℕ) → p < st.sizes.pages → own_frame st p ≡ home_of (page_frames (word img)) st.sizes st.table p
  pub committed : (p l : ℕ) → p < st.sizes.pages → l < 64 → line_bytes img st.sizes (frame_of (page_frames (word img)) st.sizes st.table p l) l ≡ recall_line b p l

-- of the writers: held lines are masks of 64 bits; the other copy of a held line is the writer's, unless it is being written; a line
-- that is not held has no unfinished writes; the records of a prepared writer are in the journal
pub record Writing (st : State) (img : List ℕ) (b : Reference) (written : ℕ → ℕ → ℕ → Type 0) : Type 0 where
  pub four : length st.writers.opened ≡ 4
  pub sixty-four : length st.writers.held ≡ 64
  pub held_low : (w s : ℕ) → w < 4 → s < st.sizes.slots → held_at st.writers.held w s < 2 ^ 64
  pub own-copy : (w p l : ℕ) → w < 4 → p < st.sizes.pages → l < 64 → (written w p l → ⊥) → holds st w p l ≡ true
      → line_bytes img st.sizes (other_frame (slot_in st.table (slot_for st p)) l) l ≡ read_line b w p l
  pub no_writes : (w p l i : ℕ) → w < 4 → p < st.sizes.pages → l < 64 → i < 64 → holds st w p l ≡ false → b.writes w p l i ≡ none
  pub ready : st.writers.prepared < 4 → Stored st img st.writers.prepared

-- there is no wide transaction in the state, nor in the reference machine
pub record Narrow (st : State) (b : Reference) : Type 0 where
  pub state : st.wide ≡ no_wide
  pub book : b.wide ≡ no_writer

-- so a mount counts no entry
pub uncounted : {past : List ℕ} (st : State) (img : List ℕ) (b : Reference) (D : Durable past st img b) → Narrow st b → D.view.count ≡ 0
uncounted st img b D n = D.count_same ∙ ap (λ (d : Wide). d.count) n.state

-- and no writer is a wide one
pub none-wide : (st : State) (b : Reference) → Narrow st b → some_wide st.wide.writer ≡ false
none-wide st b n = ap (λ (d : Wide). some_wide d.writer) n.state

pub not_wide : (st : State) (b : Reference) (w : ℕ) → Narrow st b → w < 4 → is_wide st.wide w ≡ false
not_wide st b w n l = unwide st w (none-wide st b n) l

-- nothing is pending
abbrev pub Never : ℕ → ℕ → ℕ → Type 0
Never w p l = ⊥

pub record Quiet (past : List ℕ) (st : State) (img : List ℕ) (b : Reference) : Type 0 where
  pub valid : state_ok st ≡ true
  pub pending : st.pending ≡ no_pending
  pub durable : Durable past st img b
  pub writers : Writing st img b Never
  pub work : b.work ≡ idle
  pub narrow : Narrow st b

-- an operation other than an event is pending: what the reference machine has under way, and for a write the finished line and that the line was
-- bytes before
abbrev pub Doing : State → List ℕ → Reference → Op → Type 0
Doing st img b Idle = ⊥
Doing st img b (Write w p l o n) =
    (bytes : List ℕ)
    × (Bytes bytes)
    × (n ≤ length bytes)
    × (b.work ≡ under (writing w p l o n bytes) (needs st (Write w p l o n) - st.pending.made))
    × (st.pending.line ≡ line_words (read_line (written w p l o n bytes b) w p l))
    × Bytes (read_line b w p l)
Doing st img b (Commit w) = b.work ≡ under (committing w) (needs st (Commit w) - st.pending.made)
Doing st img b (Consolidate p) = b.work ≡ under nothing (needs st (Consolidate p) - st.pending.made)
Doing st img b Checkpoint = b.work ≡ under nothing (needs st Checkpoint - st.pending.made)
Doing st img b (Event k m a) = ⊥
Doing st img b (Prepare w) = b.work ≡ under nothing (needs st (Prepare w) - st.pending.made)
Doing st img b (Confirm w) = b.work ≡ under (committing w) (needs st (Confirm w) - st.pending.made)
Doing st img b (Log p l o n) = ⊥
Doing st img b Copy = ⊥
Doing st img b Format = ⊥

-- the line that a pending write is changing
abbrev pub Changing : Op → ℕ → ℕ → ℕ → Type 0
Changing Idle v q m = ⊥
Changing (Write w p l o n) v q m = (v ≡ w) × (q ≡ p) × (m ≡ l)
Changing (Commit w) v q m = ⊥
Changing (Consolidate p) v q m = ⊥
Changing Checkpoint v q m = ⊥
Changing (Event k i a) v q m = ⊥
Changing (Prepare w) v q m = ⊥
Changing (Confirm w) v q m = ⊥
Changing (Log p l o n) v q m = ⊥
Changing Copy v q m = ⊥
Changing Format v q m = ⊥

pub record Busy (past : List ℕ) (st : State) (img : List ℕ) (b : Reference) : Type 0 where
  pub valid : state_ok st ≡ true
  pub durable : Durable past st img b
  pub writers : Writing st img b (Changing st.pending.op)
  pub landed : (j : ℕ) → j < st.pending.made → word img (store_at st st.pending.op j) ≡ store_value st img st.pending.op j
  pub doing : Doing st img b st.pending.op
  pub narrow : Narrow st b

-- between two calls
abbrev pub Related : List ℕ → World → Reference → Type 0
Related past v b = Quiet past v.st v.image b ⊎ Busy past v.st v.image b
