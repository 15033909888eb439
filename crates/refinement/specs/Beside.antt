-- What stands beside demand 3, over the same lists: sentences on the world that a list of calls reaches on a freshly formatted buffer,
-- and on the reference machine fed the same calls. A list may end anywhere, so each holds before and after every call of a list.
use Rattle.std.specs.Prelude.{ℕ, ◌+◌, ◌*◌, ◌<◌, ◌≤◌, min, Bool, true, false, ◌&&◌, cond, List, [], ◌∷◌, ◌⊎◌, ◌≡◌, ltb, leb, length, drop}
use Rattle.words.specs.Words.{Bytes, word}
use Rattle.layout.specs.declared.Sizes.{Sizes}
use Rattle.layout.specs.Layout.{sizes_ok, image_length, page_word}
use Rattle.journal.specs.Slots.{free_slot}
use Rattle.replay.specs.Table.{slot_in, last_in}
use Rattle.state.specs.State.{State, own_frame}
use Rattle.state.specs.declared.Op.TheVariants.{Checkpoint}
use Rattle.operations.specs.Operations.{needs}
use Rattle.refinement.specs.Stores.{World, store_at, left}
use Rattle.state.specs.Wide.{is_wide}
use Rattle.refinement.specs.Wide.{is_copy, shown_line}
use Rattle.refinement.specs.Run.{Call, mount, checkpoint, step, commit, confirm, run, exec, formatted_world, after}
use Rattle.refinement.specs.Reference.{Reference, blank, turn, read_line, recall_line}
use Rattle.refinement.specs.Statement.{AllLent}

-- the reference machine after a list of calls, fed as in demand 3
unfoldable pub follows : List Call → World → Reference → Reference
follows [] v b = b
follows (c ∷ cs) v b = let d = exec c v in follows cs d.world (turn c d.number d.stores b)

-- after every list of calls, the sentence P holds of the sizes and the buffer formatted, the world reached and the reference machine
abbrev pub Always : (Sizes → List ℕ → World → Reference → Type 0) → Type 0
Always P =
    (z : Sizes) → sizes_ok z ≡ true → (buffer : List ℕ) → Bytes buffer → image_length z ≤ length buffer
    → (calls : List Call) → AllLent calls
    → P z buffer (after calls (formatted_world z buffer)) (follows calls (formatted_world z buffer) blank)

-- ---- demand 2: a mount reads back what is committed

-- the entries of a wide transaction that are committed and not yet copied: those that word 6 counts
abbrev pub counted : State → ℕ
counted st = cond (is_copy st.pending.op && ltb 0 st.pending.made) st.wide.count 0

-- line l of page p in the image, where a state says that its committed line lies
abbrev pub line_of : List ℕ → State → ℕ → ℕ → List ℕ
line_of img st p l = shown_line img (own_frame st) st.sizes st.table (counted st) st.wide.keys p l

-- a mount (which stands for a power cut) is taken and finds these lines, by page and line
pub record Finds (z : Sizes) (v : World) (lines : ℕ → ℕ → List ℕ) : Type 0 where
  pub taken : (exec mount v).number ≡ 0
  pub found : (p l : ℕ) → p < z.pages → l < 64 → line_of v.image (exec mount v).world.st p l ≡ lines p l

-- a write took slot s for a page and nothing of it is committed: the page's frame is still the one in the page table, no line is in the
-- spare, and the mounted state m has the slot free with the same spare
pub record Uncommitted (img : List ℕ) (st m : State) (s : ℕ) : Type 0 where
  pub page-low : (slot_in st.table s).page < st.sizes.pages
  pub original : (slot_in st.table s).original ≡ word img (page_word (slot_in st.table s).page)
  pub bitmap : (slot_in st.table s).bitmap ≡ 0
  pub free : slot_in m.table s ≡ free_slot (slot_in st.table s).spare

-- the mounted state m has the sizes, head, tail, last positions, committed slots and map of the state st, and finds its committed lines
pub record ReadsBack (img : List ℕ) (st m : State) : Type 0 where
  pub sizes : m.sizes ≡ st.sizes
  pub head : m.head ≡ st.head
  pub tail : m.tail ≡ st.tail
  pub last : (s : ℕ) → s < st.sizes.slots → last_in m.table s ≡ last_in st.table s
  pub slot : (s : ℕ) → s < st.sizes.slots → (slot_in m.table s ≡ slot_in st.table s) ⊎ Uncommitted img st m s
  pub map : (p : ℕ) → p < st.sizes.pages → own_frame m p ≡ own_frame st p
  pub line : (p l : ℕ) → p < st.sizes.pages → l < 64 → line_of img m p l ≡ line_of img st p l

-- after any list a mount is taken, finds the reference machine's pages, and reads the state back
abbrev pub MountReadsBack : Type 0
MountReadsBack = Always (λ z buffer v b. Finds z v (recall_line b) × ReadsBack v.image v.st (exec mount v).world.st)

-- ---- no call is turned back for a broken image, buffer or state

-- the numbers 1 to 8
abbrev pub broken : ℕ → Bool
broken n = leb 1 n && leb n 8

-- whatever call comes next, it is not answered one of these
abbrev pub NeverRefused : Type 0
NeverRefused = Always (λ z buffer v b. (c : Call) → broken (exec c v).number ≡ false)

-- ---- stores stay inside the image

-- the eight bytes of each store of the operation that is pending lie inside the image
abbrev pub StoresInside : Type 0
StoresInside =
    Always (λ z buffer v b. (i : ℕ) → i < needs v.st v.st.pending.op → 8 * store_at v.st v.st.pending.op i + 8 ≤ image_length z)

-- the bytes past the image are those of the buffer
abbrev pub PastKept : Type 0
PastKept = Always (λ z buffer v b. drop (image_length z) v.image ≡ drop (image_length z) buffer)

-- ---- a commit is whole or absent, and so is a confirm

-- the stores after which the call c by writer w has landed: all that it needs, the last of which is that of head; of a wide commit the first, that of word 6
abbrev pub deciding : World → Call → ℕ → ℕ
deciding v c w = cond (is_wide v.st.wide w) (min 1 (exec c v).stores) (exec c v).stores

-- c, a commit or a confirm by writer w, is asked for, a run of k follows, and power goes: with fewer stores made a mount finds every page as it was before
-- the call; with so many, as the writer read it
pub record Whole (z : Sizes) (v : World) (b : Reference) (c : Call) (w k : ℕ) : Type 0 where
  pub absent : k < deciding v c w → Finds z (exec (run k) (exec c v).world).world (recall_line b)
  pub landed : deciding v c w ≤ k → Finds z (exec (run k) (exec c v).world).world (read_line b w)

-- every one of the two that is taken
pub record WholeOrAbsent (z : Sizes) (v : World) (b : Reference) : Type 0 where
  pub committed : (w k : ℕ) → (exec (commit w) v).number ≡ 0 → Whole z v b (commit w) w k
  pub confirmed : (w k : ℕ) → (exec (confirm w) v).number ≡ 0 → Whole z v b (confirm w) w k

abbrev pub CommitWhole : Type 0
CommitWhole = Always (λ z buffer v b. WholeOrAbsent z v b)

-- ---- a checkpoint makes room

-- the journal lacks space for no call: whatever call comes next, a commit, a prepare, an event, a consolidation or a freeing, it is not answered 19
abbrev pub HasRoom : World → Type 0
HasRoom v = (c : Call) → (exec c v).number ≡ 19 → ⊥

-- so it is right after a checkpoint is completed: by the call that asks for one that needs no store, and, where one is under way, by the
-- step or the run that makes the last of its stores
pub record MakesRoom (v : World) : Type 0 where
  pub at_once : (exec checkpoint v).number ≡ 0 → (exec checkpoint v).stores ≡ 0 → HasRoom (exec checkpoint v).world
  pub by-step : v.st.pending.op ≡ Checkpoint → left v.st ≡ 1 → HasRoom (exec step v).world
  pub by-run : v.st.pending.op ≡ Checkpoint → (k : ℕ) → left v.st ≤ k → HasRoom (exec (run k) v).world

-- after any list
abbrev pub CheckpointMakesRoom : Type 0
CheckpointMakesRoom = Always (λ z buffer v b. MakesRoom v)
