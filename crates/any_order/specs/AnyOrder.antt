-- Stores may reach the memory in any order. Demand 3 has every store land whole and after the one before it. A memory behind a cache promises
-- less: until the program waits for its stores to arrive (a fence), any byte of any of them may be in the memory and any may not, and a power
-- cut leaves whatever mix it finds. Here a few stores, those that decide, land whole and have a fence right before and a fence right after them;
-- of all others nothing is asked. Still all that demand 3 says holds, with a cut after any store, any number of times.
use Rattle.std.specs.Prelude.{ℕ, zero, suc, ◌+◌, ◌≤◌, Bool, true, false, ◌&&◌, ◌||◌, cond, List, [], ◌∷◌, map, ◌⊎◌, ◌≡◌, leb, eqb, length, drop, get_or}
use Rattle.layout.specs.declared.Sizes.{Sizes}
use Rattle.layout.specs.Layout.{sizes_ok, image_length, layout_word, count_word}
use Rattle.words.specs.Words.{Bytes, store}
use Rattle.state.specs.State.{State}
use Rattle.state.specs.declared.Op.{Op}
use Rattle.state.specs.declared.Op.TheVariants.{Idle, Write, Commit, Consolidate, Checkpoint, Event, Prepare, Confirm, Log, Copy, Format}
use Rattle.operations.specs.Operations.{is_idle, needs}
use Rattle.refinement.specs.Stores.{World, store_at, store_value, stepped, stepped_by}
use Rattle.refinement.specs.Calls.{world_of}
use Rattle.refinement.specs.Run.{Call, Result, mount, checkpoint, free, step, begin, begin_wide, abort, commit, prepare, confirm, withdraw, consolidate}
use Rattle.refinement.specs.Run.{run, write, read, recall, exec, formatted_world, after, event, load}
use Rattle.refinement.specs.Reference.{Reference, blank, turn, recall_line}
use Rattle.refinement.specs.Statement.{Lent}
use Rattle.refinement.specs.Beside.{Always, Finds, follows}
use Rattle.refinement.specs.Demand.{Demand}
use Rattle.leftovers.specs.Leftovers.{Leftover, Same}

-- ---- which stores decide: those that a mount goes by. The state tells, so that a host knows where its fences go

-- the next store of the pending operation is its last
abbrev pub is_last : State → Op → Bool
is_last st op = eqb (st.pending.made + 1) (needs st op)

-- the next store of the pending operation op decides: the last one of a commit, a confirm, an event and a consolidation (head) and of a checkpoint
-- (tail); the first and the last of a wide commit (word 6) and of a format (the layout word); none of a write, a prepare and a
-- wide write
abbrev pub to_fence : State → Op → Bool
to_fence st Idle = false
to_fence st (Write w p l o n) = false
to_fence st (Commit w) = is_last st (Commit w)
to_fence st (Consolidate p) = is_last st (Consolidate p)
to_fence st Checkpoint = is_last st Checkpoint
to_fence st (Event k m a) = is_last st (Event k m a)
to_fence st (Prepare w) = false
to_fence st (Confirm w) = is_last st (Confirm w)
to_fence st (Log p l o n) = false
to_fence st Copy = eqb st.pending.made 0 || is_last st Copy
to_fence st Format = eqb st.pending.made 0 || is_last st Format

abbrev pub decides : State → Bool
decides st = to_fence st st.pending.op

-- the word that the next store goes to, and an image with that store made
abbrev pub next_at : World → ℕ
next_at v = store_at v.st v.st.pending.op v.st.pending.made

abbrev pub with_next : World → List ℕ → List ℕ
with_next v image = store image (next_at v) (store_value v.st v.image v.st.pending.op v.st.pending.made)

-- ---- the images that have stood since the last fence, newest first. The oldest of them is in the memory; of the others any byte may be

-- the fence right before a store that decides: all stores before it are in the memory
abbrev pub fenced_before : World → List (List ℕ) → List (List ℕ)
fenced_before v since = cond (decides v.st) (v.image ∷ []) since

-- after one store. The fence right after one that decides: it is in the memory, over whatever was there. (It lands whole: a cut between the two
-- fences is a cut before it or a cut after it)
unfoldable pub since_next : World → List (List ℕ) → List (List ℕ)
since_next v since = cond (decides v.st) (map (with_next v) (fenced_before v since)) ((stepped v).image ∷ since)

-- after n stores
unfoldable pub since_stores : ℕ → World → List (List ℕ) → List (List ℕ)
since_stores zero v since = since
since_stores (suc n) v since = since_next (stepped_by n v) (since_stores n v since)

-- the stores that a call makes: those of a step or a run, which tells them; no other call stores
abbrev pub stores_by : Call → Result → ℕ
stores_by step d = d.stores
stores_by (run k) d = d.stores
stores_by mount d = 0
stores_by checkpoint d = 0
stores_by free d = 0
stores_by (begin w) d = 0
stores_by (begin_wide w) d = 0
stores_by (abort w) d = 0
stores_by (commit w) d = 0
stores_by (prepare w) d = 0
stores_by (confirm w) d = 0
stores_by (withdraw w) d = 0
stores_by (consolidate p) d = 0
stores_by (write w p l o n bytes) d = 0
stores_by (read w p l target) d = 0
stores_by (recall p l target) d = 0
stores_by (event ms k m a) d = 0
stores_by (load text) d = 0

-- ---- a machine that makes calls and may lose power

-- the state and the image as the program reads it; the images since the last fence; the reference machine of demand 3, fed the same calls
pub record Machine : Type 0 where
  pub world : World
  pub since : List (List ℕ)
  pub reference : Reference

-- where a taken format ended, all of its stores in the memory
abbrev pub formatted_machine : Sizes → List ℕ → Machine
formatted_machine z buffer =
    let v = formatted_world z buffer in record { world = v; since = v.image ∷ []; reference = blank }

-- byte i of one of these images is x
abbrev pub StoodAt : List (List ℕ) → ℕ → ℕ → Type 0
StoodAt [] i x = ⊥
StoodAt (image ∷ images) i x = (x ≡ get_or image i 0) ⊎ StoodAt images i x

-- power may go now and leave this image: each byte of it is one that has stood there since the last fence, whatever the others are
pub record Torn (m : Machine) (image : List ℕ) : Type 0 where
  pub as_long : length image ≡ length m.world.image
  pub bytes : (i : ℕ) → StoodAt m.since i (get_or image i 0)

-- what may happen: a call of demand 3's lists; a power cut that leaves this image, and the mount after it; a fence beside those above
pub data Act : Type 0 where
  call : Call → Act
  cut : List ℕ → Act
  fence : Act

-- the data of a call are bytes, as in demand 3, and a cut leaves what it may
abbrev pub May : Act → Machine → Type 0
May (call c) m = Lent c
May (cut image) m = Torn m image
May fence m = Unit

-- after a call (a mount without a cut is a call like any other, and no fence), after a cut and its mount, and after a fence
abbrev pub acted : Act → Machine → Machine
acted (call c) m =
    let d = exec c m.world in
    record { world = d.world; since = since_stores (stores_by c d) m.world m.since; reference = turn c d.number d.stores m.reference }
acted (cut image) m =
    let d = exec mount (world_of m.world.st image) in
    record { world = d.world; since = image ∷ []; reference = turn mount d.number d.stores m.reference }
acted fence m = record { world = m.world; since = m.world.image ∷ []; reference = m.reference }

-- after a list of them, and that each may happen
unfoldable pub acted_by : List Act → Machine → Machine
acted_by [] m = m
acted_by (x ∷ xs) m = acted_by xs (acted x m)

abbrev pub AllMay : List Act → Machine → Type 0
AllMay [] m = Unit
AllMay (x ∷ xs) m = May x m × AllMay xs (acted x m)

-- the same list where every store lands in order, as in demand 3: a mount stands for a cut
abbrev pub in_order : List Act → List Call
in_order [] = []
in_order (call c ∷ xs) = c ∷ in_order xs
in_order (cut image ∷ xs) = mount ∷ in_order xs
in_order (fence ∷ xs) = in_order xs

-- ---- the statement

-- a cut that leaves this image: the mount is taken and finds the reference machine's pages; it gives the very state that it would give had all
-- stores landed; and the bytes past the image are the buffer's
pub record Survives (z : Sizes) (buffer : List ℕ) (m : Machine) (image : List ℕ) : Type 0 where
  pub finds : Finds z (world_of m.world.st image) (recall_line m.reference)
  pub state : (exec mount (world_of m.world.st image)).world.st ≡ (exec mount m.world).world.st
  pub past : drop (image_length z) image ≡ drop (image_length z) buffer

-- of the machine m that a list reaches; w and b are the world and the reference machine that the same list reaches in order
pub record Holds (z : Sizes) (buffer : List ℕ) (m : Machine) (w : World) (b : Reference) : Type 0 where
  -- all that demand 3 says
  pub demand : Demand z buffer m.world m.reference
  -- every cut that may come now is survived; one of them is demand 3's own, which leaves all stores so far
  pub survives : (image : List ℕ) → Torn m image → Survives z buffer m image
  pub all-landed : Torn m m.world.image
  -- nobody can tell m from w: the state and the reference machine are the same, and whatever call comes next has the same answer, stores, target
  -- and state
  pub state : m.world.st ≡ w.st
  pub reference : m.reference ≡ b
  pub same : (c : Call) → Same (exec c w) (exec c m.world)

-- after every list of calls, cuts and fences. A list may end anywhere, so this holds before and after each of them
abbrev pub AnyOrder : Type 0
AnyOrder =
    (z : Sizes) → sizes_ok z ≡ true → (buffer : List ℕ) → Bytes buffer → image_length z ≤ length buffer
    → (acts : List Act) → AllMay acts (formatted_machine z buffer)
    → Holds z buffer (acted_by acts (formatted_machine z buffer))
    (after (in_order acts) (formatted_world z buffer)) (follows (in_order acts) (formatted_world z buffer) blank)

-- ---- why: of each store of demand 3's own lists

-- it decides where it goes to one of the header's words 3 to 6: layout, head, tail, and how many entries count
abbrev pub ByWord : World → Type 0
ByWord v = is_idle v.st.pending.op ≡ false → decides v.st ≡ (leb layout_word (next_at v) && leb (next_at v) count_word)

abbrev pub DecidesByWord : Type 0
DecidesByWord = Always (λ z buffer v b. ByWord v)

-- any other changes nothing, or goes to a word that is left over (document 02, L13) of what a mount would find now
abbrev pub GoesAside : World → Type 0
GoesAside v =
    is_idle v.st.pending.op ≡ false → decides v.st ≡ false
    → ((stepped v).image ≡ v.image) ⊎ ((a : ℕ) × (x : ℕ) × ((stepped v).image ≡ store v.image a x) × Leftover (exec mount v).world a)

abbrev pub OthersLeft : Type 0
OthersLeft = Always (λ z buffer v b. GoesAside v)
