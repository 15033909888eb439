-- Leftovers of dropped rounds never show (document 02, L13): right after a mount the words of the image that are left over may be replaced
-- as one pleases. Mount gives an equal state, and the same later calls give equal answers, stores, reads, recalls and states; a mount in the
-- list stands for a power cut, as in demand 3.
use Rattle.std.specs.Prelude.{ℕ, ◌+◌, ◌<◌, ◌≤◌, List, [], ◌∷◌, ◌⊎◌, ◌≡◌, length, get_or}
use Rattle.words.specs.Words.{Bytes, word, store}
use Rattle.layout.specs.Layout.{frames, place_of, page_word, slot_word, record_word, padding_word, frame_word, line_word, entry_word, image_words}
use Rattle.entries.specs.Entries.{key_of, key_page, key_line, entry_of}
use Rattle.journal.specs.Records.{position, live_count}
use Rattle.replay.specs.Table.{no_position, last_in, slot_of}
use Rattle.state.specs.State.{own_frame}
use Rattle.refinement.specs.Stores.{World}
use Rattle.refinement.specs.Calls.{world_of}
use Rattle.refinement.specs.Recall.{frame_of}
use Rattle.refinement.specs.Run.{Call, Result, mount, exec}
use Rattle.refinement.specs.Statement.{AllLent}
use Rattle.refinement.specs.Beside.{Always, counted}

-- the first word of the committed copy of the line with this key
abbrev pub copied_word : World → ℕ → ℕ
copied_word v key =
    line_word v.st.sizes (frame_of (own_frame v.st) v.st.sizes v.st.table (key_page key) (key_line key)) (key_line key)

-- word a of the image is left over, v being a world right after a mount: its state has the header and the slots after replay
pub data Leftover (v : World) (a : ℕ) : Type 0 where
  -- one of the four words of the place where position q sits, if no live record sits there
  journal-place : (q k : ℕ) → k < 4
      → ((i : ℕ) → i < live_count v.st.sizes v.st.head v.st.tail → place_of v.st.sizes (position v.st.sizes v.st.tail i)
      ≡ place_of v.st.sizes q → ⊥)
      → a ≡ record_word v.st.sizes q + k → Leftover v a
  -- one of the three words of slot s in the slot table, if the slot has a live record
  under-record : (s k : ℕ) → s < v.st.sizes.slots → k < 3
      → (last_in v.st.table s ≡ no_position → ⊥)
      → a ≡ slot_word v.st.sizes s + k → Leftover v a
  -- the page-table word of a page that has a slot
  slotted-page : (p : ℕ) → p < v.st.sizes.pages
      → slot_of v.st.sizes v.st.table p < v.st.sizes.slots
      → a ≡ page_word p → Leftover v a
  -- padding
  padding : padding_word v.st.sizes ≤ a → a < frame_word v.st.sizes → Leftover v a
  -- one of the eight words of line l in frame f, if no page has its committed copy of line l there
  other-copy : (f l k : ℕ) → f < frames v.st.sizes → l < 64 → k < 8
      → ((p : ℕ) → p < v.st.sizes.pages → frame_of (own_frame v.st) v.st.sizes v.st.table p l ≡ f → ⊥)
      → a ≡ line_word v.st.sizes f l + k → Leftover v a
  -- one of the nine words of an entry that is not counted (document 02, L14)
  past-entries : (e k : ℕ) → counted v.st ≤ e → e < v.st.sizes.entries → k < 9 → a ≡ entry_word v.st.sizes e + k → Leftover v a
  -- one of the eight words of the committed copy of a line whose entry is counted: the entry is copied over it
  under-entry : (e k : ℕ) → e < counted v.st → k < 8 → a ≡ copied_word v (get_or v.st.wide.keys e 0) + k → Leftover v a

-- other bytes in place of a world's: as many, and every word of the image that is not left over is kept. Nothing is asked of the bytes past
-- the image
pub record Replaced (v : World) (image : List ℕ) : Type 0 where
  pub bytes : Bytes image
  pub as_long : length image ≡ length v.image
  pub kept : (a : ℕ) → a < image_words v.st.sizes → (Leftover v a → ⊥) → word image a ≡ word v.image a

-- two results of one call that nobody can tell apart
pub record Same (d e : Result) : Type 0 where
  pub number : d.number ≡ e.number
  pub stores : d.stores ≡ e.stores
  pub target : d.target ≡ e.target
  pub state : d.world.st ≡ e.world.st

-- at every call of a list, from two worlds
abbrev pub SameFrom : List Call → World → World → Type 0
SameFrom [] v u = Unit
SameFrom (c ∷ cs) v u = Same (exec c v) (exec c u) × SameFrom cs (exec c v).world (exec c u).world

-- nothing tells world u from world v, which was left by a mount: a mount is taken and gives v's state, and later calls are the same
pub record Unseen (v u : World) : Type 0 where
  pub taken : (exec mount u).number ≡ 0
  pub remounted : (exec mount u).world.st ≡ v.st
  pub later : (calls : List Call) → AllLent calls → SameFrom calls v u

-- after every list of calls and a mount
abbrev pub LeftoversNeverShow : Type 0
LeftoversNeverShow =
    Always (λ z buffer w b. let v = (exec mount w).world in (image : List ℕ) → Replaced v image → Unseen v (world_of v.st image))

-- ---- beside it: the list is as long as it can be, and any word may stand there

-- word a is one that a mount or a recall goes by: of the header (which under layout 1 has two that are not read), of a live record, of a slot without one,
-- of the page table for a page without a slot, of an entry that is counted, of the committed copy of a line without such an entry
pub data Needed (v : World) (a : ℕ) : Type 0 where
  header : a < 8 → Needed v a
  live-record : (i k : ℕ) → i < live_count v.st.sizes v.st.head v.st.tail → k < 4
      → a ≡ record_word v.st.sizes (position v.st.sizes v.st.tail i) + k → Needed v a
  slot-table : (s k : ℕ) → s < v.st.sizes.slots → k < 3 → last_in v.st.table s ≡ no_position → a ≡ slot_word v.st.sizes s + k → Needed v a
  page-table : (p : ℕ) → p < v.st.sizes.pages → slot_of v.st.sizes v.st.table p ≡ v.st.sizes.slots → a ≡ page_word p → Needed v a
  counted-entry : (e k : ℕ) → e < counted v.st → k < 9 → a ≡ entry_word v.st.sizes e + k → Needed v a
  committed-copy : (p l k : ℕ) → p < v.st.sizes.pages → l < 64 → k < 8 → entry_of v.st.wide.keys (counted v.st) (key_of p l) ≡ counted v.st
      → a ≡ line_word v.st.sizes (frame_of (own_frame v.st) v.st.sizes v.st.table p l) l + k → Needed v a

-- every word of the image is left over or needed
abbrev pub EveryWord : Type 0
EveryWord = Always (λ z buffer w b. let v = (exec mount w).world in (a : ℕ) → a < image_words v.st.sizes → Leftover v a ⊎ Needed v a)

-- the image itself may stand there; and where an image may, it may with any word stored over one that is left over
pub record Scribbled (v : World) : Type 0 where
  pub none : Replaced v v.image
  pub more : (image : List ℕ) → Replaced v image → (a x : ℕ) → Leftover v a → Replaced v (store image a x)

abbrev pub AnyWord : Type 0
AnyWord = Always (λ z buffer w b. Scribbled (exec mount w).world)
