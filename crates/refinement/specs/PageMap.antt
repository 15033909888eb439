-- The page map in the state (document 02, L5). Reads and writes find a page's frame in the state: of the image they read lines of frames and entries alone.
-- So document 01's row 16, of a page whose frame is none or a slot's, stands in no table: its test is kept here, and by row 8 it is false.
use Rattle.std.specs.Prelude.{ℕ, ◌+◌, ◌*◌, ◌<◌, ◌≤◌, Bool, true, false, ◌&&◌, ◌||◌, not, cond, List, ◌≡◌, ltb, leb, eqb, length, drop}
use Rattle.bounded.specs.Below.{some_below}
use Rattle.layout.specs.declared.Sizes.{Sizes}
use Rattle.layout.specs.Layout.{frames, frame_word}
use Rattle.words.specs.Words.{store}
use Rattle.journal.specs.Slots.{no_page}
use Rattle.replay.specs.declared.Table.{Table}
use Rattle.replay.specs.Table.{slot_in, slot_of}
use Rattle.state.specs.State.{State, own_frame}
use Rattle.validity.specs.Validity.{state_ok}
use Rattle.refinement.specs.Stores.{World}
use Rattle.refinement.specs.Calls.{seen_line, finished_line, event_line, event_second, write_of, event_of, load_of, read_row, read_bytes}
use Rattle.refinement.specs.Run.{Call, exec}

-- ---- row 16

-- whether f is a frame of a slot: its spare, or an owning slot's original
unfoldable pub frame_of_slot : Sizes → Table → ℕ → Bool
frame_of_slot z t f =
    some_below z.slots (λ s. eqb (slot_in t s).spare f || (not (eqb (slot_in t s).page no_page) && eqb (slot_in t s).original f))

-- 16, of page p with the frame f: a slotted page's is its original; any other's is below F and no frame of a slot
abbrev pub frame_bad : Sizes → Table → ℕ → ℕ → Bool
frame_bad z t p f =
    cond (ltb (slot_of z t p) z.slots) (not (eqb (slot_in t (slot_of z t p)).original f)) (leb (frames z) f || frame_of_slot z t f)

-- it applies to no page of a state that row 8 accepts
abbrev pub FramesGood : Type 0
FramesGood = (st : State) → state_ok st ≡ true → (p : ℕ) → p < st.sizes.pages → frame_bad st.sizes st.table p (own_frame st p) ≡ false

-- and no call answers 16, on any state and any bytes
abbrev pub NeverSixteen : Type 0
NeverSixteen = (c : Call) (v : World) → (exec c v).number ≡ 16 → ⊥

-- ---- what reads and writes need of an image

-- two images as long as each other that agree from the first frame on
pub record SameFrames (z : Sizes) (img img' : List ℕ) : Type 0 where
  pub as_long : length img ≡ length img'
  pub frames-on : drop (8 * frame_word z) img ≡ drop (8 * frame_word z) img'

-- a line is read alike, and so is one finished for a write, a wide write or an event; so are their answers, those of a load and of a read, and its target
pub record ReadAlike (st : State) (img img' : List ℕ) : Type 0 where
  pub line : (w p l : ℕ) → seen_line st img w p l ≡ seen_line st img' w p l
  pub finished : (w p l o n : ℕ) (bytes : List ℕ) → finished_line st img w p l o n bytes ≡ finished_line st img' w p l o n bytes
  pub event-first : (ms : List ℕ) (k m a : ℕ) → event_line st img ms k m a ≡ event_line st img' ms k m a
  pub event-second : (ms : List ℕ) (k m a : ℕ) → event_second st img ms k m a ≡ event_second st img' ms k m a
  pub written : (w p l o n : ℕ) (bytes : List ℕ) → write_of st img w p l o n bytes ≡ write_of st img' w p l o n bytes
  pub event : (ms : List ℕ) (k m a : ℕ) → event_of st img ms k m a ≡ event_of st img' ms k m a
  pub loaded : (text : List ℕ) → load_of st img text ≡ load_of st img' text
  pub read-row : (w p l : ℕ) (target : List ℕ) → read_row st img w p l target ≡ read_row st img' w p l target
  pub read-bytes : (w p l : ℕ) (target : List ℕ) → read_bytes st img w p l target ≡ read_bytes st img' w p l target

-- on any state, those that row 8 accepts among them
abbrev pub FramesAlone : Type 0
FramesAlone = (st : State) (img img' : List ℕ) → SameFrames st.sizes img img' → ReadAlike st img img'

-- so any word before the first frame, one of the page table too, may be stored over, and none of them tells
abbrev pub PageTableUnread : Type 0
PageTableUnread =
    (st : State) (img : List ℕ) (a x : ℕ) → a < frame_word st.sizes → 8 * a + 8 ≤ length img → ReadAlike st img (store img a x)
