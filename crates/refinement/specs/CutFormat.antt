-- A format that may lose power at any store (document 02, L6). It is asked for, which changes no byte, and then stepped: the layout word 0 first, every other
-- word rising, the layout word last. An image of W words takes W + 1 stores, and power may go before the first, between any two and after the last. What then
-- stands in the memory is the old image, an image that nobody takes for one, or the fresh image; and whatever it is, a format may be asked for again.
use Rattle.std.specs.Prelude.{ℕ, ◌<◌, ◌≤◌, true, List, [], ◌∷◌, ◌≡◌, length, drop}
use Rattle.layout.specs.declared.Sizes.{Sizes}
use Rattle.layout.specs.Layout.{sizes_ok, image_words, image_length}
use Rattle.words.specs.Words.{Bytes}
use Rattle.state.specs.State.{State}
use Rattle.refinement.specs.Stores.{World}
use Rattle.refinement.specs.Calls.{world_of}
use Rattle.refinement.specs.Mount.{no_state, mount_call, fresh_state, format_of}
use Rattle.refinement.specs.Recall.{recall_row, recall_bytes}
use Rattle.refinement.specs.Run.{Call, mount, checkpoint, free, step, begin, begin_wide, abort, commit, prepare, confirm, withdraw}
use Rattle.refinement.specs.Run.{consolidate, run, write, read, recall, event, load, exec, formatted_world, after}
use Rattle.refinement.specs.Reference.{Reference, blank}
use Rattle.refinement.specs.Statement.{AllLent, Agrees}
use Rattle.refinement.specs.Beside.{follows}

-- ---- what may happen

-- a format asked for: the state that is returned, and the bytes as they were
abbrev pub asked_format : Sizes → List ℕ → World
asked_format z buffer = world_of (format_of z buffer).state buffer

-- and k of its stores made, or all where k is more than it has
abbrev pub format_cut : Sizes → List ℕ → ℕ → World
format_cut z buffer k = (exec (run k) (asked_format z buffer)).world

-- formats asked for one after the other on what the one before left, refused ones too, each cut after so many stores
pub record Cut : Type 0 where
  pub sizes : Sizes
  pub stores : ℕ

unfoldable pub left_by : List Cut → List ℕ → List ℕ
left_by [] buffer = buffer
left_by (c ∷ cs) buffer = left_by cs (format_cut c.sizes buffer c.stores).image

-- every call that is lent a state, but step and run
abbrev pub ByState : Call → Type 0
ByState mount = ⊥
ByState step = ⊥
ByState (run k) = ⊥
ByState (recall p l target) = ⊥
ByState checkpoint = Unit {0}
ByState free = Unit {0}
ByState (begin w) = Unit {0}
ByState (begin_wide w) = Unit {0}
ByState (abort w) = Unit {0}
ByState (commit w) = Unit {0}
ByState (prepare w) = Unit {0}
ByState (confirm w) = Unit {0}
ByState (withdraw w) = Unit {0}
ByState (consolidate p) = Unit {0}
ByState (write w p l o n bytes) = Unit {0}
ByState (read w p l target) = Unit {0}
ByState (event ms k m a) = Unit {0}
ByState (load text) = Unit {0}

-- ---- the statement

-- mount turns the image back with 2, and so does every recall, whose target stays as it was
pub record Half (image : List ℕ) : Type 0 where
  pub mount-two : (mount_call image).number ≡ 2
  pub recall-two : (p l : ℕ) (target : List ℕ) → recall_row image p l target ≡ 2
  pub recall-nothing : (p l : ℕ) (target : List ℕ) → recall_bytes image p l target ≡ target

-- mount takes the image and gives the fresh state of these sizes
pub record Fresh (z : Sizes) (image : List ℕ) : Type 0 where
  pub taken : (mount_call image).number ≡ 0
  pub state : (mount_call image).state ≡ fresh_state z

-- of a format on these bytes, after k stores
pub record CutAt (z : Sizes) (buffer : List ℕ) (k : ℕ) (v : World) : Type 0 where
  -- before the first store the old bytes stand
  pub old : k ≡ 0 → v.image ≡ buffer
  -- from the first store to the last but one nobody takes them for an image
  pub half : 0 < k → k ≤ image_words z → Half v.image
  -- with the last one they are the fresh image, and the state is its state, as it was returned and as a mount finds it
  pub whole : image_words z < k → v ≡ formatted_world z buffer
  pub mounts : image_words z < k → Fresh z v.image × (v.st ≡ fresh_state z)
  -- until then every call with a state but step and run is 9
  pub nine : k ≤ image_words z → (c : Call) → ByState c → (exec c v).number ≡ 9
  -- the bytes past the image are the old ones, all of them are bytes, and there are as many: so a format may be asked for again
  pub past : drop (image_length z) v.image ≡ drop (image_length z) buffer
  pub bytes : Bytes v.image
  pub as_long : length v.image ≡ length buffer

-- for all sizes, any bytes, any formats cut before on them, and every k
abbrev pub FormatCuts : Type 0
FormatCuts =
    (z : Sizes) → sizes_ok z ≡ true → (buffer : List ℕ) → Bytes buffer → image_length z ≤ length buffer
    → (cuts : List Cut) (k : ℕ) → CutAt z (left_by cuts buffer) k (format_cut z (left_by cuts buffer) k)

-- ---- and demand 3: a format of sizes z on what a list of its calls left, cut after k stores

-- v and b are the world and the reference machine that the list reached, on a buffer formatted by sizes y. After a cut there is no state but what a mount gives
pub record Joined (y : Sizes) (buffer : List ℕ) (v : World) (b : Reference) (z : Sizes) (k : ℕ) : Type 0 where
  -- with no store made the old list goes on, from a mount
  pub goes_on : k ≡ 0 → (st : State) (more : List Call) → AllLent more
      → Agrees (image_length y) (drop (image_length y) buffer) (mount ∷ more) (world_of st (format_cut z v.image k).image) b
  -- up to the last but one no call is taken: there is nothing to do but to format
  pub none-taken : 0 < k → k ≤ image_words z → (c : Call) → (exec c (world_of no_state (format_cut z v.image k).image)).number ≡ 0 → ⊥
  -- with the last a new list starts, with the state that format returned or from a mount
  pub starts : image_words z < k → (more : List Call) → AllLent more
      → Agrees (image_length z) (drop (image_length z) v.image) more (format_cut z v.image k) blank
  pub starts-mounted : image_words z < k → (st : State) (more : List Call) → AllLent more
      → Agrees (image_length z) (drop (image_length z) v.image) (mount ∷ more) (world_of st (format_cut z v.image k).image) blank

abbrev pub JoinsLists : Type 0
JoinsLists =
    (y : Sizes) → sizes_ok y ≡ true → (buffer : List ℕ) → Bytes buffer → image_length y ≤ length buffer
    → (calls : List Call) → AllLent calls → (z : Sizes) → sizes_ok z ≡ true → image_length z ≤ length buffer → (k : ℕ)
    → Joined y buffer (after calls (formatted_world y buffer)) (follows calls (formatted_world y buffer) blank) z k
