-- Demand 3, the statement. For every list of calls on a freshly formatted buffer, refused calls included, and with a mount (which stands for
-- a power cut) after any call, the store and the reference machine agree at every call.
use Rattle.std.specs.Prelude.{ℕ, ◌<◌, ◌≤◌, true, List, [], ◌∷◌, ◌⊎◌, ◌≡◌, length, drop}
use Rattle.layout.specs.declared.Sizes.{Sizes}
use Rattle.layout.specs.Layout.{sizes_ok, image_length}
use Rattle.words.specs.Words.{Bytes, over}
use Rattle.meters.specs.Meters.{modulus_of}
use Rattle.refinement.specs.Stores.{World}
use Rattle.refinement.specs.Run.{Call, Result, mount, checkpoint, free, step, begin, begin_wide, abort, commit, prepare, confirm, withdraw}
use Rattle.refinement.specs.Run.{consolidate, run, write, read, recall, exec, formatted_world, event, load}
use Rattle.refinement.specs.Reference.{Reference, blank, turn, read_line, recall_line, meter_on}

-- what one call must answer, b being the reference machine before it:
-- a taken read's target starts with the reference machine's 64 bytes, and the rest of it is unchanged;
-- every mount is taken;
-- a recall is taken, or its number is 11, and a taken one's target starts with the 64 bytes of the pages;
-- of a taken load each meter of the pages is below its modulus
abbrev pub Right : Call → Result → Reference → Type 0
Right mount d b = d.number ≡ 0
Right (read w p l target) d b = d.number ≡ 0 → d.target ≡ over target 0 (read_line b w p l)
Right (recall p l target) d b =
    ((d.number ≡ 0) ⊎ (d.number ≡ 11)) × (d.number ≡ 0 → d.target ≡ over target 0 (recall_line b p l))
Right checkpoint d b = Unit
Right free d b = Unit
Right step d b = Unit
Right (begin w) d b = Unit
Right (begin_wide w) d b = Unit
Right (abort w) d b = Unit
Right (commit w) d b = Unit
Right (prepare w) d b = Unit
Right (confirm w) d b = Unit
Right (withdraw w) d b = Unit
Right (consolidate p) d b = Unit
Right (run k) d b = Unit
Right (write w p l o n bytes) d b = Unit
Right (event ms k m a) d b = Unit
Right (load text) d b = d.number ≡ 0 → (m : ℕ) → m < 24 → meter_on b m < modulus_of d.target m

-- the data of a write are bytes, as those of a lent buffer are
abbrev pub Lent : Call → Type 0
Lent (write w p l o n bytes) = Bytes bytes
Lent mount = Unit
Lent checkpoint = Unit
Lent free = Unit
Lent step = Unit
Lent (begin w) = Unit
Lent (begin_wide w) = Unit
Lent (abort w) = Unit
Lent (commit w) = Unit
Lent (prepare w) = Unit
Lent (confirm w) = Unit
Lent (withdraw w) = Unit
Lent (consolidate p) = Unit
Lent (run k) = Unit
Lent (read w p l target) = Unit
Lent (recall p l target) = Unit
Lent (event ms k m a) = Unit
Lent (load text) = Unit

-- in every call of a list
abbrev pub AllLent : List Call → Type 0
AllLent [] = Unit
AllLent (c ∷ cs) = Lent c × AllLent cs

-- at every call of the list the answer is right and the bytes past the image are the buffer's
abbrev pub Agrees : ℕ → List ℕ → List Call → World → Reference → Type 0
Agrees n past [] v b = Unit
Agrees n past (c ∷ cs) v b =
    let d = exec c v in
    Right c d b × (drop n d.world.image ≡ past) × Agrees n past cs d.world (turn c d.number d.stores b)

-- the theorem: sizes are legal, the buffer is bytes and long enough, and written data are bytes
abbrev pub Demand3 : Type 0
Demand3 =
    (z : Sizes) → sizes_ok z ≡ true → (buffer : List ℕ) → Bytes buffer → image_length z ≤ length buffer
    → (calls : List Call) → AllLent calls → Agrees (image_length z) (drop (image_length z) buffer) calls (formatted_world z buffer) blank
