-- On any state and any bytes: a refused call changes no state and no byte, whatever the number (demand 1), and no call touches a byte past the image.
use Rattle.std.specs.Prelude.{ℕ, List, [], ◌≡◌, length, drop, replicate}
use Rattle.layout.specs.declared.Sizes.{Sizes}
use Rattle.layout.specs.Layout.{image_length}
use Rattle.fresh.specs.Fresh.{format_bytes}
use Rattle.refinement.specs.Stores.{World}
use Rattle.refinement.specs.Run.{Call, Result, mount, checkpoint, free, step, begin, begin_wide, abort, commit, prepare, confirm, withdraw}
use Rattle.refinement.specs.Run.{consolidate, run, write, read, recall, event, load, exec}

-- the target that a read or a recall is lent, and of a load the moduli that a refused one gives; no other call has one
abbrev pub target_of : Call → List ℕ
target_of (read w p l target) = target
target_of (recall p l target) = target
target_of mount = []
target_of checkpoint = []
target_of free = []
target_of step = []
target_of (begin w) = []
target_of (begin_wide w) = []
target_of (abort w) = []
target_of (commit w) = []
target_of (prepare w) = []
target_of (confirm w) = []
target_of (withdraw w) = []
target_of (consolidate p) = []
target_of (run k) = []
target_of (write w p l o n bytes) = []
target_of (event ms k m a) = []
target_of (load text) = replicate 24 0

-- of what a call came to: the state and the image as they were, no store, the target as it was lent
pub record Unchanged (d : Result) (v : World) (target : List ℕ) : Type 0 where
  pub world : d.world ≡ v
  pub stores : d.stores ≡ 0
  pub target-kept : d.target ≡ target

abbrev pub RefusedUnchanged : Type 0
RefusedUnchanged = (c : Call) (v : World) → ((exec c v).number ≡ 0 → ⊥) → Unchanged (exec c v) v (target_of c)

-- ---- no call touches a byte past the image (document 01, below the table), and the buffer stays as long as it was

-- n being where the image ends
pub record SamePast (n : ℕ) (img after : List ℕ) : Type 0 where
  pub past : drop n after ≡ drop n img
  pub as_long : length after ≡ length img

pub record PastUntouched : Type 0 where
  pub format : (z : Sizes) (buffer : List ℕ) → SamePast (image_length z) buffer (format_bytes z buffer)
  pub call : (c : Call) (v : World) → SamePast (image_length v.st.sizes) v.image (exec c v).world.image
