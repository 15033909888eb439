-- The slot that a write goes to is below S, and its frame below F. In a law about code, r or f is what the code found.
use Prim.Native.Nat.{ℕ, ◌+◌, ◌<◌}
use mathlib.Core.Bool.{true}
use mathlib.Core.List.{List}
use mathlib.Core.Path.{◌≡◌, refl}
use native.Mathlib.Nat.{mod-lt}
use native.Mathlib.Omega.{arith}
use lib.Dec.{eqb, ltb}
use lib.ListN.{get_or}
use borrow.Author.Tests.{ltb-true}
use Rattle.bounded.specs.Below.{first_below}
use Rattle.bounded.proofs.Tests.{case_on}
use Rattle.layout.specs.declared.Sizes.{Sizes}
use Rattle.layout.specs.Layout.{Legal, frames}
use Rattle.replay.specs.declared.Table.{Table}
use Rattle.replay.specs.Table.{slot_in, slots_shaped}
use Rattle.state.specs.State.{State}
use Rattle.state.specs.Slots.{free_after}
use Rattle.refinement.proofs.SeenFrames.{slot-shaped, other-low}
use Rattle.refinement.specs.Write.{write_slot, slot_to_write, frame_to_write}

pub write-slot-low : (z : Sizes) (page : List ℕ) (next p r : ℕ) → Legal z → r ≡ slot_to_write z page next p → r < z.slots
write-slot-low z page next p r h e =
    let l : 0 < z.slots = omega arith in
    let s = first_below z.slots (λ k. eqb (get_or page k 0) p) in
    rw e
    (case_on (ltb s z.slots)
    (λ t. rw t (ltb-true s z.slots t))
    (λ t. rw t (mod-lt (next + free_after z page next) l)))

pub write-frame-low : (z : Sizes) (t : Table) (next p l f : ℕ) → Legal z → slots_shaped z t ≡ true → f ≡ frame_to_write z t next p l → f < frames z
write-frame-low z t next p l f h e q =
    let s = slot_to_write z t.page next p in
    rw q (other-low z (slot_in t s) l (slot-shaped z t s e (write-slot-low z t.page next p s h refl)))
