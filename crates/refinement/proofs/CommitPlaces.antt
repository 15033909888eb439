-- The slots that a commit records are below S, and a record's parts fit its words. In a law about code, r is what the code found.
use Prim.Native.Nat.{ℕ, ◌*◌, ◌<◌}
use mathlib.Core.Bool.{true}
use mathlib.Core.List.{List}
use mathlib.Core.Path.{◌≡◌, refl}
use native.Mathlib.Omega.{arith}
use lib.ListN.{get_or}
use Rattle.layout.specs.declared.Sizes.{Sizes}
use Rattle.layout.specs.Layout.{Legal}
use Rattle.replay.specs.declared.Table.{Table}
use Rattle.replay.specs.Table.{slot_in, slots_shaped}
use Rattle.journal.proofs.SlotWords.{shaped-fits}
use Rattle.state.specs.Held.{held_slots}
use Rattle.refinement.specs.Commit.{commit_record_of}
use Rattle.bounded.proofs.Nth.{nth-low}
use Rattle.refinement.proofs.SeenFrames.{slot-shaped}
use Rattle.journal.proofs.SlotWords.{RecordFits}

pub held-slot-low : (z : Sizes) (held : List ℕ) (w j r : ℕ) → Legal z → r ≡ get_or (held_slots z held w) j 0 → r < z.slots
unfolding held_slots
held-slot-low z held w j r h e = rw e (nth-low _ z.slots j (omega arith))

pub commit-record-fits : (z : Sizes) (head : ℕ) (t : Table) (held : List ℕ) (w j : ℕ) → Legal z → head < 2 * z.places → slots_shaped z t ≡ true → RecordFits (commit_record_of z head t held w j)
unfolding commit_record_of
commit-record-fits z head t held w j h q e =
    let s = get_or (held_slots z held w) j 0 in
    let l = held-slot-low z held w j s h refl in
    let f = shaped-fits z (slot_in t s) h (slot-shaped z t s e l) in
    (omega arith, omega arith, f.original, f.spare)
