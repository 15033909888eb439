-- A consolidation's frames are below F, its lines below 64, and its record's parts fit their words.
use Prim.Native.Nat.{ℕ, ◌+◌, ◌-◌, ◌*◌, ◌%◌, ◌<◌}
use mathlib.Core.Bool.{true}
use mathlib.Core.Path.{◌≡◌, sym, ap, ◌∙◌}
use native.Mathlib.Nat.{mod-eq_of_lt}
use native.Mathlib.Omega.{arith}
use lib.Dec.{leb}
use lib.ListN.{get_or}
use borrow.Author.Tests.{ltb-true}
use Rattle.bounded.specs.Below.{up_to}
use Rattle.bounded.proofs.Tests.{case_on, row_keeps}
use Rattle.masks.specs.Lines.{count_lines}
use Rattle.masks.proofs.Counts.{line-chosen, line-chosen-not, count-lines-not}
use Rattle.layout.specs.declared.Sizes.{Sizes}
use Rattle.layout.specs.Layout.{Legal, frames}
use Rattle.journal.specs.declared.Slot.{Slot}
use Rattle.journal.specs.Records.{position}
use Rattle.replay.specs.Table.{replaced, replay}
use Rattle.journal.proofs.SlotWords.{Owning}
use Rattle.state.specs.State.{State}
use Rattle.operations.specs.Operations.{Ranged, slot_for, slotted, copy_count}
use Rattle.refinement.specs.Frames.{page_slot}
use Rattle.refinement.specs.Consolidate.{copy_to, copy_from, copy_lines, freeing_record, consolidate_table}
use Rattle.journal.proofs.SlotWords.{RecordFits}

pub copy-to-low : (z : Sizes) (t : Slot) → Owning z t → copy_to t < frames z
copy-to-low z t o = row_keeps (λ (f : ℕ). f < frames z) (leb (count_lines t.bitmap) 32) t.original t.spare o.original-low o.spare_low

pub copy-from-low : (z : Sizes) (t : Slot) → Owning z t → copy_from t < frames z
copy-from-low z t o = row_keeps (λ (f : ℕ). f < frames z) (leb (count_lines t.bitmap) 32) t.spare t.original o.spare_low o.original-low

pub copy_line : (t : Slot) (j : ℕ) → j < copy_count t.bitmap → get_or (copy_lines t) j 64 < 64
unfolding copy_count
copy_line t j l =
    case_on (leb (count_lines t.bitmap) 32)
    (λ e. rw e (line-chosen t.bitmap j (rw e at l)).below)
    (λ e. let m : j < 64 - count_lines t.bitmap = rw e at l in rw e (line-chosen-not t.bitmap j (omega (arith, count-lines-not t.bitmap))).below)

pub freeing-record-fits : (st : State) (p : ℕ) → Legal st.sizes → st.head < 2 * st.sizes.places → slotted st p ≡ true → Owning st.sizes (page_slot st p) → RecordFits (freeing_record st p 0)
unfolding freeing_record
freeing-record-fits st p h q s o =
    let l = ltb-true (slot_for st p) st.sizes.slots s in
    (omega arith, omega arith, omega arith, omega (arith, copy-from-low st.sizes (page_slot st p) o))

-- a position is where it is: the first new record goes to head
pub consolidate-table : (st : State) (p : ℕ) → Ranged st → replaced st.table (freeing_record st p 0) st.head ≡ consolidate_table st p
unfolding replay up_to
consolidate-table st p h =
    let z : st.head + 0 ≡ st.head = omega arith in
    let e : position st.sizes st.head 0 ≡ st.head = ap (λ (n : ℕ). n % (2 * st.sizes.places)) z ∙ mod-eq_of_lt h.head-low in
    ap (replaced st.table (freeing_record st p 0)) (sym e)
