-- The frames that lines are read from and written to are frames: below F.
use Prim.Native.Nat.{ℕ, ◌<◌}
use mathlib.Core.Bool.{true}
use mathlib.Core.Logic.{⊎_elim}
use mathlib.Core.Path.{◌≡◌}
use native.Mathlib.Omega.{arith}
use lib.Dec.{eqb}
use borrow.Author.Tests.{ltb-true, eqb-true}
use Rattle.bounded.proofs.Below.{all-at, first_holds}
use Rattle.bounded.proofs.Tests.{case_on, row_keeps}
use Rattle.masks.specs.Lines.{in_mask}
use Rattle.masks.proofs.Members.{in-none}
use Rattle.layout.specs.declared.Sizes.{Sizes}
use Rattle.layout.specs.Layout.{Legal, frames}
use Rattle.journal.specs.declared.Slot.{Slot}
use Rattle.replay.specs.declared.Table.{Table}
use Rattle.journal.specs.Slots.{shaped}
use Rattle.replay.specs.Table.{slot_in, slots_shaped}
use Rattle.journal.proofs.SlotWords.{Owning, Free, shape}
use Rattle.state.specs.State.{State, own_frame}
use Rattle.state.specs.Held.{held_at}
use Rattle.operations.specs.Operations.{slot_for, slotted}
use Rattle.refinement.specs.Frames.{page_slot, committed_frame, other_frame, seen_frame}

pub slot-shaped : (z : Sizes) (t : Table) (s : ℕ) → slots_shaped z t ≡ true → s < z.slots → shaped z (slot_in t s) ≡ true
slot-shaped z t s e l = all-at (λ k. shaped z (slot_in t k)) z.slots s l e

-- a free slot's bitmap is 0, so the frame that is not the committed one is its spare
pub other-low : (z : Sizes) (t : Slot) (l : ℕ) → shaped z t ≡ true → other_frame t l < frames z
other-low z t l e =
    ⊎_elim
    (λ (o : Owning z t). row_keeps (λ (f : ℕ). f < frames z) (in_mask t.bitmap l) t.original t.spare o.original-low o.spare_low)
    (λ (f : Free z t). rw (f.bitmap-none, in-none l) f.spare_low)
    (shape z t e)

-- the slot of a slotted page is an owning one
pub page-slot-owning : (st : State) (p : ℕ) → Legal st.sizes → p < st.sizes.pages → slotted st p ≡ true → slots_shaped st.sizes st.table ≡ true → Owning st.sizes (page_slot st p)
page-slot-owning st p h l s e =
    let k = slot_for st p in
    let low : k < st.sizes.slots = ltb-true k st.sizes.slots s in
    let q : (page_slot st p).page ≡ p = eqb-true (page_slot st p).page p (first_holds (λ s. eqb (slot_in st.table s).page p) st.sizes.slots low) in
    ⊎_elim
    (λ (o : Owning st.sizes (page_slot st p)). o)
    (λ (f : Free st.sizes (page_slot st p)). absurd (omega (arith, f.page-none)))
    (shape st.sizes (page_slot st p) (slot-shaped st.sizes st.table k e low))

-- the frame that a writer reads a line from is a frame, where the page's own is one
pub seen_low : (st : State) (w p l : ℕ) → Legal st.sizes → p < st.sizes.pages → slots_shaped st.sizes st.table ≡ true → own_frame st p < frames st.sizes
    → seen_frame st w p l < frames st.sizes
unfolding seen_frame
seen_low st w p l h m e own =
    let low : ℕ → Type 0 = λ (x : ℕ). x < frames st.sizes in
    let t = page_slot st p in
    case_on (slotted st p)
    (λ u.
    let o = page-slot-owning st p h m u e in
    rw u
    (row_keeps low (in_mask (held_at st.writers.held w (slot_for st p)) l) (other_frame t l) (committed_frame t l)
    (row_keeps low (in_mask t.bitmap l) t.original t.spare o.original-low o.spare_low)
    (row_keeps low (in_mask t.bitmap l) t.spare t.original o.spare_low o.original-low)))
    (λ u. rw u own)
