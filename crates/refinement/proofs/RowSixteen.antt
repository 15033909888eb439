-- Document 01's row 16 applies to no page of a state that row 8 accepts: a slotted page's entry is its slot's original, any other's is below F and, as entries
-- and spares name each frame once, no slot's. And no call answers 16.
use Prim.Native.Nat.{ℕ, ◌<◌}
use mathlib.Core.Bool.{Bool, true, false, not, ◌&&◌, ◌||◌}
use mathlib.Core.List.{List}
use mathlib.Core.Logic.{⊎_elim}
use mathlib.Core.Path.{◌≡◌, refl, sym, ap, ◌∙◌}
use native.Mathlib.Omega.{arith}
use lib.Dec.{leb, eqb}
use lib.ListN.{length}
use borrow.Author.Tests.{eqb-false, eq-eqb, ne_eqb, ltb-false, lt-leb}
use Rattle.bounded.specs.Rows.{refusal}
use Rattle.bounded.proofs.Below.{none_made}
use Rattle.bounded.proofs.Tests.{case_on, contradicts}
use Rattle.layout.specs.declared.Sizes.{Sizes}
use Rattle.layout.specs.Layout.{frames}
use Rattle.words.specs.Words.{word}
use Rattle.journal.specs.Slots.{no_page}
use Rattle.journal.proofs.SlotWords.{shape}
use Rattle.mount.specs.Mount.{mount_rows, mount_read, mount_of}
use Rattle.replay.specs.Table.{slot_in}
use Rattle.state.specs.State.{State, own_frame}
use Rattle.state.specs.Wide.{is_wide}
use Rattle.operations.specs.Operations.{slot_for, slotted}
use Rattle.validity.specs.Validity.{state_ok}
use Rattle.refinement.specs.Stores.{World}
use Rattle.refinement.specs.Calls.{begin_rows, begin_of, begin_wide_rows, begin_wide_of, abort_rows, abort_of, write_call_rows, write_of, commit_call_rows, commit_of, prepare_call_rows, prepare_of, confirm_call_rows, confirm_of, withdraw_of, consolidate_call_rows, consolidate_of, free_call_rows, free_of, checkpoint_call_rows, checkpoint_of, read_rows, read_row, step_rows, step_of, run_of, event_call_rows, event_of, load_rows, load_of}
use Rattle.refinement.specs.Mount.{mount_call}
use Rattle.refinement.specs.Recall.{recall_rows, recall_row}
use Rattle.refinement.specs.Run.{Call, mount, checkpoint, free, step, begin, begin_wide, abort, commit, prepare, confirm, withdraw, consolidate, run, write, read, recall, exec, event, load}
use Rattle.refinement.specs.PageMap.{frame_of_slot, frame_bad, FramesGood, NeverSixteen}
use Rattle.refinement.proofs.Lacks.{none-applies}
use Rattle.refinement.proofs.NamesOnce.{homes-apart, spare-home}
use Rattle.refinement.proofs.PageSlots.{slotted-of}
use Rattle.refinement.proofs.StateValid.{valid}
use Rattle.refinement.proofs.Valid.{map-names, map-home, map-low}

module _ (st : State) (ok : state_ok st ≡ true) (p : ℕ) (low : p < st.sizes.pages) where
  abbrev z : Sizes
  z = st.sizes

  module _ (u : slotted st p ≡ false) where
    -- a slot that has this frame for original has the page
    no-original : (s : ℕ) → s < z.slots → ((slot_in st.table s).page ≡ no_page → ⊥) → (slot_in st.table s).original ≡ own_frame st p → ⊥
    no-original s l n e =
        let q : ℕ = (slot_in st.table s).page in
        let h : q < z.pages = ⊎_elim (λ o. o.page-low) (λ f. absurd (n f.page-none)) (shape z (slot_in st.table s) ((valid st ok).slots.shapes s l)) in
        let same : q ≡ p =
        homes-apart (own_frame st) z st.table (map-names st ok) q p h low (map-home st ok q h ∙ (valid st ok).slots.kept s l n ∙ e ∙ sym (map-home st ok p low)) in
        omega (arith, slotted-of z st.table p s l same, ltb-false (slot_for st p) z.slots u)

    no_slot : (s : ℕ) → s < z.slots
        → eqb (slot_in st.table s).spare (own_frame st p) || (not (eqb (slot_in st.table s).page no_page) && eqb (slot_in st.table s).original (own_frame st p)) ≡ false
    no_slot s l =
        rw (ne_eqb (slot_in st.table s).spare (own_frame st p) (λ e. spare-home (own_frame st) z st.table (map-names st ok) s p l low (e ∙ sym (map-home st ok p low))))
        (case_on (eqb (slot_in st.table s).page no_page)
        (λ f. rw f)
        (λ f. rw (f, ne_eqb (slot_in st.table s).original (own_frame st p) (no-original s l (eqb-false (slot_in st.table s).page no_page f)))))

    none : leb (frames z) (own_frame st p) || frame_of_slot z st.table (own_frame st p) ≡ false
    unfolding frame_of_slot
    none =
        rw (lt-leb (frames z) (own_frame st p) (map-low st ok p low))
        (none_made (λ s. eqb (slot_in st.table s).spare (own_frame st p) || (not (eqb (slot_in st.table s).page no_page) && eqb (slot_in st.table s).original (own_frame st p))) z.slots no_slot)

  good : frame_bad z st.table p (own_frame st p) ≡ false
  good =
      let o = (slot_in st.table (slot_for st p)).original in
      let home = map-home st ok p low in
      case_on (slotted st p)
      (λ t. rw t (ap not (eq-eqb o (own_frame st p) (rw t at home))))
      (λ t. rw t (none t))

pub frames-good : FramesGood
frames-good st ok p low = good st ok p low

-- ---- the answers

abbrev sixteen : ℕ → Bool
sixteen n = eqb n 16

-- mount's number is that of its rows
mount-other : (img : List ℕ) → sixteen (mount_of img).row ≡ false
unfolding mount_of mount_read
mount-other img =
    let row : ℕ = refusal (mount_rows (length img) (word img)) in
    case_on (eqb row 0) (λ t. rw t) (λ t. rw t (none-applies sixteen (mount_rows (length img) (word img)) refl))

write-other : (st : State) (img : List ℕ) (w p l o n : ℕ) (bytes : List ℕ) → sixteen (refusal (write_call_rows st img w p l o n bytes)) ≡ false
write-other st img w p l o n bytes =
    none-applies sixteen (write_call_rows st img w p l o n bytes) (case_on (is_wide st.wide w) (λ t. rw t) (λ t. rw t))

other : (c : Call) (v : World) → sixteen (exec c v).number ≡ false
unfolding exec begin_of begin_wide_of abort_of write_of commit_of prepare_of confirm_of withdraw_of consolidate_of free_of checkpoint_of event_of load_of read_row step_of run_of mount_call recall_row
other mount v = mount-other v.image
other checkpoint v = none-applies sixteen (checkpoint_call_rows v.st v.image) refl
other free v = none-applies sixteen (free_call_rows v.st v.image) refl
other step v = none-applies sixteen (step_rows v.st v.image) refl
other (begin w) v = none-applies sixteen (begin_rows v.st w) refl
other (begin_wide w) v = none-applies sixteen (begin_wide_rows v.st w) refl
other (abort w) v = none-applies sixteen (abort_rows v.st w) refl
other (commit w) v = none-applies sixteen (commit_call_rows v.st v.image w) refl
other (prepare w) v = none-applies sixteen (prepare_call_rows v.st v.image w) refl
other (confirm w) v = none-applies sixteen (confirm_call_rows v.st v.image w) refl
other (withdraw w) v = none-applies sixteen (confirm_call_rows v.st v.image w) refl
other (consolidate p) v = none-applies sixteen (consolidate_call_rows v.st v.image p) refl
other (run k) v = none-applies sixteen (step_rows v.st v.image) refl
other (write w p l o n bytes) v = write-other v.st v.image w p l o n bytes
other (read w p l target) v = none-applies sixteen (read_rows v.st v.image w p l target) refl
other (recall p l target) v = none-applies sixteen (recall_rows v.image p l target) refl
other (event ms k m a) v = none-applies sixteen (event_call_rows v.st v.image ms k m a) refl
other (load text) v = none-applies sixteen (load_rows v.st v.image text) refl

pub never-sixteen : NeverSixteen
never-sixteen c v e = contradicts (ap sixteen e) (other c v)
