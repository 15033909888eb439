-- A slot to be freed. z and at are what the code read, s the slot that it chose and p that slot's page.
use Prim.Native.Nat.{ℕ, ◌<◌, ◌≤◌}
use mathlib.Core.List.{List}
use mathlib.Core.Path.{◌≡◌, refl, sym, ap, ◌∙◌}
use native.Mathlib.Omega.{arith}
use lib.ListN.{length, get_or, replicate}
use borrow.Author.Tests.{leb-false}
use Rattle.bounded.specs.Rows.{refusal}
use Rattle.bounded.proofs.Rows.{none-apply, rows-first, rows_then}
use Rattle.layout.specs.declared.Sizes.{Sizes}
use Rattle.layout.specs.Layout.{image_length}
use Rattle.state.specs.State.{State}
use Rattle.state.specs.declared.Places.{Places}
use Rattle.state.specs.declared.Op.TheVariants.{Consolidate}
use Rattle.refinement.specs.Freeing.{freed_slot, freed_page, slot_to_free}
use Rattle.refinement.specs.Calls.{quiet_rows, asked, free_call_rows, free_of}
use Rattle.refinement.proofs.Choice.{free-rows}
use Rattle.refinement.proofs.Quiet.{quiet}
use Rattle.rows.specs.declared.Refusal.{Refusal}
use Rattle.rows.specs.Numbers.{number}
use Rattle.rows.proofs.Numbers.{number-some}
use Rattle.answers.specs.Answers.{Answer}
use Rattle.op_stores.specs.declared.Until.{Until}
use Rattle.op_stores.specs.Asks.{Allowed}
use Rattle.op_stores.specs.Started.{Started}
use Rattle.state_words.specs.Decoded.{places_of}
use Rattle.call_rows.specs.Free.{free_rows}
use Rattle.call_asking.proofs.Allowing.{may-ask-for, asked-for}

-- where no row applies there is a slot to free
pub slot-low : (z : Sizes) (at : Places) (s : ℕ) → 0 ≡ refusal (free_rows z at s) → s < z.slots
slot-low z at s e = leb-false z.slots s (none-apply (free_rows z at s) (omega arith) (sym e)).1.0

module _ (z : Sizes) (at : Places) (st : State) (img : List ℕ) (ez : z ≡ st.sizes) (ea : at ≡ places_of st) where
  pub first-row : (r : Refusal) → number r ≡ refusal (quiet_rows st (length img)) → number r ≡ refusal (free_call_rows st img)
  first-row r e = rows-first (quiet_rows st (length img)) (free_rows st.sizes (places_of st) (freed_slot st)) (number r) e (number-some r)

  module _ (f : 0 ≡ refusal (quiet_rows st (length img))) (s : ℕ) (es : s ≡ slot_to_free z st.table.page st.table.bitmap st.writers.held) where
    chosen : s ≡ freed_slot st
    chosen = es ∙ ap (λ (y : Sizes). slot_to_free y st.table.page st.table.bitmap st.writers.held) ez

    pub next_row : (row : ℕ) → row ≡ refusal (free_rows z at s) → row ≡ refusal (free_call_rows st img)
    next_row row e =
        rows_then (quiet_rows st (length img)) (free_rows st.sizes (places_of st) (freed_slot st)) row (quiet st (length img) 0 f refl).past (rw (ez, ea, chosen) at e)

    module _ (none : 0 ≡ refusal (free_rows z at s)) (p : ℕ) (ep : p ≡ get_or st.table.page s 0) where
      page : p ≡ freed_page st
      page = ep ∙ ap (λ (k : ℕ). get_or st.table.page k 0) chosen

      taken : 0 ≡ refusal (free_call_rows st img)
      taken = next_row 0 none

      pub may_free : Allowed z at st (Consolidate p) × (image_length z ≤ length img)
      may_free =
          may-ask-for st img (free_rows st.sizes (places_of st) (freed_slot st)) taken (Consolidate p) z at ez ea refl refl (λ h. rw page (free-rows st img (sym taken)))

      pub freed : (a : Answer) (after : State) (bs : List ℕ) (u : Until) → Started a after bs (asked 0 st (Consolidate p) (replicate 8 0)) img u → Started a after bs (free_of st img) img u
      unfolding free_of
      freed a after bs u h = rw page at (asked-for st img (free_rows st.sizes (places_of st) (freed_slot st)) taken (Consolidate p) a after bs u h)
