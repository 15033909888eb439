-- A run: turned back by a row, or its stores made.
use Prim.Native.Nat.{ℕ, ◌+◌, ◌-◌, ◌<◌, ◌≤◌, min}
use mathlib.Core.Bool.{Bool, true, false, not}
use mathlib.Core.List.{List}
use mathlib.Core.Path.{◌≡◌, refl, sym, ap, ◌∙◌}
use native.Mathlib.Omega.{arith}
use lib.Dec.{ltb, eqb}
use lib.ListN.{length}
use borrow.Author.Tests.{ne_eqb, eq-eqb}
use Rattle.bounded.specs.Rows.{refusal}
use Rattle.layout.specs.declared.Sizes.{Sizes}
use Rattle.layout.specs.Layout.{image_length}
use Rattle.state.specs.State.{State}
use Rattle.state.specs.declared.Places.{Places}
use Rattle.operations.specs.Operations.{needs}
use Rattle.refinement.specs.Stores.{store_at, stores_made, state_after, left}
use Rattle.refinement.specs.Calls.{busy_rows, step_rows, step_row, world_of, run_of, run_bytes}
use Rattle.refinement.proofs.Going.{going}
use Rattle.refinement.proofs.Quiet.{Busy, busy}
use Rattle.refinement.proofs.Steps.{run-image, run-after}
use Rattle.std.specs.Prelude.{Ok, Err}
use Rattle.rows.specs.declared.Refusal.{Refusal}
use Rattle.rows.specs.Numbers.{number}
use Rattle.rows.proofs.Numbers.{number-some}
use Rattle.answers.specs.Answers.{answered_at}
use Rattle.state_words.specs.Decoded.{places_of}
use Rattle.op_writer.specs.Served.{Served}
use Rattle.any_order.specs.AnyOrder.{to_fence}
use Rattle.op_stores.specs.Started.{before_fence}
use Rattle.call_step.specs.declared.telling.NextStore.{NextStore}
use Rattle.call_step.specs.NextStore.{before_deciding, next_store_of, left_of}
use Rattle.call_step.proofs.Told.{decides-now, stops-where-it-decides}

pub run-refused : (st : State) (img : List ℕ) (r : Refusal) → number r ≡ refusal (busy_rows st (length img)) → (k : ℕ) → (answered_at (Err r) st ≡ run_of st img k) × (img ≡ run_bytes st img k)
unfolding run_of run_bytes
run-refused st img r e k =
    let f : eqb (number r) 0 ≡ false = ne_eqb (number r) 0 (number-some r) in
    rw (sym e) (rw f refl, rw f refl)

module _ (st : State) (img : List ℕ) (none : 0 ≡ refusal (busy_rows st (length img))) where
  pends : Busy st (length img)
  pends = busy st (length img) 0 none refl

  -- what is pending may go on; z and at are the sizes and places as they were read
  pub run-may : (z : Sizes) (at : Places) → z ≡ st.sizes → at ≡ places_of st → Served z at st × (image_length z ≤ length img)
  run-may z at ez ea = (record { sizes = ez; places = ea; ok = pends.ok; busy = pends.pends }, rw ez pends.long)

  pub run-made : (k n : ℕ) (after : State) (bs : List ℕ) → n ≡ min k (left st) → bs ≡ stores_made st n img → after ≡ state_after st n → (answered_at (Ok n) after ≡ run_of st img k) × (bs ≡ run_bytes st img k)
  unfolding run_of run_bytes
  run-made k n after bs en eb ea =
      let g = (going st pends.ok pends.pends).made-low in
      let few : n ≤ left st = omega (arith, en) in
      let s : after ≡ _ = ea ∙ sym (run-after n (world_of st img) pends.pends (omega (arith, g)) few) in
      let b : bs ≡ _ = eb ∙ sym (run-image n (world_of st img) few) in
      (rw (sym none, ← en, s), rw (sym none, ← en) b)

  pub next-told : (at before : ℕ) → at ≡ store_at st st.pending.op st.pending.made → before ≡ before_fence st
      → ◌≡◌ {A = NextStore} (record { at = at; decides = eqb before 0; before = before }) (next_store_of st img)
  next-told at before p q =
      let low = (going st pends.ok pends.pends).made-low in
      let same : before ≡ before_deciding st = q ∙ stops-where-it-decides st low in
      let d : eqb before 0 ≡ to_fence st st.pending.op = decides-now st (needs st st.pending.op) refl low before same in
      rw (sym none, p, ← d, ← same)

  pub all_left : (n : ℕ) → n ≡ left st → n ≡ left_of st img
  all_left n q = rw (sym none) q
