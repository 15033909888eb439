-- No call touches a byte past the image, on any state and any bytes: only a step and a run store, row 8 lets no store out of the image and row 4 no image
-- out of the buffer.
use Prim.Native.Nat.{ℕ, ◌+◌, ◌*◌, ◌<◌, ◌≤◌, min}
use mathlib.Core.Bool.{true, false}
use mathlib.Core.List.{List}
use mathlib.Core.Path.{◌≡◌, refl, sym, ◌∙◌, subst}
use native.Mathlib.Omega.{arith}
use lib.Dec.{eqb}
use lib.ListN.{length}
use borrow.Author.Tests.{eqb-true, ltb-false, not-false}
use Rattle.bounded.proofs.Below.{up-keeps}
use Rattle.bounded.proofs.Rows.{none-apply}
use Rattle.bounded.proofs.Tests.{case_on}
use Rattle.layout.specs.declared.Sizes.{Sizes}
use Rattle.layout.specs.Layout.{Legal, sizes_ok, image_length}
use Rattle.layout.proofs.LayoutLaws.{legal}
use Rattle.fresh.specs.Fresh.{format_rows, format_row, format_bytes}
use Rattle.fresh.proofs.FreshWords.{length-formatted, drop-formatted}
use Rattle.words.proofs.WordLaws.{length-store, drop-store}
use Rattle.state.specs.State.{State}
use Rattle.operations.specs.Operations.{is_idle, needs}
use Rattle.validity.specs.Validity.{state_ok}
use Rattle.refinement.specs.Stores.{World, store_at, store_value, store_made, stores_made, stepped_by, stepped, left}
use Rattle.refinement.specs.Calls.{step_row, step_rows, step_bytes, run_bytes}
use Rattle.refinement.specs.Run.{Call, mount, checkpoint, free, step, begin, begin_wide, abort, commit, prepare, confirm, withdraw, consolidate, run, write, read, recall, event, load, exec}
use Rattle.refinement.specs.Refused.{SamePast, PastUntouched}
use Rattle.refinement.proofs.InRange.{store-in-range}
use Rattle.refinement.proofs.Steps.{step_run, run-image}

same : (n : ℕ) (img : List ℕ) → SamePast n img img
same n img = record { past = refl; as_long = refl }

module _ (v : World) where
  abbrev st : State
  st = v.st

  abbrev n : ℕ
  n = image_length st.sizes

  -- what a step or a run that is taken knows: rows 8, 4 and 10 do not apply
  pub record Goes : Type 0 where
    pub ok : state_ok st ≡ true
    pub fits : n ≤ length v.image
    pub some : is_idle st.pending.op ≡ false

  pub goes : step_row st v.image ≡ 0 → Goes
  goes row =
      let h = none-apply (step_rows st v.image) (omega arith) row in
      record { ok = not-false (state_ok st) h.0; fits = ltb-false (length v.image) n h.1.0; some = h.1.1.0 }

  stored : Goes → (k : ℕ) → k ≤ left st → SamePast n v.image (stores_made st k v.image)
  stored g k l =
      let from : ℕ = st.pending.made in
      let low : (i : ℕ) → i < k → from + i < needs st st.pending.op = λ i m. omega arith in
      up-keeps (SamePast n v.image) (λ i m. store_made st m st.pending.op (from + i)) k v.image
      (λ i m j h.
      let a : ℕ = store_at st st.pending.op (from + i) in
      let w : ℕ = store_value st m st.pending.op (from + i) in
      let inside : 8 * a + 8 ≤ n = store-in-range st g.ok g.some (from + i) (low i j) in
      let fits : 8 * a + 8 ≤ length m = omega (arith, h.as_long, g.fits) in
      record { past = drop-store m a w n fits inside ∙ h.past; as_long = length-store m a w fits ∙ h.as_long })
      (same n v.image)

  pub by-steps : Goes → (k : ℕ) → k ≤ left st → SamePast n v.image (stepped_by k v).image
  by-steps g k l = subst (SamePast n v.image) (sym (run-image k v l)) (stored g k l)

  by-step : Goes → SamePast n v.image (stepped v).image
  by-step g =
      let e = step_run v g.ok g.some in
      subst (λ (u : World). SamePast n v.image u.image) e.0 (by-steps g 1 e.1)

  stepped-past : SamePast n v.image (step_bytes st v.image)
  unfolding step_bytes
  stepped-past =
      let row : ℕ = step_row st v.image in
      case_on (eqb row 0) (λ t. rw t (by-step (goes (eqb-true row 0 t)))) (λ t. rw t (same n v.image))

  ran-past : (k : ℕ) → SamePast n v.image (run_bytes st v.image k)
  unfolding run_bytes
  ran-past k =
      let row : ℕ = step_row st v.image in
      case_on (eqb row 0) (λ t. rw t (by-steps (goes (eqb-true row 0 t)) (min k (left st)) (omega arith))) (λ t. rw t (same n v.image))

call-past : (c : Call) (v : World) → SamePast (image_length v.st.sizes) v.image (exec c v).world.image
unfolding exec
call-past step v = stepped-past v
call-past (run k) v = ran-past v k
call-past mount v = same _ _
call-past checkpoint v = same _ _
call-past free v = same _ _
call-past (begin w) v = same _ _
call-past (begin_wide w) v = same _ _
call-past (abort w) v = same _ _
call-past (commit w) v = same _ _
call-past (prepare w) v = same _ _
call-past (confirm w) v = same _ _
call-past (withdraw w) v = same _ _
call-past (consolidate p) v = same _ _
call-past (write w p l o m bytes) v = same _ _
call-past (read w p l target) v = same _ _
call-past (recall p l target) v = same _ _
call-past (event ms k m a) v = same _ _
call-past (load text) v = same _ _

format-past : (z : Sizes) (buffer : List ℕ) → SamePast (image_length z) buffer (format_bytes z buffer)
format-past z buffer =
    let row : ℕ = format_row z buffer in
    case_on (eqb row 0)
    (λ t.
    let h = none-apply (format_rows z (length buffer)) (omega arith) (eqb-true row 0 t) in
    let g : Legal z = legal z (not-false (sizes_ok z) h.0) in
    let fits : image_length z ≤ length buffer = ltb-false (length buffer) (image_length z) h.1.0 in
    rw t (record { past = drop-formatted z g buffer fits (image_length z) (omega arith); as_long = length-formatted z g buffer fits }))
    (λ t. rw t (same (image_length z) buffer))

pub past-untouched : PastUntouched
past-untouched = record { format = format-past; call = call-past }
