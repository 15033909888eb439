-- No call is answered 1 to 8: the image mounts and fits, and the state is valid.
use Prim.Native.Nat.{ℕ}
use mathlib.Core.Bool.{false}
use mathlib.Core.List.{List}
use mathlib.Core.Logic.{⊎_elim}
use mathlib.Core.Path.{◌≡◌, ap}
use lib.Dec.{ltb}
use lib.ListN.{length}
use borrow.Author.Tests.{le-ltb}
use Rattle.bounded.proofs.Tests.{case_on}
use Rattle.layout.specs.Layout.{image_length}
use Rattle.state.specs.State.{State}
use Rattle.state.specs.Wide.{is_wide}
use Rattle.refinement.specs.Stores.{World}
use Rattle.refinement.specs.Calls.{begin_rows, begin_of, begin_wide_rows, begin_wide_of, abort_rows, abort_of, write_call_rows, write_of, commit_call_rows, commit_of, prepare_call_rows, prepare_of, confirm_call_rows, confirm_of, withdraw_of, consolidate_call_rows, consolidate_of, free_call_rows, free_of, checkpoint_call_rows, checkpoint_of, read_rows, read_row, step_rows, step_of, run_of, event_call_rows, event_of, load_rows, load_of}
use Rattle.refinement.specs.Run.{Call, mount, checkpoint, free, step, begin, begin_wide, abort, commit, prepare, confirm, withdraw, consolidate, run, write, read, recall, exec, event, load}
use Rattle.refinement.specs.Beside.{broken, NeverRefused}
use Rattle.refinement.specs.Reference.{Reference}
use Rattle.refinement.proofs.Cases.{standing-of}
use Rattle.refinement.proofs.Lacks.{none-applies}
use Rattle.refinement.proofs.MountReadsBack.{mount-taken}
use Rattle.refinement.proofs.Reached.{always}
use Rattle.refinement.proofs.RecallCall.{recall-answer}
use Rattle.refinement.proofs.Standing.{Standing}
use Rattle.refinement.proofs.Viewed.{viewed-fits}

module _ {past : List ℕ} (v : World) (b : Reference) (s : Standing past v b) where
  abbrev st : State
  st = v.st

  abbrev img : List ℕ
  img = v.image

  -- 4
  fits : ltb (length img) (image_length st.sizes) ≡ false
  fits = le-ltb (length img) (image_length st.sizes) (viewed-fits st img b s.viewed)

  pub call_kept : (c : Call) → broken (exec c v).number ≡ false
  unfolding exec begin_of begin_wide_of abort_of write_of commit_of prepare_of confirm_of withdraw_of consolidate_of free_of checkpoint_of event_of load_of read_row step_of run_of
  call_kept mount = ap broken (mount-taken v b s.viewed)
  call_kept checkpoint = none-applies broken (checkpoint_call_rows st img) (rw (s.valid, fits))
  call_kept free = none-applies broken (free_call_rows st img) (rw (s.valid, fits))
  call_kept step = none-applies broken (step_rows st img) (rw (s.valid, fits))
  call_kept (begin w) = none-applies broken (begin_rows st w) (rw s.valid)
  call_kept (begin_wide w) = none-applies broken (begin_wide_rows st w) (rw s.valid)
  call_kept (abort w) = none-applies broken (abort_rows st w) (rw s.valid)
  call_kept (commit w) = none-applies broken (commit_call_rows st img w) (rw (s.valid, fits))
  call_kept (prepare w) = none-applies broken (prepare_call_rows st img w) (rw (s.valid, fits))
  call_kept (confirm w) = none-applies broken (confirm_call_rows st img w) (rw (s.valid, fits))
  call_kept (withdraw w) = none-applies broken (confirm_call_rows st img w) (rw (s.valid, fits))
  call_kept (consolidate p) = none-applies broken (consolidate_call_rows st img p) (rw (s.valid, fits))
  call_kept (run k) = none-applies broken (step_rows st img) (rw (s.valid, fits))
  call_kept (write w p l o n bytes) =
      none-applies broken (write_call_rows st img w p l o n bytes) (rw (s.valid, fits) (case_on (is_wide st.wide w) (λ t. rw t) (λ t. rw t)))
  call_kept (read w p l target) = none-applies broken (read_rows st img w p l target) (rw (s.valid, fits))
  call_kept (recall p l target) = ⊎_elim (λ e. ap broken e) (λ e. ap broken e) (recall-answer img b s.viewed p l target)
  call_kept (event ms k m a) = none-applies broken (event_call_rows st img ms k m a) (rw (s.valid, fits))
  call_kept (load text) = none-applies broken (load_rows st img text) (rw (s.valid, fits))

pub never-refused : NeverRefused
never-refused = always _ (λ z buffer v b h. call_kept v b (standing-of v b h.related))
