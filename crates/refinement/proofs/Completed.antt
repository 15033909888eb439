-- An operation that no row turns back keeps the state valid when it is complete.
use mathlib.Core.Bool.{true}
use mathlib.Core.Path.{◌≡◌, refl}
use borrow.Author.Tests.{not-true}
use lib.ListN.{length}
use Rattle.bounded.specs.Rows.{refusal}
use Rattle.replay.proofs.Tables.{Sixteen}
use Rattle.state.specs.State.{State}
use Rattle.state.specs.declared.Op.{Op}
use Rattle.state.specs.declared.Op.TheVariants.{Idle, Write, Commit, Consolidate, Checkpoint, Event, Prepare, Confirm, Log, Copy, Format}
use Rattle.operations.specs.Operations.{op_rows}
use Rattle.validity.specs.Validity.{op_fits, state_ok, is_fresh}
use Rattle.operations.proofs.Taken.{write-taken, prepare-taken, prepare-alone, confirm-taken}
use Rattle.refinement.specs.Stores.{completed}
use Rattle.refinement.proofs.WideValid.{logged-valid, copied-valid}
use Rattle.refinement.proofs.WriteValid.{written-valid}
use Rattle.refinement.proofs.CommitValid.{commit-valid, committed-valid, prepare-valid, confirm-can, confirm-narrow}
use Rattle.refinement.proofs.ConsolidateValid.{consolidate-valid}
use Rattle.refinement.proofs.EventReady.{event-valid}
use Rattle.refinement.proofs.CheckpointValid.{checkpoint-valid}
use Rattle.refinement.proofs.StateValid.{valid, valid-ok}
use Rattle.refinement.proofs.Pending.{idle-ok}

-- with nothing pending any more
settled-valid : (st : State) → state_ok st ≡ true → state_ok (completed st Format) ≡ true
settled-valid st e =
    let v = valid st e in
    valid-ok (completed st Format)
    (record {
      legal = v.legal;
      positions = v.positions;
      slots = v.slots;
      held = v.held;
      next_low = v.next_low;
      lasts = v.lasts;
      prepared = v.prepared;
      entries = v.entries;
      wide = v.wide;
      pending = idle-ok (completed st Format) refl;
    })

pub completed-valid : (st : State) (op : Op) → state_ok st ≡ true → Sixteen st.table → length st.map ≡ 1024 → length st.writers.held ≡ 64 → length st.writers.opened ≡ 4 → length st.wide.keys ≡ 64 → op_fits st.wide.writer (is_fresh st) op ≡ true → refusal (op_rows st op) ≡ 0 → state_ok (completed st op) ≡ true
completed-valid st Idle e full long lines four keys fits r = e
completed-valid st (Write w p l o n) e full long lines four keys fits r =
    written-valid st w p l o n e full (write-taken st w p l o n r) (not-true _ fits) lines
completed-valid st (Commit w) e full long lines four keys fits r = commit-valid st w e full (not-true _ fits) r
completed-valid st (Consolidate p) e full long lines four keys fits r = consolidate-valid st p e full long r
completed-valid st Checkpoint e full long lines four keys fits r = checkpoint-valid st e full
completed-valid st (Event k m a) e full long lines four keys fits r = event-valid st k m a e full lines four r
completed-valid st (Prepare w) e full long lines four keys fits r = prepare-valid st w e (prepare-taken st w r) (prepare-alone st w r).0
completed-valid st (Confirm w) e full long lines four keys fits r = committed-valid st w e full (confirm-can st w e (confirm-taken st w r)) (confirm-narrow st w e (confirm-taken st w r))
completed-valid st (Log p l o n) e full long lines four keys fits r = logged-valid st p l o n e keys r
completed-valid st Copy e full long lines four keys fits r = copied-valid st e r
completed-valid st Format e full long lines four keys fits r = settled-valid st e
