-- Every call returns a valid state from a valid one (row 8), and keeps the lengths and ranges of its arrays.
use Prim.Native.Nat.{ℕ, ◌+◌, ◌-◌, ◌<◌, ◌≤◌, min}
use mathlib.Core.Bool.{Bool, true, false, cond}
use mathlib.Core.List.{List}
use mathlib.Core.Path.{◌≡◌, refl, sym, ap, subst}
use native.Mathlib.Omega.{arith}
use lib.Dec.{eqb}
use lib.ListN.{length, replicate}
use borrow.Author.Tests.{eqb-true, eq-eqb, not-false}
use Rattle.bounded.specs.Rows.{refusal}
use Rattle.bounded.proofs.Rows.{none-apply}
use Rattle.bounded.proofs.Tests.{case_on, row_keeps}
use Rattle.layout.specs.declared.Sizes.{Sizes}
use Rattle.layout.specs.Layout.{sizes_ok}
use Rattle.words.specs.Words.{Bytes}
use Rattle.fresh.specs.Fresh.{format_row, format_rows}
use Rattle.mount.specs.Mount.{mount_of}
use Rattle.state.specs.State.{State}
use Rattle.state.specs.declared.Op.{Op}
use Rattle.state.specs.declared.Op.TheVariants.{Write, Consolidate, Checkpoint, Event, Prepare, Confirm, Log}
use Rattle.state.specs.Wide.{is_wide}
use Rattle.operations.specs.Operations.{is_idle, op_rows, commit_rows, prepare_rows, confirm_rows, consolidate_rows, needs}
use Rattle.validity.specs.Validity.{state_ok, op_fits, is_fresh}
use Rattle.refinement.specs.Commit.{closed_writer}
use Rattle.refinement.specs.Freeing.{freed_page}
use Rattle.refinement.proofs.Choice.{free-rows}
use Rattle.refinement.specs.Stores.{World, stepped_by, stepped, left}
use Rattle.refinement.proofs.Sized.{Sized}
use Rattle.refinement.proofs.Steps.{run-valid, run-sized, step-valid, step-sized}
use Rattle.refinement.specs.Outcome.{answered}
use Rattle.refinement.specs.Calls.{quiet_rows, with_writers, begin_rows, begin_wide_rows, abort_rows, begin_of, begin_wide_of, abort_of, asked, with_pending, finished_line, changes_nothing, write_op, commit_op, write_call_rows, commit_call_rows, prepare_call_rows, confirm_call_rows, consolidate_call_rows, free_call_rows, checkpoint_call_rows, write_of, commit_of, prepare_of, confirm_of, withdraw_of, consolidate_of, free_of, checkpoint_of, step_row, step_rows, world_of, run_of, step_of, event_line, event_second, event_call_rows, event_of}
use Rattle.refinement.specs.Mount.{mounted_state, mount_call, no_state, fresh_state, format_call}
use Rattle.refinement.specs.Run.{Call, mount, checkpoint, free, step, begin, begin_wide, abort, commit, prepare, confirm, withdraw, consolidate, run, write, read, recall, exec, event, load}
use Rattle.meters.specs.Meters.{event_needs}
use Rattle.refinement.specs.Settled.{with_lines}
use Rattle.refinement.proofs.EventRows.{event-some, event-needs, event-op-row}
use Rattle.refinement.proofs.LinesAsked.{lines-valid}
use Rattle.refinement.proofs.WriterCalls.{past-rows, write-fits, commit-fits, write-op-row, commit-op-row}
use Rattle.refinement.proofs.Begun.{opening, begin-valid, begin-sized, beginning_wide, begin-wide-valid, begin-wide-sized, aborting, abort-valid, abort-sized, unprepared, unprepared-valid, unprepared-sized}
use Rattle.refinement.proofs.CallAsked.{asked_state, pending-valid, pending-sized, asked-valid, asked-sized}
use Rattle.refinement.proofs.CallMounted.{mounted-valid, mounted-sized, fresh-valid, fresh-sized}

pub record Good (st : State) : Type 0 where
  pub is-valid : state_ok st ≡ true
  pub sized : Sized st

-- a call that a row turns back leaves the state
answered-good : (row : ℕ) (st : State) (n : ℕ) (after : State) → Good st → (row ≡ 0 → Good after) → Good (answered row st n after).state
answered-good row st n after g h =
    case_on (eqb row 0)
    (λ e. subst Good (ap (λ (b : Bool). cond b after st) (sym e)) (h (eqb-true row 0 e)))
    (λ e. subst Good (ap (λ (b : Bool). cond b after st) (sym e)) g)

asked-good : (st : State) (row : ℕ) (op : Op) (line : List ℕ) → Good st → op_fits st.wide.writer (is_fresh st) op ≡ true → (row ≡ 0 → refusal (op_rows st op) ≡ 0)
    → Good (asked row st op line).state
asked-good st row op line g fits h =
    answered-good row st (needs st op) (asked_state st op line) g
    (λ e.
    record {
      is-valid = asked-valid st line op (h e) g.is-valid g.sized fits;
      sized = asked-sized st line op (h e) g.sized;
    })

module _ (st : State) (img : List ℕ) (g : Good st) where
  begin-good : (w : ℕ) → Good (begin_of st w).state
  unfolding begin_of
  begin-good w =
      answered-good (refusal (begin_rows st w)) st 0 (with_writers st (opening st w)) g
      (λ e. record { is-valid = begin-valid st w e; sized = begin-sized st w g.sized })

  begin-wide-good : (w : ℕ) → Good (begin_wide_of st w).state
  unfolding begin_wide_of
  begin-wide-good w =
      answered-good (refusal (begin_wide_rows st w)) st 0 (beginning_wide st w) g
      (λ e. record { is-valid = begin-wide-valid st w g.sized.writers.four e; sized = begin-wide-sized st w g.sized })

  abort-good : (w : ℕ) → Good (abort_of st w).state
  unfolding abort_of
  abort-good w =
      answered-good (refusal (abort_rows st w)) st 0 (aborting st w) g
      (λ e. record { is-valid = abort-valid st w e; sized = abort-sized st w g.sized })

  write-good : (w p l o n : ℕ) (bytes : List ℕ) → Good (write_of st img w p l o n bytes).state
  unfolding write_of needs
  write-good w p l o n bytes =
      let op = write_op st w p l o n in
      let line = finished_line st img w p l o n bytes in
      let nothing = changes_nothing st img w p l o n bytes in
      let some : 0 < needs st op = row_keeps (λ (x : Op). 0 < needs st x) (is_wide st.wide w) (Log p l o n) (Write w p l o n) (omega arith) (omega arith) in
      answered-good (refusal (write_call_rows st img w p l o n bytes)) st (cond nothing 0 (cond (is_wide st.wide w) 9 8)) (cond nothing st (with_pending st op line)) g
      (λ e.
      row_keeps Good nothing st (with_pending st op line) g
      (record {
        is-valid = pending-valid st line op g.is-valid (write-fits st w p l o n) (write-op-row st img w p l o n bytes e) some;
        sized = pending-sized st line op g.sized;
      }))

  commit-good : (w : ℕ) → Good (commit_of st img w).state
  unfolding commit_of
  commit-good w =
      asked-good st (refusal (commit_call_rows st img w)) (commit_op st w) (replicate 8 0) g (commit-fits st w)
      (λ e. commit-op-row st w (past-rows (quiet_rows st (length img)) (commit_rows st w) (omega arith) e))

  prepare-good : (w : ℕ) → Good (prepare_of st img w).state
  unfolding prepare_of
  prepare-good w =
      asked-good st (refusal (prepare_call_rows st img w)) (Prepare w) (replicate 8 0) g refl
      (λ e. past-rows (quiet_rows st (length img)) (prepare_rows st w) (omega arith) e)

  confirm-good : (w : ℕ) → Good (confirm_of st img w).state
  unfolding confirm_of
  confirm-good w =
      asked-good st (refusal (confirm_call_rows st img w)) (Confirm w) (replicate 8 0) g refl
      (λ e. past-rows (quiet_rows st (length img)) (confirm_rows st w) (omega arith) e)

  withdraw-good : (w : ℕ) → Good (withdraw_of st img w).state
  unfolding withdraw_of
  withdraw-good w =
      answered-good (refusal (confirm_call_rows st img w)) st 0 (unprepared st) g
      (λ e.
      let idle = not-false (is_idle st.pending.op) (none-apply (confirm_call_rows st img w) (omega arith) e).1.1.0 in
      record { is-valid = unprepared-valid st g.is-valid idle; sized = unprepared-sized st g.sized })

  consolidate-good : (p : ℕ) → Good (consolidate_of st img p).state
  unfolding consolidate_of
  consolidate-good p =
      asked-good st (refusal (consolidate_call_rows st img p)) (Consolidate p) (replicate 8 0) g refl
      (λ e. past-rows (quiet_rows st (length img)) (consolidate_rows st p) (omega arith) e)

  free-good : Good (free_of st img).state
  unfolding free_of
  free-good = asked-good st (refusal (free_call_rows st img)) (Consolidate (freed_page st)) (replicate 8 0) g refl (free-rows st img)

  checkpoint-good : Good (checkpoint_of st img).state
  unfolding checkpoint_of
  checkpoint-good = asked-good st (refusal (checkpoint_call_rows st img)) Checkpoint (replicate 8 0) g refl (λ e. refl)

  event-good : (ms : List ℕ) (k m a : ℕ) → Good (event_of st img ms k m a).state
  unfolding event_of
  event-good ms k m a =
      let line = event_line st img ms k m a in
      let second = event_second st img ms k m a in
      answered-good (refusal (event_call_rows st img ms k m a)) st (event_needs k) (with_lines st (Event k m a) line second) g
      (λ e.
      record {
        is-valid = lines-valid st line second (Event k m a) g.is-valid refl (event-op-row st img ms k m a e) (omega (arith, event-some k, event-needs st k m a));
        sized = record { table = g.sized.table; map = g.sized.map; writers = g.sized.writers; keys = g.sized.keys };
      })

  busy : step_row st img ≡ 0 → is_idle st.pending.op ≡ false
  busy e = (none-apply (step_rows st img) (omega arith) e).1.1.0

  step-good : Good (step_of st img).state
  unfolding step_of
  step-good =
      answered-good (step_row st img) st 1 (stepped (world_of st img)).st g
      (λ e.
      record {
        is-valid = step-valid (world_of st img) g.is-valid (busy e) g.sized;
        sized = step-sized (world_of st img) g.is-valid (busy e) g.sized;
      })

  run-good : (k : ℕ) → Good (run_of st img k).state
  unfolding run_of
  run-good k =
      let n = min k (left st) in
      let l : min k (left st) ≤ left st = omega arith in
      answered-good (step_row st img) st n (stepped_by n (world_of st img)).st g
      (λ e.
      record {
        is-valid = run-valid (world_of st img) g.is-valid (busy e) g.sized n l;
        sized = run-sized (world_of st img) g.is-valid (busy e) g.sized n l;
      })

-- after a refused mount the state stays
mount-good : (v : World) → Bytes v.image → Good v.st → Good (exec mount v).world.st
unfolding exec mount_call
mount-good v b g =
    let m = mount_of v.image in
    case_on (eqb m.row 0)
    (λ e.
    let r : (mount_of v.image).row ≡ 0 = eqb-true m.row 0 e in
    let k : cond (eqb m.row 0) (cond (eqb m.row 0) (mounted_state m) no_state) v.st ≡ mounted_state m =
    ap (λ (x : Bool). cond x (cond x (mounted_state m) no_state) v.st) e in
    subst Good (sym k) (record { is-valid = mounted-valid v.image r; sized = mounted-sized v.image r b }))
    (λ e. subst Good (ap (λ (x : Bool). cond x (cond x (mounted_state m) no_state) v.st) (sym e)) g)

pub call-good : (c : Call) (v : World) → Bytes v.image → Good v.st → Good (exec c v).world.st
unfolding exec
call-good mount v b g = mount-good v b g
call-good checkpoint v b g = checkpoint-good v.st v.image g
call-good free v b g = free-good v.st v.image g
call-good step v b g = step-good v.st v.image g
call-good (begin w) v b g = begin-good v.st v.image g w
call-good (begin_wide w) v b g = begin-wide-good v.st v.image g w
call-good (abort w) v b g = abort-good v.st v.image g w
call-good (commit w) v b g = commit-good v.st v.image g w
call-good (prepare w) v b g = prepare-good v.st v.image g w
call-good (confirm w) v b g = confirm-good v.st v.image g w
call-good (withdraw w) v b g = withdraw-good v.st v.image g w
call-good (consolidate p) v b g = consolidate-good v.st v.image g p
call-good (run k) v b g = run-good v.st v.image g k
call-good (write w p l o n bytes) v b g = write-good v.st v.image g w p l o n bytes
call-good (read w p l target) v b g = g
call-good (recall p l target) v b g = g
call-good (event ms k m a) v b g = event-good v.st v.image g ms k m a
call-good (load text) v b g = g
