-- Each number of the rows of an operation that is asked for is an answer's.
use Prim.Native.Nat.{ℕ}
use mathlib.Core.Bool.{true, not}
use mathlib.Core.List.{[], ◌++◌}
use mathlib.Core.Path.{◌≡◌, refl}
use lib.Dec.{ltb}
use Rattle.bounded.specs.Rows.{refusal}
use Rattle.bounded.proofs.Tests.{row_keeps}
use Rattle.layout.specs.Layout.{image_length}
use Rattle.state.specs.State.{State}
use Rattle.state.specs.declared.Op.{Op}
use Rattle.state.specs.declared.Op.TheVariants.{Idle, Write, Commit, Consolidate, Checkpoint, Event, Prepare, Confirm, Log, Copy, Format}
use Rattle.operations.specs.Operations.{is_idle, write_rows, log_rows, commit_rows, prepare_rows, confirm_rows, consolidate_rows, op_rows}
use Rattle.validity.specs.Validity.{state_ok}
use Rattle.answers.specs.Answers.{is_answer}
use Rattle.answers.proofs.Answered.{row-known}
use Rattle.refinement.specs.Calls.{quiet_rows}

op-known : (st : State) (op : Op) → is_answer (refusal (op_rows st op)) ≡ true
op-known st Idle = row-known [] refl
op-known st (Write w p l o n) = row-known (write_rows st w p l o n) refl
op-known st (Commit w) = row-known (commit_rows st w) refl
op-known st (Consolidate p) = row-known (consolidate_rows st p) refl
op-known st Checkpoint = row-known [] refl
op-known st (Event k m a) = row-known (op_rows st (Event k m a)) refl
op-known st (Prepare w) = row-known (prepare_rows st w) refl
op-known st (Confirm w) = row-known (confirm_rows st w) refl
op-known st (Log p l o n) = row-known (log_rows st p l o n) refl
op-known st Copy = row-known (op_rows st Copy) refl
op-known st Format = row-known [] refl

pub ask-known : (st : State) (n : ℕ) (op : Op) → is_answer (refusal (quiet_rows st n ++ op_rows st op)) ≡ true
ask-known st n op =
    let low : ℕ → Type 0 = λ (x : ℕ). is_answer x ≡ true in
    row_keeps low (not (state_ok st)) 8 _ refl
    (row_keeps low (ltb n (image_length st.sizes)) 4 _ refl
    (row_keeps low (not (is_idle st.pending.op)) 9 _ refl (op-known st op)))
