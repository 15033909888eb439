-- An operation that was asked for keeps the state valid: pending with no store made, or complete where it needs none.
use Prim.Native.Nat.{ℕ, ◌<◌}
use mathlib.Core.Bool.{true, cond}
use mathlib.Core.List.{List}
use mathlib.Core.Path.{◌≡◌}
use native.Mathlib.Omega.{arith}
use lib.Dec.{eqb}
use lib.ListN.{length, replicate}
use borrow.Author.Tests.{eqb-false}
use Rattle.bounded.specs.Rows.{refusal}
use Rattle.bounded.proofs.Tests.{case_on}
use Rattle.replay.proofs.Tables.{Sixteen}
use Rattle.state.specs.State.{State}
use Rattle.state.specs.declared.Op.{Op}
use Rattle.operations.specs.Operations.{op_rows, needs}
use Rattle.validity.specs.Validity.{state_ok, op_fits, is_fresh}
use Rattle.refinement.specs.Stores.{completed}
use Rattle.refinement.proofs.LinesAsked.{needs-lines, rows-lines, lines-valid}
use Rattle.refinement.proofs.Sized.{Sized, completed-sized}
use Rattle.refinement.proofs.Completed.{completed-valid}
use Rattle.refinement.specs.Calls.{with_pending}

-- the state that comes of it
abbrev pub asked_state : State → Op → List ℕ → State
asked_state st op line = cond (eqb (needs st op) 0) (completed st op) (with_pending st op line)

module _ (st : State) (line : List ℕ) where
  pub needs-asked : (op o : Op) → needs (with_pending st o line) op ≡ needs st op
  needs-asked = needs-lines st line (replicate 8 0)

  pub pending-valid : (op : Op) → state_ok st ≡ true → op_fits st.wide.writer (is_fresh st) op ≡ true → refusal (op_rows st op) ≡ 0 → 0 < needs st op → state_ok (with_pending st op line) ≡ true
  pending-valid = lines-valid st line (replicate 8 0)

  pub pending-sized : (op : Op) → Sized st → Sized (with_pending st op line)
  pending-sized op h = record { table = h.table; map = h.map; writers = h.writers; keys = h.keys }

  module _ (op : Op) (r : refusal (op_rows st op) ≡ 0) where
    pub asked-valid : state_ok st ≡ true → Sized st → op_fits st.wide.writer (is_fresh st) op ≡ true → state_ok (asked_state st op line) ≡ true
    asked-valid e h fits =
        case_on (eqb (needs st op) 0)
        (λ q. rw q (completed-valid st op e h.table.sixteen h.map h.writers.sixty-four h.writers.four h.keys fits r))
        (λ q.
        let n : needs st op ≡ 0 → ⊥ = eqb-false (needs st op) 0 q in
        rw q (pending-valid op e fits r (omega arith)))

    pub asked-sized : Sized st → Sized (asked_state st op line)
    asked-sized h =
        case_on (eqb (needs st op) 0)
        (λ q. rw q (completed-sized st h op r))
        (λ q. rw q (pending-sized op h))
