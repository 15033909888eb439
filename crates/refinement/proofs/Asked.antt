-- An operation asked for: pending with no store made, where it needs any.
use Prim.Native.Nat.{ℕ, ◌-◌, ◌<◌}
use mathlib.Core.Bool.{true}
use mathlib.Core.List.{List}
use mathlib.Core.Path.{◌≡◌, refl, ap}
use native.Mathlib.Omega.{arith}
use Rattle.bounded.specs.Rows.{refusal}
use Rattle.state.specs.State.{State}
use Rattle.state.specs.declared.Op.{Op}
use Rattle.operations.specs.Operations.{needs, op_rows}
use Rattle.validity.specs.Validity.{op_fits, is_fresh}
use Rattle.refinement.proofs.StateValid.{valid}
use Rattle.refinement.specs.Calls.{with_pending, asked}
use Rattle.refinement.proofs.CallAsked.{needs-asked, pending-valid}
use Rattle.refinement.specs.Reference.{Reference, Task, under, with_work}
use Rattle.refinement.proofs.Invariant.{Doing, Quiet, Busy}
use Rattle.refinement.proofs.Keeps.{durable-kept}

-- what the reference machine has under way, with all its stores left
pub all_left : (st : State) (op : Op) (line : List ℕ) (t : Task) → under t (needs st op) ≡ under t (needs (with_pending st op line) op - 0)
all_left st op line t = let e : needs st op ≡ needs (with_pending st op line) op - 0 = omega (arith, needs-asked st line op op) in ap (under t) e

pub asked-busy : {past : List ℕ} (st : State) (img : List ℕ) (b : Reference) (op : Op) (line : List ℕ) (t : Task)
    → Quiet past st img b → op_fits st.wide.writer (is_fresh st) op ≡ true → 0 < needs st op → refusal (op_rows st op) ≡ 0
    → Doing (with_pending st op line) img (with_work (under t (needs st op)) b) op
    → Busy past (with_pending st op line) img (with_work (under t (needs st op)) b)
asked-busy st img b op line t q fits l r doing =
    let ws = q.writers in
    record {
      valid = pending-valid st line op q.valid fits r l;
      durable = durable-kept st img b (with_work (under t (needs st op)) b) st.next st.writers _ (λ p l h k. refl) q.durable;
      writers =
          record {
            four = ws.four;
            sixty-four = ws.sixty-four;
            held_low = ws.held_low;
            own-copy = λ w p l h k m n e. ws.own-copy w p l h k m (λ x. x) e;
            no_writes = ws.no_writes;
            ready = ws.ready;
          };
      landed = λ j m. absurd (omega arith);
      doing = doing;
      narrow = record { state = q.narrow.state; book = q.narrow.book };
    }
