-- None of the rows that come first applies: the state is right, the buffer long enough, and nothing is pending or something is.
use Prim.Native.Nat.{ℕ, ◌≤◌}
use mathlib.Core.Bool.{true, false}
use mathlib.Core.Path.{◌≡◌, sym, ◌∙◌}
use native.Mathlib.Omega.{arith}
use borrow.Author.Tests.{ltb-false, not-false}
use Rattle.bounded.specs.Rows.{refusal, Past}
use Rattle.bounded.proofs.Rows.{none-apply}
use Rattle.layout.specs.Layout.{image_length}
use Rattle.state.specs.State.{State}
use Rattle.operations.specs.Operations.{is_idle}
use Rattle.validity.specs.Validity.{state_ok}
use Rattle.refinement.specs.Calls.{quiet_rows, busy_rows}

-- none of rows 8, 4 and 9; of an image of n bytes
pub record Quiet (st : State) (n : ℕ) : Type 0 where
  pub ok : state_ok st ≡ true
  pub long : image_length st.sizes ≤ n
  pub past : Past (quiet_rows st n) 3

pub quiet : (st : State) (n row : ℕ) → row ≡ refusal (quiet_rows st n) → row ≡ 0 → Quiet st n
quiet st n row e z =
    let h = none-apply (quiet_rows st n) (omega arith) (sym e ∙ z) in
    record { ok = not-false (state_ok st) h.0; long = ltb-false n (image_length st.sizes) h.1.0; past = h }

-- none of rows 8, 4 and 10
pub record Busy (st : State) (n : ℕ) : Type 0 where
  pub ok : state_ok st ≡ true
  pub long : image_length st.sizes ≤ n
  pub pends : is_idle st.pending.op ≡ false

pub busy : (st : State) (n row : ℕ) → row ≡ refusal (busy_rows st n) → row ≡ 0 → Busy st n
busy st n row e z =
    let h = none-apply (busy_rows st n) (omega arith) (sym e ∙ z) in
    record { ok = not-false (state_ok st) h.0; long = ltb-false n (image_length st.sizes) h.1.0; pends = h.1.1.0 }
