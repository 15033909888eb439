-- What an operation that is to be started leans on: nothing is pending, no row turns it back, and it needs stores.
use Rattle.std.specs.Prelude.{ℕ, ◌<◌, ◌≤◌, true, false, List, ◌≡◌, length}
use Rattle.bounded.specs.Rows.{refusal}
use Rattle.layout.specs.declared.Sizes.{Sizes}
use Rattle.layout.specs.Layout.{image_length}
use Rattle.state.specs.State.{State}
use Rattle.state.specs.declared.Places.{Places}
use Rattle.state.specs.declared.Pending.{Pending}
use Rattle.state.specs.declared.Op.{Op}
use Rattle.operations.specs.Operations.{is_idle, op_rows, needs}
use Rattle.validity.specs.Validity.{state_ok, op_fits, is_fresh}
use Rattle.state_words.specs.Decoded.{places_of}

-- z and at are the sizes and places of st; p is the operation with none of its stores made
pub record Asks (z : Sizes) (at : Places) (st : State) (img : List ℕ) (p : Pending) : Type 0 where
  pub sizes : z ≡ st.sizes
  pub places : at ≡ places_of st
  pub ok : state_ok st ≡ true
  pub long : image_length z ≤ length img
  pub idle : is_idle st.pending.op ≡ true
  pub busy : is_idle p.op ≡ false
  pub none_made : p.made ≡ 0
  pub rows : refusal (op_rows st p.op) ≡ 0
  pub fits : op_fits st.wide.writer (is_fresh st) p.op ≡ true
  pub some : 0 < needs st p.op

-- the same of an operation that keeps no lines; it may need no store
pub record Allowed (z : Sizes) (at : Places) (st : State) (op : Op) : Type 0 where
  pub sizes : z ≡ st.sizes
  pub places : at ≡ places_of st
  pub ok : state_ok st ≡ true
  pub idle : is_idle st.pending.op ≡ true
  pub busy : is_idle op ≡ false
  pub rows : refusal (op_rows st op) ≡ 0
  pub fits : op_fits st.wide.writer (is_fresh st) op ≡ true
