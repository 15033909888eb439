-- What the rows of an event tell, and what its transaction keeps of the state.
use Prim.Native.Nat.{ℕ, ◌<◌}
use mathlib.Core.Bool.{Bool, true, false, cond}
use mathlib.Core.List.{List}
use mathlib.Core.Path.{◌≡◌, refl, sym, ap, ◌∙◌}
use native.Mathlib.Omega.{arith}
use borrow.Author.Tests.{not-false}
use Rattle.bounded.specs.Rows.{refusal}
use Rattle.bounded.proofs.Rows.{none-apply, row-none}
use Rattle.bounded.proofs.Tests.{row_keeps}
use Rattle.layout.specs.declared.Sizes.{Sizes}
use Rattle.meters.specs.Meters.{moduli_ok, moves_credit, first_meter, own_meter, event_needs, amount_bad}
use Rattle.state.specs.State.{State}
use Rattle.state.specs.declared.Op.TheVariants.{Event}
use Rattle.operations.specs.Operations.{is_idle, needs, op_rows}
use Rattle.validity.specs.Validity.{state_ok}
use Rattle.refinement.specs.Event.{line_done, first_done, second_done, lines_done, event_done}
use Rattle.refinement.specs.Calls.{meter_in, event_call_rows}

-- an event needs a store
pub event-some : (k : ℕ) → 0 < event_needs k
event-some k = row_keeps (λ (n : ℕ). 0 < n) (moves_credit k) 21 13 (omega arith) (omega arith)

pub event-needs : (st : State) (k m a : ℕ) → needs st (Event k m a) ≡ event_needs k
unfolding needs
event-needs st k m a = refl

-- a taken one's rows
module _ (st : State) (img ms : List ℕ) (k m a : ℕ) (e : refusal (event_call_rows st img ms k m a) ≡ 0) where
  pub event-op-row : refusal (op_rows st (Event k m a)) ≡ 0
  event-op-row =
      let h = (none-apply (event_call_rows st img ms k m a) (omega arith) e).1.1.1 in
      sym (row-none (op_rows st (Event k m a)) (h.0, (h.1.0, (h.1.1.1.0, (h.1.1.1.1.0, (h.1.1.1.1.1.0, (h.1.1.1.1.1.1.0, (h.1.1.1.1.1.1.1.1.0, tt))))))))

  pub event-amount : amount_bad ms k m (meter_in st img (first_meter k m)) a ≡ false
  event-amount = (none-apply (event_call_rows st img ms k m a) (omega arith) e).1.1.1.1.1.1.1.1.1.1.0

  pub event-moduli : moduli_ok ms ≡ true
  event-moduli = not-false (moduli_ok ms) (none-apply (event_call_rows st img ms k m a) (omega arith) e).1.1.1.1.1.0

pub first-sizes : (st : State) (k m : ℕ) → (first_done st k m).sizes ≡ st.sizes
unfolding line_done
first-sizes st k m = refl

pub lines-sizes : (st : State) (k m : ℕ) → (lines_done st k m).sizes ≡ st.sizes
unfolding line_done
lines-sizes st k m = row_keeps (λ (s : State). s.sizes ≡ st.sizes) (moves_credit k) (second_done st k m) (first_done st k m) refl refl

pub done-sizes : (st : State) (k m : ℕ) → (event_done st k m).sizes ≡ st.sizes
unfolding event_done
done-sizes st k m = lines-sizes st k m
