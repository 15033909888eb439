-- What the stores of a pending operation lean on: sizes and places as they were read, and a state that row 8 accepts.
use Rattle.std.specs.Prelude.{true, false, ◌≡◌}
use Rattle.layout.specs.declared.Sizes.{Sizes}
use Rattle.state.specs.State.{State}
use Rattle.state.specs.declared.Places.{Places}
use Rattle.operations.specs.Operations.{is_idle}
use Rattle.validity.specs.Validity.{state_ok}
use Rattle.state_words.specs.Decoded.{places_of}

pub record Served (z : Sizes) (at : Places) (st : State) : Type 0 where
  pub sizes : z ≡ st.sizes
  pub places : at ≡ places_of st
  pub ok : state_ok st ≡ true
  pub busy : is_idle st.pending.op ≡ false
