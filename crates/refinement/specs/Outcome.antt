-- What comes of a call: its number, its stores, the state after it.
use Rattle.std.specs.Prelude.{ℕ, Bool, cond, eqb}
use Rattle.state.specs.State.{State}

pub record Outcome : Type 0 where
  pub number : ℕ
  pub stores : ℕ
  pub state : State

-- a call that a row turns back changes nothing; with row 0 it is taken
abbrev pub answered : ℕ → State → ℕ → State → Outcome
answered row st stores after =
    record { number = row; stores = cond (eqb row 0) stores 0; state = cond (eqb row 0) after st }
