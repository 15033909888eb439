-- The rows that begin, begin wide and abort start with.
use Rattle.std.specs.Prelude.{ℕ, List, [], ◌∷◌, ltb}
use Rattle.bounded.specs.Rows.{Row}
use Rattle.state.specs.State.{State}
use Rattle.refinement.specs.Calls.{row_state, row_pending}

abbrev pub first_rows : State → ℕ → List Row
first_rows st w = row_state st ∷ row_pending st ∷ (ltb 3 w, 11) ∷ []
