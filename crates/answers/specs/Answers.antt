-- What a call answers: the number of document 01 or 02 and the value for each case.
use Rattle.std.specs.Prelude.{ℕ, Bool, ◌&&◌, not, leb, eqb, Result, Ok, Err}
use Rattle.rows.specs.declared.Refusal.{Refusal}
use Rattle.rows.specs.Numbers.{number}
use Rattle.state.specs.State.{State}
use Rattle.refinement.specs.Outcome.{Outcome}

-- the stores that a taken call needs or made, or the row that turns it back
abbrev pub Answer : Type 0
Answer = Result ℕ Refusal

-- 0 where the call is taken, else the number of the row that turns it back
abbrev pub number_of : Answer → ℕ
number_of (Ok n) = 0
number_of (Err r) = number r

-- the stores that a taken call needs or made
abbrev pub stores_of : Answer → ℕ
stores_of (Ok n) = n
stores_of (Err r) = 0

-- an answer with the state after the call
abbrev pub answered_at : Answer → State → Outcome
answered_at a st = record { number = number_of a; stores = stores_of a; state = st }

-- the numbers that calls answer: 0 to 30 without 16, whose row document 02's L5 takes from the table
abbrev pub is_answer : ℕ → Bool
is_answer n = leb n 30 && not (eqb n 16)
