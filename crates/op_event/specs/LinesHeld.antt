-- The lines of an event, held by writer 1. What is pending stays.
use Rattle.std.specs.Prelude.{ℕ, true, cond, set}
use Rattle.meters.specs.Meters.{moves_credit, first_meter, own_meter}
use Rattle.state.specs.State.{State}
use Rattle.state_words.specs.Decoded.{with_writers, with_opened}
use Rattle.op_write.specs.LineHeld.{line_held}

-- writer 1 open
abbrev pub begun : State → State
begun st = with_writers st (with_opened st.writers (set st.writers.opened 1 true))

-- the lines of page 0, one or two
abbrev pub lines_held : State → ℕ → ℕ → State
lines_held st k m =
    cond (moves_credit k) (line_held (line_held (begun st) 1 0 (first_meter k m)) 1 0 (own_meter k m)) (line_held (begun st) 1 0 (first_meter k m))
