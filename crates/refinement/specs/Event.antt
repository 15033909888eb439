-- Event: one transaction by writer 1 on page 0 (document 02, L2). Writer 1 begins, writes each meter's line, and commits; the stores of the event are
-- those of its writes and of its commit, one after the other, and the state at its end is the commit's. st is the state with the event pending,
-- which holds the finished lines.
use Rattle.std.specs.Prelude.{ℕ, ◌-◌, ◌&&◌, cond, List, ltb}
use Rattle.meters.specs.Meters.{moves_credit, first_meter, own_meter}
use Rattle.state.specs.State.{State}
use Rattle.state.specs.declared.Op.TheVariants.{Write}
use Rattle.refinement.specs.Settled.{with_open, with_pending}
use Rattle.refinement.specs.Write.{write_at, write_value, write_done}
use Rattle.refinement.specs.Commit.{commit_at, commit_value, commit_done}

-- a write of the first 8 bytes of line l of page 0 by writer 1, the finished line's words held: asked for, and run to its end
abbrev pub line_asked : State → ℕ → List ℕ → State
line_asked st l words = with_pending st (Write 1 0 l 0 8) words

unfoldable pub line_done : State → ℕ → List ℕ → State
line_done st l words = write_done (line_asked st l words) 1 0 l

-- the first line's write, the second's, and the state with all lines written
abbrev pub first_asked : State → ℕ → ℕ → State
first_asked st k m = line_asked (with_open st 1) (first_meter k m) st.pending.line

abbrev pub first_done : State → ℕ → ℕ → State
first_done st k m = line_done (with_open st 1) (first_meter k m) st.pending.line

abbrev pub second_asked : State → ℕ → ℕ → State
second_asked st k m = line_asked (first_done st k m) (own_meter k m) st.pending.second

abbrev pub second_done : State → ℕ → ℕ → State
second_done st k m = line_done (first_done st k m) (own_meter k m) st.pending.second

abbrev pub lines_done : State → ℕ → ℕ → State
lines_done st k m = cond (moves_credit k) (second_done st k m) (first_done st k m)

-- the stores of its writes
abbrev pub line_stores : ℕ → ℕ
line_stores k = cond (moves_credit k) 16 8

-- store i
unfoldable pub event_at : State → ℕ → ℕ → ℕ → ℕ
event_at st k m i =
    cond (ltb i 8) (write_at (first_asked st k m) 0 (first_meter k m) i)
    (cond (moves_credit k && ltb i 16) (write_at (second_asked st k m) 0 (own_meter k m) (i - 8)) (commit_at (lines_done st k m) 1 (i - line_stores k)))

unfoldable pub event_value : State → ℕ → ℕ → ℕ → ℕ
event_value st k m i =
    cond (ltb i 8) (write_value (first_asked st k m) i)
    (cond (moves_credit k && ltb i 16) (write_value (second_asked st k m) (i - 8)) (commit_value (lines_done st k m) 1 (i - line_stores k)))

-- the state when its last store is made
unfoldable pub event_done : State → ℕ → ℕ → State
event_done st k m = commit_done (lines_done st k m) 1
