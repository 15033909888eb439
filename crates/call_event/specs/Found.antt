-- What an event finds before it is taken: the first row that turns it back; where none does, the frames of its lines, and the stored
-- number of the meter whose line goes first.
use Rattle.std.specs.Prelude.{ℕ, List, [], ◌∷◌, ◌++◌, not, cond, ◌≡◌, replicate, Result, MatchResult}
use Rattle.bounded.specs.Rows.{Row, refusal}
use Rattle.rows.specs.declared.Refusal.{Refusal}
use Rattle.rows.specs.Numbers.{number}
use Rattle.meters.specs.Meters.{moduli_ok, event_known, moves_credit, first_meter, own_meter, rolled}
use Rattle.layout.specs.declared.Sizes.{Sizes}
use Rattle.words.specs.Words.{bytes_of, word_at}
use Rattle.image.specs.Lines.{line_bytes, merged, line_words}
use Rattle.state.specs.State.{State}
use Rattle.state.specs.Wide.{some_wide}
use Rattle.refinement.specs.Frames.{seen_frame}
use Rattle.refinement.specs.Calls.{quiet_rows, meter_in, event_call_rows}
use Rattle.call_event.specs.declared.found.Found.{Found}

-- the rows before those of writer 1 and page 0
abbrev pub start_rows : State → ℕ → List ℕ → ℕ → ℕ → List Row
start_rows st n ms k m = quiet_rows st n ++ ((some_wide st.wide.writer, 29) ∷ (not (event_known k m), 20) ∷ (not (moduli_ok ms), 26) ∷ [])

abbrev pub EventFound : State → List ℕ → List ℕ → ℕ → ℕ → ℕ → Result Found Refusal → Type 0
EventFound st img ms k m a r =
    MatchResult r
    (λ f.
    (0 ≡ refusal (event_call_rows st img ms k m a))
    × (f.first ≡ seen_frame st 1 0 (first_meter k m))
    × (f.own ≡ seen_frame st 1 0 (own_meter k m))
    × (f.stored ≡ meter_in st img (first_meter k m)))
    (λ row. number row ≡ refusal (event_call_rows st img ms k m a))

-- the second finished line, line o of frame f being that of the event's own meter
abbrev pub second_of : List ℕ → List ℕ → Sizes → ℕ → ℕ → ℕ → ℕ → List ℕ
second_of img ms z f k m a =
    let line = line_bytes img z f (own_meter k m) in
    cond (moves_credit k) (line_words (merged line 0 8 (bytes_of 8 (rolled ms (own_meter k m) (word_at line 0) a)))) (replicate 8 0)
