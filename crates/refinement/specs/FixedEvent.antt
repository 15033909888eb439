-- An event as request L2 defines it, over its fixed table: no moduli are lent, and no row 26 stands. With L2's table an event of today is that one.
use Rattle.std.specs.Prelude.{ℕ, ◌+◌, ◌-◌, ◌%◌, Bool, ◌&&◌, ◌||◌, not, cond, List, [], ◌∷◌, ◌++◌, ◌≡◌, ltb, leb, length, replicate}
use Rattle.bounded.specs.Rows.{Row, refusal}
use Rattle.meters.specs.Meters.{fixed_modulus, fixed_moduli, event_known, moves_credit, first_meter, own_meter, event_needs, adds, credit_after}
use Rattle.state.specs.State.{State}
use Rattle.state.specs.declared.Op.TheVariants.{Event}
use Rattle.state.specs.Wide.{some_wide}
use Rattle.operations.specs.Operations.{journal_full, event_next_rows}
use Rattle.refinement.specs.Outcome.{Outcome, answered}
use Rattle.refinement.specs.Settled.{with_lines}
use Rattle.refinement.specs.Calls.{row_state, row_short, row_pending, meter_in, meter_line, event_of}

abbrev pub fixed_rolled : ℕ → ℕ → ℕ → ℕ
fixed_rolled meter stored amount = (stored + amount) % fixed_modulus meter

abbrev pub fixed_first : ℕ → ℕ → ℕ → ℕ → ℕ
fixed_first kind meter stored amount = cond (moves_credit kind) (credit_after kind stored amount) (fixed_rolled meter stored amount)

-- 21: an amount not below the meter's modulus, a new credit outside 0 to 99,999,999
abbrev pub fixed_credit_bad : ℕ → ℕ → ℕ → Bool
fixed_credit_bad kind credit amount =
    cond (adds kind) (leb 100000000 (credit + amount)) (ltb credit amount || leb 100000000 (credit - amount))

abbrev pub fixed_amount_bad : ℕ → ℕ → ℕ → ℕ → Bool
fixed_amount_bad kind meter stored amount =
    leb (fixed_modulus (own_meter kind meter)) amount || (moves_credit kind && fixed_credit_bad kind stored amount)

-- 29 (document 02, L14), 20, 12, 14, 15, 21, 19
abbrev pub fixed_event_rows : State → List ℕ → ℕ → ℕ → ℕ → List Row
fixed_event_rows st img k m a =
    row_state st ∷ row_short st (length img) ∷ row_pending st
    ∷ (some_wide st.wide.writer, 29)
    ∷ (not (event_known k m), 20)
    ∷ (event_next_rows st k m ++ ((fixed_amount_bad k m (meter_in st img (first_meter k m)) a, 21) ∷ (journal_full st 1, 19) ∷ []))

abbrev pub fixed_line : State → List ℕ → ℕ → ℕ → ℕ → List ℕ
fixed_line st img k m a = meter_line st img (first_meter k m) (fixed_first k m (meter_in st img (first_meter k m)) a)

abbrev pub fixed_second : State → List ℕ → ℕ → ℕ → ℕ → List ℕ
fixed_second st img k m a =
    cond (moves_credit k) (meter_line st img (own_meter k m) (fixed_rolled (own_meter k m) (meter_in st img (own_meter k m)) a)) (replicate 8 0)

abbrev pub fixed_event_of : State → List ℕ → ℕ → ℕ → ℕ → Outcome
fixed_event_of st img k m a =
    answered (refusal (fixed_event_rows st img k m a)) st (event_needs k)
    (with_lines st (Event k m a) (fixed_line st img k m a) (fixed_second st img k m a))

-- on any state and any bytes
abbrev pub EventAsFixed : Type 0
EventAsFixed = (st : State) (img : List ℕ) (k m a : ℕ) → event_of st img fixed_moduli k m a ≡ fixed_event_of st img k m a
