-- The next store of what is pending, told before it is made. A host whose memory keeps no order runs the stores that come before the next one that decides,
-- makes them durable, makes the deciding one by itself, and makes that durable (`AnyOrder`).
use Rattle.std.specs.Prelude.{ℕ, ◌+◌, ◌<◌, false, cond, List, ◌≡◌, eqb, Result, MatchResult}
use Rattle.bounded.specs.Below.{first_below}
use Rattle.state.specs.State.{State}
use Rattle.operations.specs.Operations.{needs}
use Rattle.refinement.specs.Stores.{store_at, with_made, left}
use Rattle.refinement.specs.Calls.{step_row}
use Rattle.any_order.specs.AnyOrder.{to_fence}
use Rattle.rows.specs.declared.Refusal.{Refusal}
use Rattle.rows.specs.Numbers.{number}
use Rattle.op_stores.specs.Beside.{Beside}
use Rattle.op_stores.specs.Started.{before_fence}
use Rattle.call_step.specs.declared.ranges.NextRange.{NextRange}
use Rattle.call_step.specs.declared.telling.NextStore.{NextStore}

-- how many stores come before the next one that decides; where none of those left does, all of them
unfoldable pub before_deciding : State → ℕ
before_deciding st = first_below (left st) (λ i. to_fence (with_made st (st.pending.made + i)) st.pending.op)

-- the rows are step's: 8, 4, 10; where one applies, zeros
abbrev pub next_store_of : State → List ℕ → NextStore
next_store_of st img =
    cond (eqb (step_row st img) 0)
    (record {
      at = store_at st st.pending.op st.pending.made;
      decides = to_fence st st.pending.op;
      before = before_deciding st;
    })
    (record { at = 0; decides = false; before = 0 })

-- how many stores are left, none where the call is turned back
abbrev pub left_of : State → List ℕ → ℕ
left_of st img = cond (eqb (step_row st img) 0) (left st) 0

-- what is told of the next store, and of its range, where no row applies; else the row
abbrev pub TellsStore : Result NextStore Refusal → State → List ℕ → Type 0
TellsStore r st img = MatchResult r (λ next. (0 ≡ step_row st img) × (next ≡ next_store_of st img)) (λ row. number row ≡ step_row st img)

abbrev pub TellsRange : Result NextRange Refusal → State → List ℕ → Type 0
TellsRange r st img =
    MatchResult r
    (λ told. (0 ≡ step_row st img) × (told.next ≡ next_store_of st img) × Beside st told.beside × (told.left ≡ left_of st img))
    (λ row. number row ≡ step_row st img)

-- where a call that is told to stop before a fence stops is where the theorem over memory in any order wants one
abbrev pub StopsWhereItDecides : Type 0
StopsWhereItDecides = (st : State) → st.pending.made < needs st st.pending.op → before_fence st ≡ before_deciding st
