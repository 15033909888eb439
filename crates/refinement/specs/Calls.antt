-- The calls: for each the table of refusals in its order, and what a taken one does (document 01, "Calls").
use Rattle.std.specs.Prelude.{ℕ, ◌*◌, ◌+◌, ◌-◌, min, Bool, true, ◌&&◌, ◌||◌, not, cond, List, [], ◌∷◌, ◌++◌, ltb, leb, eqb, length, set, replicate}
use Rattle.bounded.specs.Below.{some_below}
use Rattle.bounded.specs.Rows.{Row, refusal}
use Rattle.layout.specs.Layout.{image_length}
use Rattle.image.specs.Lines.{line_bytes, merged, merge_changes, line_words}
use Rattle.words.specs.Words.{over, bytes_of, word_at}
use Rattle.meters.specs.Meters.{moduli_ok, modulus_of, event_known, moves_credit, first_meter, own_meter, event_needs, rolled, first_number, amount_bad}
use Rattle.moduli_text.specs.Text.{text_row, moduli_in}
use Rattle.state.specs.State.{State, Writers, own_frame}
use Rattle.state.specs.declared.Op.{Op}
use Rattle.state.specs.declared.Op.TheVariants.{Idle, Write, Commit, Consolidate, Checkpoint, Event, Prepare, Confirm, Log, Copy}
use Rattle.state.specs.Held.{is_open, no_writer, some_prepared}
use Rattle.state.specs.Wide.{some_wide, is_wide, begun_wide, dropped, entry_for, has_entry, some_open}
use Rattle.operations.specs.Operations.{is_idle, journal_full, write_rows, log_rows, commit_rows, prepare_rows, confirm_rows, consolidate_rows}
use Rattle.operations.specs.Operations.{needs, event_next_rows}
use Rattle.validity.specs.Validity.{state_ok}
use Rattle.refinement.specs.Wide.{entry_bytes}
use Rattle.refinement.specs.Settled.{with_prepared, with_lines}
use Rattle.refinement.specs.Commit.{closed_writer}
use Rattle.refinement.specs.Frames.{seen_frame, holds}
use Rattle.refinement.specs.Recall.{frame_of}
use Rattle.refinement.specs.Freeing.{freed_slot, freed_page}
use Rattle.refinement.specs.Stores.{World, completed, stepped, stepped_by, left}
use Rattle.refinement.specs.Outcome.{Outcome, answered}
pub use Rattle.refinement.specs.Settled.{with_writers, with_wide, with_pending}

-- 8: a state that breaks the rules; 4: a short buffer; 9, 10: an operation is pending, none is
abbrev pub row_state : State → Row
row_state st = (not (state_ok st), 8)

abbrev pub row_short : State → ℕ → Row
row_short st n = (ltb n (image_length st.sizes), 4)

abbrev pub row_pending : State → Row
row_pending st = (not (is_idle st.pending.op), 9)

abbrev pub row_not_pending : State → Row
row_not_pending st = (is_idle st.pending.op, 10)

-- the rows that come first where nothing may be pending
abbrev pub quiet_rows : State → ℕ → List Row
quiet_rows st n = row_state st ∷ row_short st n ∷ row_pending st ∷ []

-- and those where something must be
abbrev pub busy_rows : State → ℕ → List Row
busy_rows st n = row_state st ∷ row_short st n ∷ row_not_pending st ∷ []

-- ---- begin, abort

-- 29: a wide transaction is open
abbrev pub begin_rows : State → ℕ → List Row
begin_rows st w = row_state st ∷ row_pending st ∷ (ltb 3 w, 11) ∷ (some_wide st.wide.writer, 29) ∷ (is_open st.writers.opened w, 12) ∷ []

unfoldable pub begin_of : State → ℕ → Outcome
begin_of st w =
    answered (refusal (begin_rows st w)) st 0 (with_writers st (record {
      opened = set st.writers.opened w true;
      held = st.writers.held;
      prepared = st.writers.prepared;
    }))

-- a wide transaction (document 02, L14). 28: there are no entries; 29: a writer is open
abbrev pub begin_wide_rows : State → ℕ → List Row
begin_wide_rows st w =
    row_state st ∷ row_pending st ∷ (ltb 3 w, 11) ∷ (eqb st.sizes.entries 0, 28) ∷ (some_open st.writers.opened, 29) ∷ []

unfoldable pub begin_wide_of : State → ℕ → Outcome
begin_wide_of st w =
    answered (refusal (begin_wide_rows st w)) st 0
    (with_wide (with_writers st (record { opened = set st.writers.opened w true; held = st.writers.held; prepared = st.writers.prepared })) (begun_wide w))

-- 23: the writer is prepared
abbrev pub abort_rows : State → ℕ → List Row
abort_rows st w =
    row_state st ∷ row_pending st ∷ (ltb 3 w, 11) ∷ (not (is_open st.writers.opened w), 13) ∷ (eqb st.writers.prepared w, 23) ∷ []

unfoldable pub abort_of : State → ℕ → Outcome
abort_of st w =
    answered (refusal (abort_rows st w)) st 0 (with_wide (with_writers st (closed_writer st.sizes st.writers w)) (dropped st.wide w))

-- ---- operations asked for: complete where no store is needed, else pending

abbrev pub asked : ℕ → State → Op → List ℕ → Outcome
asked row st op line =
    answered row st (needs st op) (cond (eqb (needs st op) 0) (completed st op) (with_pending st op line))

-- the line as the writer reads it, a wide writer its own entry first; and with the data's first n bytes laid over
abbrev pub seen_line : State → List ℕ → ℕ → ℕ → ℕ → List ℕ
seen_line st img w p l =
    cond (is_wide st.wide w && has_entry st.wide p l) (entry_bytes img st.sizes (entry_for st.wide p l))
    (line_bytes img st.sizes (seen_frame st w p l) l)

abbrev pub finished_line : State → List ℕ → ℕ → ℕ → ℕ → ℕ → ℕ → List ℕ → List ℕ
finished_line st img w p l o n bytes = line_words (merged (seen_line st img w p l) o n bytes)

abbrev pub write_call_rows : State → List ℕ → ℕ → ℕ → ℕ → ℕ → ℕ → List ℕ → List Row
write_call_rows st img w p l o n bytes =
    row_state st ∷ row_short st (length img) ∷ row_pending st ∷ (ltb (length bytes) n, 11)
    ∷ cond (is_wide st.wide w) (log_rows st p l o n) (write_rows st w p l o n)

-- the writer holds the line, a wide one as an entry, and the data change none of its bytes (document 02, L3)
unfoldable pub changes_nothing : State → List ℕ → ℕ → ℕ → ℕ → ℕ → ℕ → List ℕ → Bool
changes_nothing st img w p l o n bytes =
    cond (is_wide st.wide w) (has_entry st.wide p l) (holds st w p l) && not (merge_changes (seen_line st img w p l) o n bytes)

-- a wide writer's write is one of its own kind
abbrev pub write_op : State → ℕ → ℕ → ℕ → ℕ → ℕ → Op
write_op st w p l o n = cond (is_wide st.wide w) (Log p l o n) (Write w p l o n)

-- where nothing changes the write is taken with no stores, and the state is as it was: the line is held and its page has a slot, or it has its entry; else
-- 8 stores are pending, a wide writer's 9
unfoldable pub write_of : State → List ℕ → ℕ → ℕ → ℕ → ℕ → ℕ → List ℕ → Outcome
write_of st img w p l o n bytes =
    let idle = changes_nothing st img w p l o n bytes in
    answered (refusal (write_call_rows st img w p l o n bytes)) st (cond idle 0 (cond (is_wide st.wide w) 9 8))
    (cond idle st (with_pending st (write_op st w p l o n) (finished_line st img w p l o n bytes)))

abbrev pub commit_call_rows : State → List ℕ → ℕ → List Row
commit_call_rows st img w = row_state st ∷ row_short st (length img) ∷ row_pending st ∷ commit_rows st w

-- a wide writer's is a copying
abbrev pub commit_op : State → ℕ → Op
commit_op st w = cond (is_wide st.wide w) Copy (Commit w)

unfoldable pub commit_of : State → List ℕ → ℕ → Outcome
commit_of st img w = asked (refusal (commit_call_rows st img w)) st (commit_op st w) (replicate 8 0)

-- prepare, confirm and withdraw (document 02, L8): a commit in two parts. A withdraw needs no stores: no writer is prepared, and the transaction goes on
abbrev pub prepare_call_rows : State → List ℕ → ℕ → List Row
prepare_call_rows st img w = row_state st ∷ row_short st (length img) ∷ row_pending st ∷ prepare_rows st w

unfoldable pub prepare_of : State → List ℕ → ℕ → Outcome
prepare_of st img w = asked (refusal (prepare_call_rows st img w)) st (Prepare w) (replicate 8 0)

abbrev pub confirm_call_rows : State → List ℕ → ℕ → List Row
confirm_call_rows st img w = row_state st ∷ row_short st (length img) ∷ row_pending st ∷ confirm_rows st w

unfoldable pub confirm_of : State → List ℕ → ℕ → Outcome
confirm_of st img w = asked (refusal (confirm_call_rows st img w)) st (Confirm w) (replicate 8 0)

unfoldable pub withdraw_of : State → List ℕ → ℕ → Outcome
withdraw_of st img w = answered (refusal (confirm_call_rows st img w)) st 0 (with_writers st (with_prepared st.writers no_writer))

abbrev pub consolidate_call_rows : State → List ℕ → ℕ → List Row
consolidate_call_rows st img p = row_state st ∷ row_short st (length img) ∷ row_pending st ∷ consolidate_rows st p

unfoldable pub consolidate_of : State → List ℕ → ℕ → Outcome
consolidate_of st img p = asked (refusal (consolidate_call_rows st img p)) st (Consolidate p) (replicate 8 0)

-- a slot freed: the consolidation of the slot chosen. 23: a writer is prepared; 22: every taken slot has a held line, or none is taken
abbrev pub free_call_rows : State → List ℕ → List Row
free_call_rows st img =
    row_state st
    ∷ row_short st (length img)
    ∷ row_pending st
    ∷ (some_prepared st.writers.prepared, 23)
    ∷ (leb st.sizes.slots (freed_slot st), 22)
    ∷ (journal_full st 1, 19)
    ∷ []

unfoldable pub free_of : State → List ℕ → Outcome
free_of st img = asked (refusal (free_call_rows st img)) st (Consolidate (freed_page st)) (replicate 8 0)

abbrev pub checkpoint_call_rows : State → List ℕ → List Row
checkpoint_call_rows st img = row_state st ∷ row_short st (length img) ∷ row_pending st ∷ []

unfoldable pub checkpoint_of : State → List ℕ → Outcome
checkpoint_of st img = asked (refusal (checkpoint_call_rows st img)) st Checkpoint (replicate 8 0)

-- ---- events (document 02, L2 and L10), lent the moduli ms

-- the stored number of meter m as writer 1, who is closed, reads it; and its finished line, with number v
abbrev pub meter_in : State → List ℕ → ℕ → ℕ
meter_in st img m = word_at (seen_line st img 1 0 m) 0

abbrev pub meter_line : State → List ℕ → ℕ → ℕ → List ℕ
meter_line st img m v = finished_line st img 1 0 m 0 8 (bytes_of 8 v)

-- the two finished lines of an event: credit's first; a count has one
abbrev pub event_line : State → List ℕ → List ℕ → ℕ → ℕ → ℕ → List ℕ
event_line st img ms k m a = meter_line st img (first_meter k m) (first_number ms k m (meter_in st img (first_meter k m)) a)

abbrev pub event_second : State → List ℕ → List ℕ → ℕ → ℕ → ℕ → List ℕ
event_second st img ms k m a =
    cond (moves_credit k) (meter_line st img (own_meter k m) (rolled ms (own_meter k m) (meter_in st img (own_meter k m)) a)) (replicate 8 0)

-- 29, 20, 26 (not 24 moduli in the range), 12, 23, 14, 15, then 21, then 19
abbrev pub event_call_rows : State → List ℕ → List ℕ → ℕ → ℕ → ℕ → List Row
event_call_rows st img ms k m a =
    row_state st ∷ row_short st (length img) ∷ row_pending st
    ∷ (some_wide st.wide.writer, 29)
    ∷ (not (event_known k m), 20)
    ∷ (not (moduli_ok ms), 26)
    ∷ (event_next_rows st k m ++ ((amount_bad ms k m (meter_in st img (first_meter k m)) a, 21) ∷ (journal_full st 1, 19) ∷ []))

-- an event needs stores always
unfoldable pub event_of : State → List ℕ → List ℕ → ℕ → ℕ → ℕ → Outcome
event_of st img ms k m a =
    answered (refusal (event_call_rows st img ms k m a)) st (event_needs k)
    (with_lines st (Event k m a) (event_line st img ms k m a) (event_second st img ms k m a))

-- ---- load (document 02, L10): a text's moduli, for events to be lent

-- the stored number of meter m: that of its line's committed copy
abbrev pub meter_stored : State → List ℕ → ℕ → ℕ
meter_stored st img m = word_at (line_bytes img st.sizes (frame_of (own_frame st) st.sizes st.table 0 m) m) 0

-- 25 and 26 line by line; 27: a stored meter is not below its new modulus
abbrev pub load_rows : State → List ℕ → List ℕ → List Row
load_rows st img text =
    row_state st ∷ row_short st (length img) ∷ row_pending st
    ∷ (eqb (text_row text) 25, 25)
    ∷ (eqb (text_row text) 26, 26)
    ∷ (some_below 24 (λ m. leb (modulus_of (moduli_in text) m) (meter_stored st img m)), 27)
    ∷ []

-- its number and the moduli; a refused one gives 24 zeros, which no event takes
pub record Loading : Type 0 where
  pub number : ℕ
  pub moduli : List ℕ

unfoldable pub load_of : State → List ℕ → List ℕ → Loading
load_of st img text =
    let row = refusal (load_rows st img text) in record { number = row; moduli = cond (eqb row 0) (moduli_in text) (replicate 24 0) }

-- ---- read: the number, and the target after it

abbrev pub read_rows : State → List ℕ → ℕ → ℕ → ℕ → List ℕ → List Row
read_rows st img w p l target =
    row_state st ∷ row_short st (length img) ∷ row_pending st
    ∷ (ltb 3 w || leb st.sizes.pages p || ltb 63 l || ltb (length target) 64, 11)
    ∷ []

unfoldable pub read_row : State → List ℕ → ℕ → ℕ → ℕ → List ℕ → ℕ
read_row st img w p l target = refusal (read_rows st img w p l target)

unfoldable pub read_bytes : State → List ℕ → ℕ → ℕ → ℕ → List ℕ → List ℕ
read_bytes st img w p l target =
    cond (eqb (read_row st img w p l target) 0) (over target 0 (seen_line st img w p l)) target

-- ---- step, run: the outcome, and the image after it

abbrev pub step_rows : State → List ℕ → List Row
step_rows st img = busy_rows st (length img)

abbrev pub step_row : State → List ℕ → ℕ
step_row st img = refusal (step_rows st img)

abbrev pub world_of : State → List ℕ → World
world_of st img = record { st = st; image = img }

-- step makes one store; run makes at most k, the smaller of k and those left
unfoldable pub run_of : State → List ℕ → ℕ → Outcome
run_of st img k = let n = min k (left st) in answered (step_row st img) st n (stepped_by n (world_of st img)).st

unfoldable pub run_bytes : State → List ℕ → ℕ → List ℕ
run_bytes st img k = cond (eqb (step_row st img) 0) (stepped_by (min k (left st)) (world_of st img)).image img

unfoldable pub step_of : State → List ℕ → Outcome
step_of st img = answered (step_row st img) st 1 (stepped (world_of st img)).st

unfoldable pub step_bytes : State → List ℕ → List ℕ
step_bytes st img = cond (eqb (step_row st img) 0) (stepped (world_of st img)).image img
