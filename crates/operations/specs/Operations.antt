-- The operations: the rows from 11 on that turn each back, and how many stores each needs (document 01, "Calls").
use Rattle.std.specs.Prelude.{ℕ, ◌+◌, ◌-◌, ◌*◌, ◌<◌, ◌≤◌, Bool, true, false, ◌&&◌, ◌||◌, not, cond, List, [], ◌∷◌, ◌++◌, ltb, leb, eqb, get_or, length}
use Rattle.bounded.specs.Below.{those}
use Rattle.bounded.specs.Rows.{Row}
use Rattle.layout.specs.declared.Sizes.{Sizes}
use Rattle.layout.specs.Layout.{Legal, image_words}
use Rattle.replay.specs.declared.Table.{Table}
use Rattle.journal.specs.Records.{live_count}
use Rattle.replay.specs.Table.{slot_in, slot_of, no_position}
use Rattle.masks.specs.Lines.{count_lines}
use Rattle.meters.specs.Meters.{event_known, first_meter, own_meter, event_needs}
use Rattle.state.specs.State.{State}
use Rattle.state.specs.declared.Op.{Op}
use Rattle.state.specs.declared.Op.TheVariants.{Idle, Write, Commit, Consolidate, Checkpoint, Event, Prepare, Confirm, Log, Copy, Format}
use Rattle.state.specs.Slots.{slot_of_page, free_after}
use Rattle.state.specs.Held.{is_open, some_prepared, others_hold, some_hold, held_slots}
use Rattle.state.specs.Wide.{some_wide, no_entry_left}

-- no operation
abbrev pub is_idle : Op → Bool
is_idle Idle = true
is_idle (Write w p l o n) = false
is_idle (Commit w) = false
is_idle (Consolidate p) = false
is_idle Checkpoint = false
is_idle (Event k m a) = false
is_idle (Prepare w) = false
is_idle (Confirm w) = false
is_idle (Log p l o n) = false
is_idle Copy = false
is_idle Format = false

abbrev pub live : State → ℕ
live st = live_count st.sizes st.head st.tail

-- the slot of page p, S where it has none
abbrev pub slot_for : State → ℕ → ℕ
slot_for st p = slot_of st.sizes st.table p

abbrev pub slotted : State → ℕ → Bool
slotted st p = ltb (slot_for st p) st.sizes.slots

-- what the rows and the stores lean on: the state's numbers are in their ranges
pub record Ranged (st : State) : Type 0 where
  pub legal : Legal st.sizes
  pub head-low : st.head < 2 * st.sizes.places
  pub tail-low : st.tail < 2 * st.sizes.places
  pub live-high : live st ≤ st.sizes.places
  pub next_low : st.next < st.sizes.slots

-- ---- the rows from 11 on; s is the slot of the page, S where it has none

-- 11, without the data
abbrev pub write_args_bad : Sizes → ℕ → ℕ → ℕ → ℕ → ℕ → Bool
write_args_bad z w p l o n = ltb 3 w || leb z.pages p || ltb 63 l || eqb n 0 || ltb 64 (o + n)

-- 14: another writer holds the line
abbrev pub line_taken : Sizes → List ℕ → ℕ → ℕ → ℕ → Bool
line_taken z held w s l = ltb s z.slots && others_hold held w s l

-- 15: the page has no slot and none is free
abbrev pub none_free : Sizes → List ℕ → ℕ → ℕ → Bool
none_free z page next s = leb z.slots s && leb z.slots (free_after z page next)

-- 19: live records and n new ones do not fit
abbrev pub journal_full_of : Sizes → ℕ → ℕ → ℕ → Bool
journal_full_of z head tail n = ltb z.places (live_count z head tail + n)

abbrev pub journal_full : State → ℕ → Bool
journal_full st n = journal_full_of st.sizes st.head st.tail n

-- of a write. 23 (document 02, L8): of a write, its writer is prepared; of a commit, a prepare, a consolidation or an event, a writer is
abbrev pub write_rows_at : State → ℕ → ℕ → ℕ → ℕ → ℕ → ℕ → List Row
write_rows_at st s w p l o n =
    (write_args_bad st.sizes w p l o n, 11)
    ∷ (not (is_open st.writers.opened w), 13)
    ∷ (eqb st.writers.prepared w, 23)
    ∷ (line_taken st.sizes st.writers.held w s l, 14)
    ∷ (none_free st.sizes st.table.page st.next s, 15)
    ∷ []

abbrev pub write_rows : State → ℕ → ℕ → ℕ → ℕ → ℕ → List Row
write_rows st w p l o n = write_rows_at st (slot_for st p) w p l o n

-- a wide write's, by the wide writer (document 02, L14). 30: a new line with all entries used. It takes no slot, so there is no 15; by row 8 every other
-- writer is closed and it is not prepared, so that 14 and 23 cannot apply
abbrev pub log_rows : State → ℕ → ℕ → ℕ → ℕ → List Row
log_rows st p l o n =
    (write_args_bad st.sizes st.wide.writer p l o n, 11)
    ∷ (not (is_open st.writers.opened st.wide.writer), 13)
    ∷ (no_entry_left st.sizes st.wide p l, 30)
    ∷ []

-- of a commit
abbrev pub commit_rows : State → ℕ → List Row
commit_rows st w =
    (ltb 3 w, 11)
    ∷ (not (is_open st.writers.opened w), 13)
    ∷ (some_prepared st.writers.prepared, 23)
    ∷ (journal_full st (length (held_slots st.sizes st.writers.held w)), 19)
    ∷ []

-- of a prepare, which checks as a commit does. 29: a wide transaction is open
abbrev pub prepare_rows : State → ℕ → List Row
prepare_rows st w =
    (ltb 3 w, 11)
    ∷ (some_wide st.wide.writer, 29)
    ∷ (not (is_open st.writers.opened w), 13)
    ∷ (some_prepared st.writers.prepared, 23)
    ∷ (journal_full st (length (held_slots st.sizes st.writers.held w)), 19)
    ∷ []

-- of a wide commit that is pending: row 8 leaves out 11 and 13, as one that a mount returned has no writer; it appends no record, so that 19 cannot apply
abbrev pub copy_rows : State → List Row
copy_rows st = (some_prepared st.writers.prepared, 23) ∷ []

-- of a confirm, and of a withdraw. 24: the writer is not prepared
abbrev pub confirm_rows : State → ℕ → List Row
confirm_rows st w = (ltb 3 w, 11) ∷ (not (eqb st.writers.prepared w), 24) ∷ []

-- 17: the page has no slot; 18: a writer holds a line of it
abbrev pub consolidate_rows : State → ℕ → List Row
consolidate_rows st p =
    (leb st.sizes.pages p, 11)
    ∷ (some_prepared st.writers.prepared, 23)
    ∷ (not (slotted st p), 17)
    ∷ (some_hold st.writers.held (slot_for st p), 18)
    ∷ (journal_full st 1, 19)
    ∷ []

-- an event's, s being the slot of page 0, without rows 26 and 21, which row 8 leaves out (document 02, L2 and L10). 20: there is no such
-- event; 12: writer 1 is open; 14: another writer holds one of its lines
abbrev pub event_next_rows_at : State → ℕ → ℕ → ℕ → List Row
event_next_rows_at st s k m =
    (is_open st.writers.opened 1, 12)
    ∷ (some_prepared st.writers.prepared, 23)
    ∷ (line_taken st.sizes st.writers.held 1 s (first_meter k m) || line_taken st.sizes st.writers.held 1 s (own_meter k m), 14)
    ∷ (none_free st.sizes st.table.page st.next s, 15)
    ∷ []

abbrev pub event_next_rows : State → ℕ → ℕ → List Row
event_next_rows st k m = event_next_rows_at st (slot_for st 0) k m

abbrev pub event_rows : State → ℕ → ℕ → List Row
event_rows st k m = (some_wide st.wide.writer, 29) ∷ (not (event_known k m), 20) ∷ (event_next_rows st k m ++ ((journal_full st 1, 19) ∷ []))

-- the rows of an operation
abbrev pub op_rows : State → Op → List Row
op_rows st Idle = []
op_rows st (Write w p l o n) = write_rows st w p l o n
op_rows st (Commit w) = commit_rows st w
op_rows st (Consolidate p) = consolidate_rows st p
op_rows st Checkpoint = []
op_rows st (Event k m a) = event_rows st k m
op_rows st (Prepare w) = prepare_rows st w
op_rows st (Confirm w) = confirm_rows st w
op_rows st (Log p l o n) = log_rows st p l o n
op_rows st Copy = copy_rows st
op_rows st Format = []

-- ---- stores needed

-- n slots with held lines need 4 n + 1; none held, none needed
abbrev pub commit_needs : ℕ → ℕ
commit_needs n = cond (eqb n 0) 0 (4 * n + 1)

-- their records alone need 4 n, and head behind them 1; none held, none needed
abbrev pub prepare_needs : ℕ → ℕ
prepare_needs n = 4 * n

abbrev pub confirm_needs : ℕ → ℕ
confirm_needs n = cond (eqb n 0) 0 1

-- n entries need 8 n + 2: n, their lines, and 0; no entry, none needed
abbrev pub copy_needs : ℕ → ℕ
copy_needs n = cond (eqb n 0) 0 (8 * n + 2)

-- c lines copied: the k in the spare where k ≤ 32, else the 64 − k others; 8 c + 6
unfoldable pub copy_count : ℕ → ℕ
copy_count bitmap = cond (leb (count_lines bitmap) 32) (count_lines bitmap) (64 - count_lines bitmap)

abbrev pub consolidate_needs : ℕ → ℕ
consolidate_needs bitmap = 8 * copy_count bitmap + 6

-- the slots with a live record, rising; m of them need 3 m + 1, and head equal to tail none
unfoldable pub recorded_slots : Sizes → List ℕ → List ℕ
recorded_slots z last = those z.slots (λ s. not (eqb (get_or last s 0) no_position))

abbrev pub checkpoint_needs : ℕ → ℕ → ℕ → ℕ
checkpoint_needs head tail m = cond (eqb head tail) 0 (3 * m + 1)

-- a format stores every word of the image, and the layout twice (document 02, L6)
abbrev pub format_needs : Sizes → ℕ
format_needs z = image_words z + 1

-- the same of an operation; a wide transaction uses so many entries
unfoldable pub needs : State → Op → ℕ
needs st Idle = 0
needs st (Write w p l o n) = 8
needs st (Commit w) = commit_needs (length (held_slots st.sizes st.writers.held w))
needs st (Consolidate p) = consolidate_needs (get_or st.table.bitmap (slot_for st p) 0)
needs st Checkpoint = checkpoint_needs st.head st.tail (length (recorded_slots st.sizes st.table.last))
needs st (Event k m a) = event_needs k
needs st (Prepare w) = prepare_needs (length (held_slots st.sizes st.writers.held w))
needs st (Confirm w) = confirm_needs (length (held_slots st.sizes st.writers.held w))
needs st (Log p l o n) = 9
needs st Copy = copy_needs st.wide.count
needs st Format = format_needs st.sizes

-- what the count leans on, and the rows make sure of: a writer below 4, a page with a slot
abbrev pub Asked : Sizes → List ℕ → Op → Type 0
Asked z page Idle = Unit {0}
Asked z page (Write w p l o n) = Unit {0}
Asked z page (Commit w) = w < 4
Asked z page (Consolidate p) = slot_of_page z page p < z.slots
Asked z page Checkpoint = Unit {0}
Asked z page (Event k m a) = Unit {0}
Asked z page (Prepare w) = w < 4
Asked z page (Confirm w) = w < 4
Asked z page (Log p l o n) = Unit {0}
Asked z page Copy = Unit {0}
Asked z page Format = Unit {0}
