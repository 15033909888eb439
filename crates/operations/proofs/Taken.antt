-- What no row from 11 on tells of an operation, as facts.
use Prim.Native.Nat.{ℕ, ◌+◌, ◌<◌, ◌≤◌}
use mathlib.Core.Bool.{true, false, ◌||◌}
use mathlib.Core.Path.{◌≡◌}
use native.Mathlib.Omega.{arith}
use borrow.Author.Tests.{ltb-true, ltb-false, leb-false, eqb-true, eqb-false, not-false}
use lib.Dec.{ltb, leb, eqb}
use lib.ListN.{length}
use Rattle.bounded.specs.Rows.{refusal}
use Rattle.bounded.proofs.Rows.{none-apply}
use Rattle.bounded.proofs.Tests.{or_left, or_right}
use Rattle.layout.specs.declared.Sizes.{Sizes}
use Rattle.meters.specs.Meters.{event_known, first_meter, own_meter}
use Rattle.state.specs.State.{State}
use Rattle.state.specs.declared.Op.{Op}
use Rattle.state.specs.declared.Op.TheVariants.{Idle, Write, Commit, Consolidate, Checkpoint, Event, Prepare, Confirm, Log, Copy, Format}
use Rattle.state.specs.Held.{is_open, some_prepared, some_hold, held_slots}
use Rattle.state.specs.Wide.{some_wide, no_entry_left}
use Rattle.operations.specs.Operations.{live, slot_for, slotted, write_args_bad, line_taken, none_free, write_rows, commit_rows, prepare_rows, log_rows, confirm_rows, consolidate_rows, op_rows, Asked}

-- row 11 of a write
pub record ArgsGood (z : Sizes) (w p l o n : ℕ) : Type 0 where
  pub writer-low : w < 4
  pub page-low : p < z.pages
  pub line_low : l < 64
  pub some : 0 < n
  pub fits : o + n ≤ 64

pub args-good : (z : Sizes) (w p l o n : ℕ) → write_args_bad z w p l o n ≡ false → ArgsGood z w p l o n
args-good z w p l o n e =
    let e4 = or_left (ltb 3 w || leb z.pages p || ltb 63 l || eqb n 0) (ltb 64 (o + n)) e in
    let e3 = or_left (ltb 3 w || leb z.pages p || ltb 63 l) (eqb n 0) e4 in
    let e2 = or_left (ltb 3 w || leb z.pages p) (ltb 63 l) e3 in
    let n0 : n ≡ 0 → ⊥ = eqb-false n 0 (or_right (ltb 3 w || leb z.pages p || ltb 63 l) (eqb n 0) e4) in
    record {
      writer-low = omega (arith, ltb-false 3 w (or_left (ltb 3 w) (leb z.pages p) e2));
      page-low = leb-false z.pages p (or_right (ltb 3 w) (leb z.pages p) e2);
      line_low = omega (arith, ltb-false 63 l (or_right (ltb 3 w || leb z.pages p) (ltb 63 l) e3));
      some = omega arith;
      fits = ltb-false 64 (o + n) (or_right (ltb 3 w || leb z.pages p || ltb 63 l || eqb n 0) (ltb 64 (o + n)) e);
    }

pub record WriteTaken (st : State) (w p l o n : ℕ) : Type 0 where
  pub args : ArgsGood st.sizes w p l o n
  pub opened : is_open st.writers.opened w ≡ true
  pub unprepared : st.writers.prepared ≡ w → ⊥
  pub line-free : line_taken st.sizes st.writers.held w (slot_for st p) l ≡ false
  pub some-free : none_free st.sizes st.table.page st.next (slot_for st p) ≡ false

pub write-taken : (st : State) (w p l o n : ℕ) → refusal (write_rows st w p l o n) ≡ 0 → WriteTaken st w p l o n
write-taken st w p l o n e =
    let h = none-apply (write_rows st w p l o n) (omega arith) e in
    record {
      args = args-good st.sizes w p l o n h.0;
      opened = not-false (is_open st.writers.opened w) h.1.0;
      unprepared = eqb-false st.writers.prepared w h.1.1.0;
      line-free = h.1.1.1.0;
      some-free = h.1.1.1.1.0;
    }

-- what a commit and a prepared writer have in common
pub record CommitTaken (st : State) (w : ℕ) : Type 0 where
  pub writer-low : w < 4
  pub opened : is_open st.writers.opened w ≡ true
  pub fits : live st + length (held_slots st.sizes st.writers.held w) ≤ st.sizes.places

pub commit-taken : (st : State) (w : ℕ) → refusal (commit_rows st w) ≡ 0 → CommitTaken st w
commit-taken st w e =
    let h = none-apply (commit_rows st w) (omega arith) e in
    record {
      writer-low = omega (arith, ltb-false 3 w h.0);
      opened = not-false (is_open st.writers.opened w) h.1.0;
      fits = ltb-false st.sizes.places (live st + length (held_slots st.sizes st.writers.held w)) h.1.1.1.0;
    }

-- a commit, or a prepare, is taken where no writer is prepared
pub commit-alone : (st : State) (w : ℕ) → refusal (commit_rows st w) ≡ 0 → some_prepared st.writers.prepared ≡ false
commit-alone st w e = (none-apply (commit_rows st w) (omega arith) e).1.1.0

-- a confirm by the writer who is
pub record ConfirmTaken (st : State) (w : ℕ) : Type 0 where
  pub writer-low : w < 4
  pub prepared : st.writers.prepared ≡ w

pub confirm-taken : (st : State) (w : ℕ) → refusal (confirm_rows st w) ≡ 0 → ConfirmTaken st w
confirm-taken st w e =
    let h = none-apply (confirm_rows st w) (omega arith) e in
    record { writer-low = omega (arith, ltb-false 3 w h.0); prepared = eqb-true st.writers.prepared w (not-false (eqb st.writers.prepared w) h.1.0) }

pub record ConsolidateTaken (st : State) (p : ℕ) : Type 0 where
  pub page-low : p < st.sizes.pages
  pub none-prepared : some_prepared st.writers.prepared ≡ false
  pub has-slot : slotted st p ≡ true
  pub none-held : some_hold st.writers.held (slot_for st p) ≡ false
  pub fits : live st + 1 ≤ st.sizes.places

pub consolidate-taken : (st : State) (p : ℕ) → refusal (consolidate_rows st p) ≡ 0 → ConsolidateTaken st p
consolidate-taken st p e =
    let h = none-apply (consolidate_rows st p) (omega arith) e in
    record {
      page-low = leb-false st.sizes.pages p h.0;
      none-prepared = h.1.0;
      has-slot = not-false (slotted st p) h.1.1.0;
      none-held = h.1.1.1.0;
      fits = ltb-false st.sizes.places (live st + 1) h.1.1.1.1.0;
    }

-- a prepare where there is no wide transaction
pub prepare-taken : (st : State) (w : ℕ) → refusal (prepare_rows st w) ≡ 0 → CommitTaken st w
prepare-taken st w e =
    let h = none-apply (prepare_rows st w) (omega arith) e in
    record {
      writer-low = omega (arith, ltb-false 3 w h.0);
      opened = not-false (is_open st.writers.opened w) h.1.1.0;
      fits = ltb-false st.sizes.places (live st + length (held_slots st.sizes st.writers.held w)) h.1.1.1.1.0;
    }

pub prepare-alone : (st : State) (w : ℕ) → refusal (prepare_rows st w) ≡ 0 → (some_wide st.wide.writer ≡ false) × (some_prepared st.writers.prepared ≡ false)
prepare-alone st w e = let h = none-apply (prepare_rows st w) (omega arith) e in (h.1.0, h.1.1.1.0)

-- a wide write
pub record LogTaken (st : State) (p l o n : ℕ) : Type 0 where
  pub args : ArgsGood st.sizes st.wide.writer p l o n
  pub opened : is_open st.writers.opened st.wide.writer ≡ true
  pub room : no_entry_left st.sizes st.wide p l ≡ false

pub log-taken : (st : State) (p l o n : ℕ) → refusal (log_rows st p l o n) ≡ 0 → LogTaken st p l o n
log-taken st p l o n e =
    let h = none-apply (log_rows st p l o n) (omega arith) e in
    record {
      args = args-good st.sizes st.wide.writer p l o n h.0;
      opened = not-false (is_open st.writers.opened st.wide.writer) h.1.0;
      room = h.1.1.0;
    }

-- a wide commit that is pending
pub copy-taken : (st : State) → refusal (op_rows st Copy) ≡ 0 → some_prepared st.writers.prepared ≡ false
copy-taken st e = (none-apply (op_rows st Copy) (omega arith) e).0

pub record EventTaken (st : State) (k m : ℕ) : Type 0 where
  pub none-wide : some_wide st.wide.writer ≡ false
  pub known : event_known k m ≡ true
  pub closed : is_open st.writers.opened 1 ≡ false
  pub none-prepared : some_prepared st.writers.prepared ≡ false
  pub first-free : line_taken st.sizes st.writers.held 1 (slot_for st 0) (first_meter k m) ≡ false
  pub own-free : line_taken st.sizes st.writers.held 1 (slot_for st 0) (own_meter k m) ≡ false
  pub some-free : none_free st.sizes st.table.page st.next (slot_for st 0) ≡ false
  pub fits : live st + 1 ≤ st.sizes.places

pub event-taken : (st : State) (k m a : ℕ) → refusal (op_rows st (Event k m a)) ≡ 0 → EventTaken st k m
event-taken st k m a e =
    let h = none-apply (op_rows st (Event k m a)) (omega arith) e in
    let first = line_taken st.sizes st.writers.held 1 (slot_for st 0) (first_meter k m) in
    let own = line_taken st.sizes st.writers.held 1 (slot_for st 0) (own_meter k m) in
    record {
      none-wide = h.0;
      known = not-false (event_known k m) h.1.0;
      closed = h.1.1.0;
      none-prepared = h.1.1.1.0;
      first-free = or_left first own h.1.1.1.1.0;
      own-free = or_right first own h.1.1.1.1.0;
      some-free = h.1.1.1.1.1.0;
      fits = ltb-false st.sizes.places (live st + 1) h.1.1.1.1.1.1.0;
    }

-- what the count of an operation's stores leans on
pub op-asked : (st : State) (op : Op) → refusal (op_rows st op) ≡ 0 → Asked st.sizes st.table.page op
op-asked st Idle e = tt
op-asked st (Write w p l o n) e = tt
op-asked st (Commit w) e = (commit-taken st w e).writer-low
op-asked st (Consolidate p) e = ltb-true (slot_for st p) st.sizes.slots (consolidate-taken st p e).has-slot
op-asked st Checkpoint e = tt
op-asked st (Event k m a) e = tt
op-asked st (Prepare w) e = (prepare-taken st w e).writer-low
op-asked st (Confirm w) e = (confirm-taken st w e).writer-low
op-asked st (Log p l o n) e = tt
op-asked st Copy e = tt
op-asked st Format e = tt

-- r is the slot that the code found
pub slot-low : (st : State) (p r : ℕ) → slotted st p ≡ true → r ≡ slot_for st p → r < st.sizes.slots
slot-low st p r t e = rw e (ltb-true (slot_for st p) st.sizes.slots t)
