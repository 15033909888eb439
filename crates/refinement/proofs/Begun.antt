-- Begin, a wide one too, abort and withdraw keep the state valid: a writer that is not open holds nothing, and a closed one neither; no rule asks for a
-- prepared one.
use Prim.Native.Nat.{ℕ, ◌<◌}
use mathlib.Core.Bool.{Bool, true, false, not}
use mathlib.Core.List.{List}
use mathlib.Core.Path.{◌≡◌, refl, ap, ◌∙◌}
use native.Mathlib.Omega.{arith}
use lib.Dec.{eqb}
use lib.ListN.{length, set, length-set}
use lib.Seq.{get_or-set_same, get_or-set_other}
use borrow.Author.Tests.{eqb-true, eqb-false, eq-eqb, not-false, ltb-false, lt-ltb}
use Rattle.bounded.specs.Rows.{refusal}
use Rattle.bounded.proofs.Below.{none-at, none_made}
use Rattle.bounded.proofs.Rows.{none-apply}
use Rattle.bounded.proofs.Tests.{case_on, contradicts, row_keeps}
use Rattle.entries.specs.Entries.{no_keys}
use Rattle.entries.proofs.EntryLaws.{Right, none_right}
use Rattle.state.specs.State.{State, Writers, Wide}
use Rattle.state.specs.Held.{is_open, no_writer, held_at, some_hold}
use Rattle.state.specs.Wide.{some_wide, is_wide, no_wide, begun_wide, dropped, some_open}
use Rattle.operations.specs.Operations.{is_idle}
use Rattle.validity.specs.Validity.{state_ok}
use Rattle.refinement.specs.Commit.{closed_writer}
use Rattle.refinement.specs.Settled.{with_prepared}
use Rattle.refinement.proofs.ValidWriters.{HeldFine, PreparedFine, WideFine}
use Rattle.refinement.proofs.StateValid.{narrow, valid, valid-ok}
use Rattle.refinement.proofs.Pending.{idle-ok}
use Rattle.refinement.proofs.Closed.{closed-fine, closed-prepared}
use Rattle.refinement.proofs.Sized.{Sized, closed-sized}
use Rattle.refinement.specs.Calls.{with_writers, with_wide, begin_rows, begin_wide_rows, abort_rows}
use Rattle.replay.specs.Table.{slot_in}

-- other writers, nothing pending
writers-valid : (st : State) (ws : Writers) → state_ok st ≡ true → is_idle st.pending.op ≡ true → HeldFine st.sizes (slot_in st.table) ws.opened ws.held
    → (ws.prepared < 4 → PreparedFine st.sizes st.head st.tail ws.opened ws.held ws.prepared)
    → (d : Wide) → Right st.sizes d.keys d.count → (d.writer < 4 → WideFine st.sizes ws.opened ws.held ws.prepared d.writer)
    → state_ok (with_wide (with_writers st ws) d) ≡ true
writers-valid st ws e i h p d r k =
    let v = valid st e in
    let new = with_wide (with_writers st ws) d in
    valid-ok new
    (record { legal = v.legal; positions = v.positions; slots = v.slots; held = h; next_low = v.next_low; lasts = v.lasts; prepared = p; entries = r; wide = k; pending = idle-ok new i })

-- what the rows say
pub record BeginTaken (st : State) (w : ℕ) : Type 0 where
  pub is-valid : state_ok st ≡ true
  pub quiet : is_idle st.pending.op ≡ true
  pub writer-low : w < 4
  pub none-wide : some_wide st.wide.writer ≡ false
  pub closed : is_open st.writers.opened w ≡ false

pub begin-taken : (st : State) (w : ℕ) → refusal (begin_rows st w) ≡ 0 → BeginTaken st w
begin-taken st w r =
    let h = none-apply (begin_rows st w) (omega arith) r in
    record {
      is-valid = not-false (state_ok st) h.0;
      quiet = not-false (is_idle st.pending.op) h.1.0;
      writer-low = omega (arith, ltb-false 3 w h.1.1.0);
      none-wide = h.1.1.1.0;
      closed = h.1.1.1.1.0;
    }

pub record AbortTaken (st : State) (w : ℕ) : Type 0 where
  pub is-valid : state_ok st ≡ true
  pub quiet : is_idle st.pending.op ≡ true
  pub writer-low : w < 4
  pub opened : is_open st.writers.opened w ≡ true
  pub unprepared : st.writers.prepared ≡ w → ⊥

pub abort-taken : (st : State) (w : ℕ) → refusal (abort_rows st w) ≡ 0 → AbortTaken st w
abort-taken st w r =
    let h = none-apply (abort_rows st w) (omega arith) r in
    record {
      is-valid = not-false (state_ok st) h.0;
      quiet = not-false (is_idle st.pending.op) h.1.0;
      writer-low = omega (arith, ltb-false 3 w h.1.1.0);
      opened = not-false (is_open st.writers.opened w) h.1.1.1.0;
      unprepared = eqb-false st.writers.prepared w h.1.1.1.1.0;
    }

-- the writers after a begin
abbrev pub opening : State → ℕ → Writers
opening st w = record { opened = set st.writers.opened w true; held = st.writers.held; prepared = st.writers.prepared }

-- an open writer stays open where a closed one is opened
stays_open : (opened : List Bool) (w v : ℕ) → is_open opened w ≡ false → is_open opened v ≡ true → is_open (set opened w true) v ≡ true
stays_open opened w v closed o =
    case_on (eqb v w)
    (λ e. contradicts o (ap (is_open opened) (eqb-true v w e) ∙ closed))
    (λ e. get_or-set_other opened w v true false (eqb-false v w e) ∙ o)

-- held lines keep the rules where a closed writer is opened
pub opened-fine : (st : State) (w : ℕ) → state_ok st ≡ true → is_open st.writers.opened w ≡ false
    → HeldFine st.sizes (slot_in st.table) (opening st w).opened st.writers.held
opened-fine st w ok closed =
    let v = valid st ok in
    record {
      opens = λ s u l m n. stays_open st.writers.opened w u closed (v.held.opens s u l m n);
      owned = v.held.owned;
      apart = v.held.apart;
    }

pub begin-valid : (st : State) (w : ℕ) → refusal (begin_rows st w) ≡ 0 → state_ok (with_writers st (opening st w)) ≡ true
begin-valid st w r =
    let h = begin-taken st w r in
    writers-valid st (opening st w) h.is-valid h.quiet (opened-fine st w h.is-valid h.closed)
    (λ l. let p = (valid st h.is-valid).prepared l in record { opens = stays_open st.writers.opened w st.writers.prepared h.closed p.opens; fits = p.fits })
    st.wide (valid st h.is-valid).entries (λ l. contradicts (lt-ltb st.wide.writer 4 l) h.none-wide)

-- a wide transaction is begun where every writer is closed
pub record BeginWideTaken (st : State) (w : ℕ) : Type 0 where
  pub is-valid : state_ok st ≡ true
  pub quiet : is_idle st.pending.op ≡ true
  pub writer-low : w < 4
  pub some : st.sizes.entries ≡ 0 → ⊥
  pub closed : (v : ℕ) → v < 4 → is_open st.writers.opened v ≡ false

pub begin-wide-taken : (st : State) (w : ℕ) → refusal (begin_wide_rows st w) ≡ 0 → BeginWideTaken st w
unfolding some_open
begin-wide-taken st w r =
    let h = none-apply (begin_wide_rows st w) (omega arith) r in
    record {
      is-valid = not-false (state_ok st) h.0;
      quiet = not-false (is_idle st.pending.op) h.1.0;
      writer-low = omega (arith, ltb-false 3 w h.1.1.0);
      some = eqb-false st.sizes.entries 0 h.1.1.1.0;
      closed = λ v l. none-at (is_open st.writers.opened) 4 v l h.1.1.1.1.0;
    }

-- so none holds a line
pub all-unheld : (st : State) → state_ok st ≡ true → ((v : ℕ) → v < 4 → is_open st.writers.opened v ≡ false) → (v s : ℕ) → v < 4 → s < st.sizes.slots
    → held_at st.writers.held v s ≡ 0
all-unheld st ok closed v s l m =
    case_on (eqb (held_at st.writers.held v s) 0)
    (λ t. eqb-true (held_at st.writers.held v s) 0 t)
    (λ t. contradicts ((valid st ok).held.opens s v m l (eqb-false (held_at st.writers.held v s) 0 t)) (closed v l))

abbrev pub beginning_wide : State → ℕ → State
beginning_wide st w = with_wide (with_writers st (opening st w)) (begun_wide w)

pub begin-wide-valid : (st : State) (w : ℕ) → length st.writers.opened ≡ 4 → refusal (begin_wide_rows st w) ≡ 0 → state_ok (beginning_wide st w) ≡ true
unfolding some_hold
begin-wide-valid st w four r =
    let h = begin-wide-taken st w r in
    let ok = h.is-valid in
    let opened = st.writers.opened in
    let held = st.writers.held in
    writers-valid st (opening st w) ok h.quiet (opened-fine st w ok (h.closed w h.writer-low))
    (λ l. contradicts ((valid st ok).prepared l).opens (h.closed st.writers.prepared l))
    (begun_wide w) (none_right st.sizes no_keys)
    (λ l.
    record {
      opens = get_or-set_same opened w true false (omega (arith, four, h.writer-low));
      closed = λ v m n. get_or-set_other opened w v true false n ∙ h.closed v m;
      unprepared = λ q. let m : st.writers.prepared < 4 = omega (arith, q, h.writer-low) in contradicts ((valid st ok).prepared m).opens (h.closed st.writers.prepared m);
      unheld = λ s m. none_made (λ v. not (eqb (held_at held v s) 0)) 4 (λ v k. ap not (eq-eqb (held_at held v s) 0 (all-unheld st ok h.closed v s k m)));
    })

-- the state after an abort
abbrev pub aborting : State → ℕ → State
aborting st w = with_wide (with_writers st (closed_writer st.sizes st.writers w)) (dropped st.wide w)

pub abort-valid : (st : State) (w : ℕ) → refusal (abort_rows st w) ≡ 0 → state_ok (aborting st w) ≡ true
unfolding closed_writer
abort-valid st w r =
    let h = abort-taken st w r in
    let v = valid st h.is-valid in
    writers-valid st (closed_writer st.sizes st.writers w) h.is-valid h.quiet (closed-fine st.sizes v.legal st.writers w (slot_in st.table) v.held)
    (λ l. closed-prepared st.sizes v.legal st.writers w st.head st.tail h.unprepared (v.prepared l))
    (dropped st.wide w)
    (row_keeps (λ (d : Wide). Right st.sizes d.keys d.count) (is_wide st.wide w) no_wide st.wide (none_right st.sizes no_keys) v.entries)
    (case_on (is_wide st.wide w)
    (λ t. rw t (λ l. absurd (omega arith)))
    (λ t. rw t (λ l. absurd (narrow st w v h.writer-low h.opened t l))))

-- a withdraw leaves no writer prepared
abbrev pub unprepared : State → State
unprepared st = with_writers st (with_prepared st.writers no_writer)

pub unprepared-valid : (st : State) → state_ok st ≡ true → is_idle st.pending.op ≡ true → state_ok (unprepared st) ≡ true
unprepared-valid st e i =
    let v = valid st e in
    writers-valid st (with_prepared st.writers no_writer) e i v.held (λ l. absurd (omega arith)) st.wide v.entries
    (λ l. let f = v.wide l in record { opens = f.opens; closed = f.closed; unprepared = λ q. omega arith; unheld = f.unheld })

-- and the lengths and ranges of its arrays
pub begin-sized : (st : State) (w : ℕ) → Sized st → Sized (with_writers st (opening st w))
begin-sized st w h =
    record { table = h.table; map = h.map; writers = record { four = length-set st.writers.opened w true ∙ h.writers.four; sixty-four = h.writers.sixty-four; held_low = h.writers.held_low }; keys = h.keys }

pub begin-wide-sized : (st : State) (w : ℕ) → Sized st → Sized (beginning_wide st w)
begin-wide-sized st w h = let g = begin-sized st w h in record { table = g.table; map = g.map; writers = g.writers; keys = refl }

pub unprepared-sized : (st : State) → Sized st → Sized (unprepared st)
unprepared-sized st h = record { table = h.table; map = h.map; writers = record { four = h.writers.four; sixty-four = h.writers.sixty-four; held_low = h.writers.held_low }; keys = h.keys }

pub abort-sized : (st : State) (w : ℕ) → Sized st → Sized (aborting st w)
abort-sized st w h =
    record {
      table = h.table;
      map = h.map;
      writers = closed-sized st.sizes st.writers w h.writers;
      keys = row_keeps (λ (d : Wide). length d.keys ≡ 64) (is_wide st.wide w) no_wide st.wide refl h.keys;
    }
