-- The lengths of a state's arrays and the range of its masks, which its Rust types give: every call keeps them.
use Prim.Native.Nat.{ℕ, ◌+◌, ◌*◌, ◌^◌, ◌<◌}
use mathlib.Core.Bool.{true, false}
use mathlib.Core.List.{List}
use mathlib.Core.Path.{◌≡◌, refl, ◌∙◌}
use native.Mathlib.Omega.{arith}
use lib.Dec.{ltb, eqb}
use lib.ListN.{length, get_or, set, length-set, get_or-eq_default}
use lib.Seq.{get_or-set_same, get_or-set_other}
use borrow.Author.Tests.{eqb-true, eqb-false, ltb-true, ltb-false}
use Rattle.bounded.specs.Rows.{refusal}
use Rattle.bounded.proofs.Below.{up-keeps}
use Rattle.bounded.proofs.Tab.{length-filled}
use Rattle.bounded.proofs.Tests.{case_on, row_keeps}
use Rattle.layout.specs.declared.Sizes.{Sizes}
use Rattle.journal.specs.declared.Slot.{Slot}
use Rattle.journal.specs.declared.Record.{Record}
use Rattle.replay.specs.declared.Table.{Table}
use Rattle.journal.specs.Records.{position}
use Rattle.replay.specs.Table.{no_position, slot_in, with_slot, replaced, replay}
use Rattle.replay.proofs.Tables.{Sixteen, sixteen-slot}
use Rattle.replay.proofs.Latest.{sixteen-replay}
use Rattle.masks.specs.Lines.{with_line}
use Rattle.masks.proofs.Members.{with-lt, exclusive-or-lt}
use Rattle.state.specs.State.{State, Writers, own_frame}
use Rattle.state.specs.declared.Op.{Op}
use Rattle.state.specs.declared.Op.TheVariants.{Idle, Write, Commit, Consolidate, Checkpoint, Event, Prepare, Confirm, Log, Copy, Format}
use Rattle.entries.specs.Entries.{key_of}
use Rattle.state.specs.Held.{held_at}
use Rattle.state.specs.Wide.{entry_for}
use Rattle.operations.specs.Operations.{slotted, op_rows}
use Rattle.meters.specs.Meters.{event_known, moves_credit, first_meter, own_meter}
use Rattle.meters.proofs.MeterLaws.{first-low, own_range}
use Rattle.operations.proofs.Taken.{write-taken, event-taken}
use Rattle.refinement.specs.Stores.{completed, with_made}
use Rattle.refinement.specs.Settled.{with_open}
use Rattle.refinement.specs.Write.{write_slot, write_table, write_done}
use Rattle.refinement.specs.Commit.{commit_slots, commit_record, closed_writer, commit_record_of, commit_done}
use Rattle.refinement.specs.Event.{line_asked, line_done, first_done, second_done, lines_done, event_done}
use Rattle.refinement.specs.Consolidate.{freeing_record}

-- each entry of a list is a word
abbrev pub Low : List ℕ → Type 0
Low l = (i : ℕ) → get_or l i 0 < 2 ^ 64

pub record SizedTable (t : Table) : Type 0 where
  pub sixteen : Sixteen t
  pub bitmap-low : Low t.bitmap

pub record SizedWriters (ws : Writers) : Type 0 where
  pub four : length ws.opened ≡ 4
  pub sixty-four : length ws.held ≡ 64
  pub held_low : Low ws.held

pub record Sized (st : State) : Type 0 where
  pub table : SizedTable st.table
  pub map : length st.map ≡ 1024
  pub writers : SizedWriters st.writers
  pub keys : length st.wide.keys ≡ 64

pub set-low : (l : List ℕ) (i x : ℕ) → Low l → x < 2 ^ 64 → Low (set l i x)
set-low l i x h m j =
    case_on (eqb j i)
    (λ e.
    case_on (ltb i (length l))
    (λ t. rw (eqb-true j i e, get_or-set_same l i x 0 (ltb-true i (length l) t)) m)
    (λ t.
    let q : get_or (set l i x) j 0 ≡ 0 = get_or-eq_default (set l i x) 0 (omega (arith, length-set l i x, ltb-false i (length l) t, eqb-true j i e)) in
    omega arith))
    (λ e. rw (get_or-set_other l i j x 0 (eqb-false j i e)) (h j))

-- replay keeps the range where the records' bitmaps have it
pub replay-low : (z : Sizes) (tail n : ℕ) (e : ℕ → Record) (t : Table) → Low t.bitmap → ((i : ℕ) → (e i).now.bitmap < 2 ^ 64) → Low (replay z tail n e t).bitmap
unfolding replay
replay-low z tail n e t h m =
    up-keeps (λ (u : Table). Low u.bitmap) (λ i u. replaced u (e i) (position z tail i)) n t
    (λ i u l k. set-low u.bitmap (e i).slot (e i).now.bitmap k (m i)) h

pub closed-sized : (z : Sizes) (ws : Writers) (w : ℕ) → SizedWriters ws → SizedWriters (closed_writer z ws w)
unfolding closed_writer
closed-sized z ws w h =
    record {
      four = length-set ws.opened w false ∙ h.four;
      sixty-four =
          up-keeps (λ (l : List ℕ). length l ≡ 64) (λ s l. set l (16 * w + s) 0) z.slots ws.held (λ s l m k. length-set l (16 * w + s) 0 ∙ k) h.sixty-four;
      held_low = up-keeps Low (λ s l. set l (16 * w + s) 0) z.slots ws.held (λ s l m k. set-low l (16 * w + s) 0 k (omega arith)) h.held_low;
    }

module _ (st : State) (h : Sized st) where
  commit-low : (w i : ℕ) → (commit_record st w i).now.bitmap < 2 ^ 64
  unfolding commit_record_of
  commit-low w i =
      let s = get_or (commit_slots st w) i 0 in
      exclusive-or-lt (slot_in st.table s).bitmap (held_at st.writers.held w s) (h.table.bitmap-low s) (h.writers.held_low (16 * w + s))

  freeing-low : (p i : ℕ) → (freeing_record st p i).now.bitmap < 2 ^ 64
  unfolding freeing_record
  freeing-low p i = omega arith

  written-table : (p : ℕ) → SizedTable (write_table st p)
  written-table p =
      let s = write_slot st p in
      let v : Slot = record { page = p; original = own_frame st p; spare = (slot_in st.table s).spare; bitmap = 0 } in
      row_keeps SizedTable (slotted st p) st.table (with_slot st.table s v) h.table
      (record { sixteen = sixteen-slot st.table s v h.table.sixteen; bitmap-low = set-low st.table.bitmap s 0 h.table.bitmap-low (omega arith) })

  written-sized : (w p l : ℕ) → l < 64 → Sized (write_done st w p l)
  written-sized w p l line =
      let s = write_slot st p in
      let held = st.writers.held in
      let m = with_line (held_at held w s) l in
      record {
        table = written-table p;
        map = h.map;
        writers =
            record {
              four = h.writers.four;
              sixty-four = length-set held (16 * w + s) m ∙ h.writers.sixty-four;
              held_low = set-low held (16 * w + s) m h.writers.held_low (with-lt (held_at held w s) l (h.writers.held_low (16 * w + s)) line);
            };
        keys = h.keys;
      }

  committed-sized : (w : ℕ) → Sized (commit_done st w)
  committed-sized w =
      let n = length (commit_slots st w) in
      let c = closed-sized st.sizes st.writers w h.writers in
      record {
        table =
            record {
              sixteen = sixteen-replay st.sizes st.head n (commit_record st w) st.table h.table.sixteen;
              bitmap-low = replay-low st.sizes st.head n (commit_record st w) st.table h.table.bitmap-low (commit-low w);
            };
        map = h.map;
        writers = record { four = c.four; sixty-four = c.sixty-four; held_low = c.held_low };
        keys = h.keys;
      }

-- the states of an event
open-sized : (st : State) → Sized st → Sized (with_open st 1)
open-sized st h =
    record { table = h.table; map = h.map; writers = record { four = length-set st.writers.opened 1 true ∙ h.writers.four; sixty-four = h.writers.sixty-four; held_low = h.writers.held_low }; keys = h.keys }

line-sized : (st : State) (l : ℕ) (words : List ℕ) → Sized st → l < 64 → Sized (line_done st l words)
unfolding line_done
line-sized st l words h low = written-sized (line_asked st l words) (record { table = h.table; map = h.map; writers = h.writers; keys = h.keys }) 1 0 l low

event-sized : (st : State) (k m : ℕ) → Sized st → event_known k m ≡ true → Sized (event_done st k m)
unfolding event_done
event-sized st k m h e =
    let low : first_meter k m < 64 = omega (arith, first-low k m e) in
    let own : own_meter k m < 64 = omega (arith, (own_range k m e).1) in
    let first : Sized (first_done st k m) = line-sized (with_open st 1) (first_meter k m) st.pending.line (open-sized st h) low in
    committed-sized (lines_done st k m)
    (row_keeps Sized (moves_credit k) (second_done st k m) (first_done st k m) (line-sized (first_done st k m) (own_meter k m) st.pending.second first own) first) 1

module _ (st : State) (h : Sized st) where
  pub completed-sized : (op : Op) → refusal (op_rows st op) ≡ 0 → Sized (completed st op)
  completed-sized Idle r = h
  completed-sized (Write w p l o n) r = written-sized st h w p l (write-taken st w p l o n r).args.line_low
  completed-sized (Commit w) r = committed-sized st h w
  completed-sized (Prepare w) r = record { table = h.table; map = h.map; writers = record { four = h.writers.four; sixty-four = h.writers.sixty-four; held_low = h.writers.held_low }; keys = h.keys }
  completed-sized (Confirm w) r = committed-sized st h w
  completed-sized (Log p l o n) r = record { table = h.table; map = h.map; writers = h.writers; keys = length-set st.wide.keys (entry_for st.wide p l) (key_of p l) ∙ h.keys }
  completed-sized Copy r = record { table = h.table; map = h.map; writers = closed-sized st.sizes st.writers st.wide.writer h.writers; keys = refl }
  completed-sized Format r = record { table = h.table; map = h.map; writers = h.writers; keys = h.keys }
  completed-sized (Event k m a) r = event-sized st k m h (event-taken st k m a r).known
  completed-sized (Consolidate p) r =
      record {
        table =
            record {
              sixteen = sixteen-replay st.sizes st.head 1 (freeing_record st p) st.table h.table.sixteen;
              bitmap-low = replay-low st.sizes st.head 1 (freeing_record st p) st.table h.table.bitmap-low (freeing-low st h p);
            };
        map = length-set st.map p _ ∙ h.map;
        writers = h.writers;
        keys = h.keys;
      }
  completed-sized Checkpoint r =
      let t = h.table.sixteen in
      record {
        table =
            record {
              sixteen = record { page = t.page; original = t.original; spare = t.spare; bitmap = t.bitmap; last = length-filled st.sizes.slots (λ s. no_position) st.table.last ∙ t.last };
              bitmap-low = h.table.bitmap-low;
            };
        map = h.map;
        writers = h.writers;
        keys = h.keys;
      }

  pub made-sized : (m : ℕ) → Sized (with_made st m)
  made-sized m = record { table = h.table; map = h.map; writers = h.writers; keys = h.keys }
