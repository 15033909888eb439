-- A state in one list of words: where each part stands, and the state that any words are.
use Rattle.std.specs.Prelude.{ℕ, Bool, not, cond, List, [], ◌∷◌, eqb, get_or, set, take, drop, replicate}
use Rattle.replay.specs.declared.Table.{Table}
use Rattle.state.specs.State.{State, Writers, Wide}
use Rattle.state.specs.declared.Places.{Places}
use Rattle.state.specs.declared.Pending.{Pending}
use Rattle.state.specs.declared.Op.{Op}
use Rattle.state.specs.declared.Op.TheVariants.{Idle, Write, Commit, Consolidate, Checkpoint, Event, Prepare, Confirm, Log, Copy, Format}

-- the parts: 0 sizes, 1 head, 2 tail, 3 next, 4 prepared, 5 wide, 6 count, 7 opened, 8 pending, 9 line, 10 second line,
-- 11 pages, 12 originals, 13 spares, 14 bitmaps, 15 last positions, 16 held lines, 17 keys, 18 the map
unfoldable pub start : ℕ → ℕ
start k = get_or (0 ∷ 4 ∷ 5 ∷ 6 ∷ 7 ∷ 8 ∷ 9 ∷ 10 ∷ 14 ∷ 24 ∷ 32 ∷ 40 ∷ 56 ∷ 72 ∷ 88 ∷ 104 ∷ 120 ∷ 184 ∷ 256 ∷ []) k 0

unfoldable pub size : ℕ → ℕ
size k = get_or (4 ∷ 1 ∷ 1 ∷ 1 ∷ 1 ∷ 1 ∷ 1 ∷ 4 ∷ 8 ∷ 8 ∷ 8 ∷ 16 ∷ 16 ∷ 16 ∷ 16 ∷ 16 ∷ 64 ∷ 64 ∷ 1024 ∷ []) k 0

unfoldable pub part : List ℕ → ℕ → List ℕ
part c k = take (size k) (drop (start k) c)

-- a flag is any number but 0
unfoldable pub flags : List ℕ → List Bool
flags [] = []
flags (n ∷ l) = not (eqb n 0) ∷ flags l

-- the operation by its number: none for any other number
abbrev pub op_by : ℕ → ℕ → ℕ → ℕ → ℕ → ℕ → Op
op_by k a b c d e =
    cond (eqb k 1) (Write a b c d e) (cond (eqb k 2) (Commit a) (cond (eqb k 3) (Consolidate a) (cond (eqb k 4) Checkpoint (cond (eqb k 5) (Event a b c)
    (cond (eqb k 6) (Prepare a) (cond (eqb k 7) (Confirm a) (cond (eqb k 8) (Log a b c d) (cond (eqb k 9) Copy (cond (eqb k 10) Format Idle)))))))))

-- what is pending: nothing where the number is 0, whatever the other words are
abbrev pub nothing : Pending
nothing = record { op = Idle; made = 0; line = replicate 8 0; second = replicate 8 0 }

abbrev pub pending_from : List ℕ → List ℕ → List ℕ → Pending
pending_from n line second =
    cond (eqb (get_or n 0 0) 0) nothing
    (record {
      op = op_by (get_or n 0 0) (get_or n 1 0) (get_or n 2 0) (get_or n 3 0) (get_or n 4 0) (get_or n 5 0);
      made = get_or n 6 0;
      line = line;
      second = second;
    })

abbrev pub from_parts : (ℕ → List ℕ) → State
from_parts p =
    record {
      sizes = record { pages = get_or (p 0) 0 0; slots = get_or (p 0) 1 0; places = get_or (p 0) 2 0; entries = get_or (p 0) 3 0 };
      head = get_or (p 1) 0 0;
      tail = get_or (p 2) 0 0;
      next = get_or (p 3) 0 0;
      table = record { page = p 11; original = p 12; spare = p 13; bitmap = p 14; last = p 15 };
      map = p 18;
      writers = record { opened = flags (p 7); held = p 16; prepared = get_or (p 4) 0 0 };
      wide = record { writer = get_or (p 5) 0 0; count = get_or (p 6) 0 0; keys = p 17 };
      pending = pending_from (p 8) (p 9) (p 10);
    }

-- the state that the words are
unfoldable pub decoded : List ℕ → State
decoded c = from_parts (part c)

-- head, tail, next slot, prepared writer, wide one and its entries
abbrev pub places_of : State → Places
places_of st =
    record { head = st.head; tail = st.tail; next = st.next; prepared = st.writers.prepared; wide = st.wide.writer; count = st.wide.count }

-- a state with another table, other writers, another head, tail or next slot, another wide transaction, or nothing pending
abbrev pub with_table : State → Table → State
with_table st t =
    record {
      sizes = st.sizes;
      head = st.head;
      tail = st.tail;
      next = st.next;
      table = t;
      map = st.map;
      writers = st.writers;
      wide = st.wide;
      pending = st.pending;
    }

abbrev pub with_writers : State → Writers → State
with_writers st ws =
    record {
      sizes = st.sizes;
      head = st.head;
      tail = st.tail;
      next = st.next;
      table = st.table;
      map = st.map;
      writers = ws;
      wide = st.wide;
      pending = st.pending;
    }

abbrev pub with_head : State → ℕ → State
with_head st h =
    record {
      sizes = st.sizes;
      head = h;
      tail = st.tail;
      next = st.next;
      table = st.table;
      map = st.map;
      writers = st.writers;
      wide = st.wide;
      pending = st.pending;
    }

abbrev pub with_tail : State → ℕ → State
with_tail st q =
    record {
      sizes = st.sizes;
      head = st.head;
      tail = q;
      next = st.next;
      table = st.table;
      map = st.map;
      writers = st.writers;
      wide = st.wide;
      pending = st.pending;
    }

abbrev pub with_next : State → ℕ → State
with_next st s =
    record {
      sizes = st.sizes;
      head = st.head;
      tail = st.tail;
      next = s;
      table = st.table;
      map = st.map;
      writers = st.writers;
      wide = st.wide;
      pending = st.pending;
    }

abbrev pub with_wide : State → Wide → State
with_wide st d =
    record {
      sizes = st.sizes;
      head = st.head;
      tail = st.tail;
      next = st.next;
      table = st.table;
      map = st.map;
      writers = st.writers;
      wide = d;
      pending = st.pending;
    }

-- a state with another map
abbrev pub with_map : State → List ℕ → State
with_map st m =
    record {
      sizes = st.sizes;
      head = st.head;
      tail = st.tail;
      next = st.next;
      table = st.table;
      map = m;
      writers = st.writers;
      wide = st.wide;
      pending = st.pending;
    }

-- a state with m stores of what is pending made
abbrev pub with_made : State → ℕ → State
with_made st m =
    record {
      sizes = st.sizes;
      head = st.head;
      tail = st.tail;
      next = st.next;
      table = st.table;
      map = st.map;
      writers = st.writers;
      wide = st.wide;
      pending = record {
        op = st.pending.op;
        made = m;
        line = st.pending.line;
        second = st.pending.second;
      };
    }

abbrev pub with_nothing : State → State
with_nothing st =
    record {
      sizes = st.sizes;
      head = st.head;
      tail = st.tail;
      next = st.next;
      table = st.table;
      map = st.map;
      writers = st.writers;
      wide = st.wide;
      pending = nothing;
    }

-- a table with one bitmap or one last position replaced; writers with one open or closed, other held lines, another one prepared
abbrev pub with_bitmap : Table → ℕ → ℕ → Table
with_bitmap t s m = record { page = t.page; original = t.original; spare = t.spare; bitmap = set t.bitmap s m; last = t.last }

abbrev pub with_opened : Writers → List Bool → Writers
with_opened ws o = record { opened = o; held = ws.held; prepared = ws.prepared }

abbrev pub with_held : Writers → List ℕ → Writers
with_held ws h = record { opened = ws.opened; held = h; prepared = ws.prepared }

abbrev pub with_prepared : Writers → ℕ → Writers
with_prepared ws w = record { opened = ws.opened; held = ws.held; prepared = w }
