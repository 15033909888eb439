-- A state in which no operation is pending, as each operation leaves it.
use Rattle.std.specs.Prelude.{ℕ, true, List, set, replicate}
use Rattle.replay.specs.declared.Table.{Table}
use Rattle.state.specs.State.{State, Writers, Wide}
use Rattle.state.specs.declared.Pending.{Pending}
use Rattle.state.specs.declared.Op.{Op}
use Rattle.state.specs.declared.Op.TheVariants.{Idle}

-- no operation pending
abbrev pub no_pending : Pending
no_pending = record { op = Idle; made = 0; line = replicate 8 0; second = replicate 8 0 }

-- the state with other head, tail, next slot, slots and writers, and no operation pending; the map and the wide transaction stay
abbrev pub settled : State → ℕ → ℕ → ℕ → Table → Writers → State
settled st head tail next t ws =
    record { sizes = st.sizes; head = head; tail = tail; next = next; table = t; map = st.map; writers = ws; wide = st.wide; pending = no_pending }

-- the state with writers ws
abbrev pub with_writers : State → Writers → State
with_writers st ws =
    record {
      sizes = st.sizes;
      head = st.head;
      tail = st.tail;
      next = st.next;
      table = st.table;
      map = st.map;
      writers = ws;
      wide = st.wide;
      pending = st.pending;
    }

-- the state with the wide transaction d
abbrev pub with_wide : State → Wide → State
with_wide st d =
    record {
      sizes = st.sizes;
      head = st.head;
      tail = st.tail;
      next = st.next;
      table = st.table;
      map = st.map;
      writers = st.writers;
      wide = d;
      pending = st.pending;
    }

-- the state with the map m
abbrev pub with_map : State → List ℕ → State
with_map st m =
    record {
      sizes = st.sizes;
      head = st.head;
      tail = st.tail;
      next = st.next;
      table = st.table;
      map = m;
      writers = st.writers;
      wide = st.wide;
      pending = st.pending;
    }

-- the writers with writer w prepared
abbrev pub with_prepared : Writers → ℕ → Writers
with_prepared ws w = record { opened = ws.opened; held = ws.held; prepared = w }

-- the state with writer w open and no operation pending
abbrev pub with_open : State → ℕ → State
with_open st w =
    settled st st.head st.tail st.next st.table (record {
      opened = set st.writers.opened w true;
      held = st.writers.held;
      prepared = st.writers.prepared;
    })

-- the state with an operation pending, none of its stores made; with two finished lines, and with one
abbrev pub with_lines : State → Op → List ℕ → List ℕ → State
with_lines st op line second =
    record {
      sizes = st.sizes;
      head = st.head;
      tail = st.tail;
      next = st.next;
      table = st.table;
      map = st.map;
      writers = st.writers;
      wide = st.wide;
      pending = record { op = op; made = 0; line = line; second = second };
    }

abbrev pub with_pending : State → Op → List ℕ → State
with_pending st op line = with_lines st op line (replicate 8 0)
