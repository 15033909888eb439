-- Eight words put from word i on; a state with something pending.
use Rattle.std.specs.Prelude.{ℕ, ◌+◌, List, get_or, set}
use Rattle.state.specs.State.{State}
use Rattle.state.specs.declared.Pending.{Pending}
use Rattle.state.specs.declared.Op.{Op}
use Rattle.state_words.specs.Decoded.{op_by}

abbrev pub eight : List ℕ → ℕ → List ℕ → List ℕ
eight c i l =
    set (set (set (set (set (set (set (set c i (get_or l 0 0)) (i + 1) (get_or l 1 0)) (i + 2) (get_or l 2 0)) (i + 3) (get_or l 3 0)) (i + 4) (get_or l 4 0))
    (i + 5) (get_or l 5 0)) (i + 6) (get_or l 6 0)) (i + 7) (get_or l 7 0)

abbrev pub op_in : List ℕ → Op
op_in p = op_by (get_or p 0 0) (get_or p 1 0) (get_or p 2 0) (get_or p 3 0) (get_or p 4 0) (get_or p 5 0)

abbrev pub with_pending : State → Pending → State
with_pending st i =
    record {
      sizes = st.sizes;
      head = st.head;
      tail = st.tail;
      next = st.next;
      table = st.table;
      map = st.map;
      writers = st.writers;
      wide = st.wide;
      pending = i;
    }
