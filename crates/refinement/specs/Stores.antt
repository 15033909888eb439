-- Store i of an operation, and the state when its last store is made. Until then only the count of stores made changes.
use Rattle.std.specs.Prelude.{ℕ, ◌+◌, ◌-◌, min, Bool, cond, List, eqb}
use Rattle.bounded.specs.Below.{up_to}
use Rattle.words.specs.Words.{store}
use Rattle.layout.specs.Layout.{head_word}
use Rattle.fresh.specs.Fresh.{format_at, format_value}
use Rattle.state.specs.State.{State}
use Rattle.state.specs.declared.Op.{Op}
use Rattle.state.specs.declared.Op.TheVariants.{Idle, Write, Commit, Consolidate, Checkpoint, Event, Prepare, Confirm, Log, Copy, Format}
use Rattle.operations.specs.Operations.{needs}
use Rattle.refinement.specs.Settled.{settled}
use Rattle.refinement.specs.Write.{write_at, write_value, write_done}
use Rattle.refinement.specs.Commit.{commit_at, commit_value, commit_head, commit_done, prepare_done}
use Rattle.refinement.specs.Consolidate.{consolidate_at, consolidate_value, consolidate_done}
use Rattle.refinement.specs.Checkpoint.{checkpoint_at, checkpoint_value, without_lasts}
use Rattle.refinement.specs.Event.{event_at, event_value, event_done}
use Rattle.refinement.specs.Wide.{log_at, log_value, log_done, copy_at, copy_value, copy_done}

-- the word that store i goes to, which the state alone tells, and its value
abbrev pub store_at : State → Op → ℕ → ℕ
store_at st Idle i = 0
store_at st (Write w p l o n) i = write_at st p l i
store_at st (Commit w) i = commit_at st w i
store_at st (Consolidate p) i = consolidate_at st p i
store_at st Checkpoint i = checkpoint_at st i
store_at st (Event k m a) i = event_at st k m i
store_at st (Prepare w) i = commit_at st w i
store_at st (Confirm w) i = head_word
store_at st (Log p l o n) i = log_at st p l i
store_at st Copy i = copy_at st i
store_at st Format i = format_at st.sizes i

abbrev pub store_value : State → List ℕ → Op → ℕ → ℕ
store_value st img Idle i = 0
store_value st img (Write w p l o n) i = write_value st i
store_value st img (Commit w) i = commit_value st w i
store_value st img (Consolidate p) i = consolidate_value st img p i
store_value st img Checkpoint i = checkpoint_value st img i
store_value st img (Event k m a) i = event_value st k m i
store_value st img (Prepare w) i = commit_value st w i
store_value st img (Confirm w) i = commit_head st w
store_value st img (Log p l o n) i = log_value st p l i
store_value st img Copy i = copy_value st img i
store_value st img Format i = format_value st.sizes i

-- the image after store i
abbrev pub store_made : State → List ℕ → Op → ℕ → List ℕ
store_made st img op i = store img (store_at st op i) (store_value st img op i)

-- the image after the next n stores of the pending operation
abbrev pub stores_made : State → ℕ → List ℕ → List ℕ
stores_made st n img = up_to n (λ i m. store_made st m st.pending.op (st.pending.made + i)) img

-- the state when an operation is complete. That of a format is fresh all along
abbrev pub completed : State → Op → State
completed st Idle = st
completed st (Write w p l o n) = write_done st w p l
completed st (Commit w) = commit_done st w
completed st (Consolidate p) = consolidate_done st p
completed st Checkpoint = settled st st.head st.head st.next (without_lasts st.sizes st.table) st.writers
completed st (Event k m a) = event_done st k m
completed st (Prepare w) = prepare_done st w
completed st (Confirm w) = commit_done st w
completed st (Log p l o n) = log_done st p l
completed st Copy = copy_done st
completed st Format = settled st st.head st.tail st.next st.table st.writers

-- the state with m stores made
abbrev pub with_made : State → ℕ → State
with_made st m =
    record {
      sizes = st.sizes;
      head = st.head;
      tail = st.tail;
      next = st.next;
      table = st.table;
      map = st.map;
      writers = st.writers;
      wide = st.wide;
      pending = record {
        op = st.pending.op;
        made = m;
        line = st.pending.line;
        second = st.pending.second;
      };
    }

-- the state after the next n stores of the pending operation: with the last of them it is complete
abbrev pub state_after : State → ℕ → State
state_after st n =
    let m = st.pending.made + n in
    cond (eqb m (needs st st.pending.op)) (completed st st.pending.op) (with_made st m)

-- a state and the image that it works on
pub record World : Type 0 where
  pub st : State
  pub image : List ℕ

-- one store of the pending operation
unfoldable pub stepped : World → World
stepped v =
    let op = v.st.pending.op in
    let m = v.st.pending.made in
    record {
      st = cond (eqb (m + 1) (needs v.st op)) (completed v.st op) (with_made v.st (m + 1));
      image = store_made v.st v.image op m;
    }

-- the stores left, and n of them made one after the other
abbrev pub left : State → ℕ
left st = needs st st.pending.op - st.pending.made

unfoldable pub stepped_by : ℕ → World → World
stepped_by n v = up_to n (λ i u. stepped u) v
