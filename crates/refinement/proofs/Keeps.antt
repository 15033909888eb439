-- What a change of the state, or of the reference machine, keeps where the image, the slots, head and tail stay.
use Prim.Native.Nat.{ℕ, ◌<◌}
use mathlib.Core.List.{List}
use mathlib.Core.Path.{◌≡◌, ap, ◌∙◌}
use Rattle.bounded.proofs.Tab.{tab-ext}
use Rattle.state.specs.State.{State, Writers}
use Rattle.state.specs.declared.Pending.{Pending}
use Rattle.refinement.proofs.StateValid.{valid}
use Rattle.refinement.specs.Reference.{Reference, laid_over, recall_line}
use Rattle.refinement.proofs.Invariant.{Durable, Quiet}

-- the state with another next slot, other writers and another pending operation
abbrev pub same_slots : State → ℕ → Writers → Pending → State
same_slots st next ws q = record { sizes = st.sizes; head = st.head; tail = st.tail; next = next; table = st.table; map = st.map; writers = ws; wide = st.wide; pending = q }

pub durable-kept : {past : List ℕ} (st : State) (img : List ℕ) (b b' : Reference) (next : ℕ) (ws : Writers) (q : Pending) → ((p l : ℕ) → p < st.sizes.pages → l < 64 → recall_line b p l ≡ recall_line b' p l)
    → Durable past st img b → Durable past (same_slots st next ws q) img b'
durable-kept st img b b' next ws q e d =
    record {
      bytes = d.bytes;
      past-kept = d.past-kept;
      view = d.view;
      shows = d.shows;
      mounts = d.mounts;
      sizes-same = d.sizes-same;
      head-same = d.head-same;
      tail-same = d.tail-same;
      count_same = d.count_same;
      behind = d.behind;
      map-long = d.map-long;
      own = d.own;
      committed = λ p l h k. d.committed p l h k ∙ e p l h k;
    }

-- the reference machine's pages told otherwise, the same where there are lines
pub quiet-pages : {past : List ℕ} (st : State) (img : List ℕ) (b : Reference) (pages : ℕ → ℕ → ℕ → ℕ)
    → ((p l i : ℕ) → p < st.sizes.pages → l < 64 → i < 64 → b.pages p l i ≡ pages p l i)
    → Quiet past st img b → Quiet past st img (record { pages = pages; writes = b.writes; work = b.work; wide = b.wide })
quiet-pages st img b pages e q =
    let ws = q.writers in
    record {
      valid = q.valid;
      pending = q.pending;
      durable = durable-kept st img b _ st.next st.writers st.pending (λ p l h k. tab-ext 64 (b.pages p l) (pages p l) (λ i m. e p l i h k m)) q.durable;
      writers =
          record {
            four = ws.four;
            sixty-four = ws.sixty-four;
            held_low = ws.held_low;
            own-copy = λ w p l h k m n t.
                ws.own-copy w p l h k m n t
                ∙ tab-ext 64 (λ i. laid_over (b.writes w p l i) (b.pages p l i)) (λ i. laid_over (b.writes w p l i) (pages p l i)) (λ i j. ap (laid_over (b.writes w p l i)) (e p l i k m j));
            no_writes = ws.no_writes;
            ready = ws.ready;
          };
      work = q.work;
      narrow = record { state = q.narrow.state; book = q.narrow.book };
    }
