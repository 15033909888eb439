-- A call on words asks for an operation and goes on with it at once, as far as it is told: what comes of it.
use Rattle.std.specs.Prelude.{ℕ, ◌-◌, cond, List, ◌≡◌, eqb}
use Rattle.state.specs.State.{State}
use Rattle.state.specs.declared.Op.{Op}
use Rattle.state.specs.declared.Op.TheVariants.{Idle, Write, Commit, Consolidate, Checkpoint, Event, Prepare, Confirm, Log, Copy, Format}
use Rattle.refinement.specs.Stores.{left}
use Rattle.refinement.specs.Outcome.{Outcome}
use Rattle.refinement.specs.Calls.{world_of, run_of, run_bytes}
use Rattle.refinement.specs.Run.{run, exec}
use Rattle.answers.specs.Answers.{Answer, number_of, stores_of}
use Rattle.op_stores.specs.declared.Until.{Until}
use Rattle.op_stores.specs.declared.Until.TheVariants.{Asked, Fence, End}

-- of an operation with m stores made and n left: those that come before the next store that decides. That is the last one of a commit, a confirm, a
-- consolidation and an event (head) and of a checkpoint (tail); the first and the last of a copying (word 6) and of a format (the layout word);
-- none of a write, a wide write and a prepare
abbrev pub fence_in : Op → ℕ → ℕ → ℕ
fence_in Idle m n = n
fence_in (Write w p l o k) m n = n
fence_in (Commit w) m n = n - 1
fence_in (Consolidate p) m n = n - 1
fence_in Checkpoint m n = n - 1
fence_in (Event k i a) m n = n - 1
fence_in (Prepare w) m n = n
fence_in (Confirm w) m n = n - 1
fence_in (Log p l o k) m n = n
fence_in Copy m n = cond (eqb m 0) 0 (n - 1)
fence_in Format m n = cond (eqb m 0) 0 (n - 1)

-- those that a call makes: none, as document 01 has it; those before the next one that decides; all
abbrev pub budget_in : Until → Op → ℕ → ℕ → ℕ
budget_in Asked op m n = 0
budget_in Fence op m n = fence_in op m n
budget_in End op m n = n

-- the same of what is pending
abbrev pub before_fence : State → ℕ
before_fence st = fence_in st.pending.op st.pending.made (left st)

abbrev pub budget : Until → State → ℕ
budget u st = budget_in u st.pending.op st.pending.made (left st)

-- o is what comes of asking. Refused or complete at once it makes no store; else a run of so many stores follows. The answer is that of asking
abbrev pub started_of : Outcome → List ℕ → Until → Outcome
started_of o img u =
    cond (eqb o.stores 0) o (record { number = o.number; stores = o.stores; state = (run_of o.state img (budget u o.state)).state })

abbrev pub started_bytes : Outcome → List ℕ → Until → List ℕ
started_bytes o img u = cond (eqb o.stores 0) img (run_bytes o.state img (budget u o.state))

-- the answer, the state and the bytes after a call are those
abbrev pub Started : Answer → State → List ℕ → Outcome → List ℕ → Until → Type 0
Started a after bytes o img u =
    (record { number = number_of a; stores = stores_of a; state = after } ≡ started_of o img u) × (bytes ≡ started_bytes o img u)

-- the world that it leaves is the one after two calls of demand 3's lists: the call that asks, and a run
abbrev pub started_run : Outcome → Until → ℕ
started_run o u = cond (eqb o.stores 0) 0 (budget u o.state)

abbrev pub InLists : Type 0
InLists =
    (o : Outcome) (img : List ℕ) (u : Until) → (exec (run (started_run o u)) (world_of o.state img)).world
    ≡ world_of (started_of o img u).state (started_bytes o img u)
