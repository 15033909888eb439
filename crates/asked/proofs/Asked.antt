-- An operation asked for, as the definitions say it: its rows, what no row tells, and which operations need stores.
use Prim.Native.Nat.{ℕ, ◌<◌}
use mathlib.Core.Bool.{Bool, true, false, cond}
use mathlib.Core.List.{List}
use mathlib.Core.Path.{◌≡◌, refl}
use native.Mathlib.Omega.{arith}
use lib.ListN.{replicate}
use Rattle.state.specs.State.{State}
use Rattle.state.specs.declared.Pending.{Pending}
use Rattle.state.specs.declared.Op.{Op}
use Rattle.state.specs.declared.Op.TheVariants.{Write, Consolidate, Event, Log, Format}
use Rattle.operations.specs.Operations.{needs}
use Rattle.refinement.proofs.EventRows.{event-some}

-- an operation with none of its stores made, and the state with it pending
abbrev pub pending_from : Op → List ℕ → Pending
pending_from op line = record { op = op; made = 0; line = line; second = replicate 8 0 }

abbrev pub pending_with : State → Pending → State
pending_with st p =
    record {
      sizes = st.sizes;
      head = st.head;
      tail = st.tail;
      next = st.next;
      table = st.table;
      map = st.map;
      writers = st.writers;
      wide = st.wide;
      pending = p;
    }

row-past : (b : Bool) (k m : ℕ) → 0 < k → cond b k m ≡ 0 → (b ≡ false) × (m ≡ 0)
row-past true k m l e = absurd (omega arith)
row-past false k m l e = (refl, e)

-- a write and a consolidation need some
pub write-needs : (st : State) (w p l o n : ℕ) → needs st (Write w p l o n) ≡ 0 → ⊥
unfolding needs
write-needs st w p l o n e = omega arith

pub consolidate-needs : (st : State) (p : ℕ) → needs st (Consolidate p) ≡ 0 → ⊥
unfolding needs
consolidate-needs st p e = omega arith

pub log-needs : (st : State) (p l o n : ℕ) → needs st (Log p l o n) ≡ 0 → ⊥
unfolding needs
log-needs st p l o n e = omega arith

pub format-needs : (st : State) → needs st Format ≡ 0 → ⊥
unfolding needs
format-needs st e = omega arith

-- and an event
pub event-needs : (st : State) (k m a : ℕ) → needs st (Event k m a) ≡ 0 → ⊥
unfolding needs
event-needs st k m a e = omega (arith, e, event-some k)
