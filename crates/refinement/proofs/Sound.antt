-- What every call's proof has to show, and that a refused call keeps what holds.
use Prim.Native.Nat.{ℕ}
use mathlib.Core.Bool.{true, false, not}
use mathlib.Core.List.{List}
use mathlib.Core.Logic.{inl, inr}
use mathlib.Core.Path.{◌≡◌, refl, ap}
use Rattle.bounded.proofs.Tests.{contradicts}
use Rattle.state.specs.State.{State}
use Rattle.state.specs.declared.Op.{Op}
use Rattle.state.specs.declared.Op.TheVariants.{Idle, Write, Commit, Consolidate, Checkpoint, Event, Prepare, Confirm, Log, Copy, Format}
use Rattle.state.specs.declared.Pending.{Pending}
use Rattle.operations.specs.Operations.{is_idle}
use Rattle.validity.specs.Validity.{state_ok}
use Rattle.refinement.specs.Stores.{World}
use Rattle.refinement.specs.Calls.{world_of}
use Rattle.refinement.specs.Run.{Call, exec}
use Rattle.refinement.specs.Reference.{Reference, turn}
use Rattle.refinement.specs.Statement.{Right}
use Rattle.refinement.proofs.Next.{Next}
use Rattle.refinement.proofs.Invariant.{Durable, Narrow, Quiet, Busy, Doing, Related}

-- the answer is right, the sizes stay, and what holds between two calls holds again
pub record Sound (past : List ℕ) (c : Call) (v : World) (b : Reference) : Type 0 where
  pub right : Right c (exec c v) b
  pub sizes : (exec c v).world.st.sizes ≡ v.st.sizes
  pub related : Related past (exec c v).world (turn c (exec c v).number (exec c v).stores b)

-- a world after a call
abbrev pub After : List ℕ → World → World → Reference → Type 0
After past v u b = Next (Related past) v u b

-- ---- quiet or busy, by whether an operation is pending

doing-pending : (st : State) (img : List ℕ) (b : Reference) (op : Op) → Doing st img b op → is_idle op ≡ false
doing-pending st img b Idle d = absurd d
doing-pending st img b (Write w p l o n) d = refl
doing-pending st img b (Commit w) d = refl
doing-pending st img b (Consolidate p) d = refl
doing-pending st img b Checkpoint d = refl
doing-pending st img b (Event k m a) d = absurd d
doing-pending st img b (Prepare w) d = refl
doing-pending st img b (Confirm w) d = refl
doing-pending st img b (Log p l o n) d = absurd d
doing-pending st img b Copy d = absurd d
doing-pending st img b Format d = absurd d

module _ {past : List ℕ} (st : State) (img : List ℕ) (b : Reference) where
  pub quiet-idle : Quiet past st img b → is_idle st.pending.op ≡ true
  quiet-idle q = ap (λ (p : Pending). is_idle p.op) q.pending

  pub busy-pending : Busy past st img b → is_idle st.pending.op ≡ false
  busy-pending q = doing-pending st img b st.pending.op q.doing

  pub is-quiet : Related past (world_of st img) b → not (is_idle st.pending.op) ≡ false → Quiet past st img b
  is-quiet (inl q) e = q
  is-quiet (inr q) e = contradicts (ap not (busy-pending q)) e

  pub is-busy : Related past (world_of st img) b → is_idle st.pending.op ≡ false → Busy past st img b
  is-busy (inl q) e = contradicts (quiet-idle q) e
  is-busy (inr q) e = q

  -- both
  pub related-valid : Related past (world_of st img) b → state_ok st ≡ true
  related-valid (inl q) = q.valid
  related-valid (inr q) = q.valid

  pub related-durable : Related past (world_of st img) b → Durable past st img b
  related-durable (inl q) = q.durable
  related-durable (inr q) = q.durable

  pub related-narrow : Related past (world_of st img) b → Narrow st b
  related-narrow (inl q) = q.narrow
  related-narrow (inr q) = q.narrow
