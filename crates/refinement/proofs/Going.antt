-- What row 8 tells of a state with an operation pending, as the functions that make its stores require it.
use Prim.Native.Nat.{ℕ, ◌+◌, ◌*◌, ◌<◌, ◌≤◌}
use mathlib.Core.Bool.{true, false}
use mathlib.Core.List.{List}
use mathlib.Core.Path.{◌≡◌, refl, sym, ap, ◌∙◌}
use native.Mathlib.Omega.{arith}
use lib.Dec.{eqb}
use lib.ListN.{length}
use borrow.Author.Tests.{ltb-true}
use Rattle.bounded.proofs.Tests.{row_keeps}
use Rattle.bounded.specs.Below.{up_to}
use Rattle.bounded.specs.Rows.{refusal}
use Rattle.entries.proofs.EntryLaws.{Right}
use Rattle.replay.specs.Table.{slots_shaped}
use Rattle.state.specs.State.{State, own_frame}
use Rattle.state.specs.declared.Op.{Op}
use Rattle.state.specs.declared.Op.TheVariants.{Write, Commit, Consolidate, Checkpoint, Event, Prepare, Confirm}
use Rattle.operations.specs.Operations.{Ranged, is_idle, op_rows, needs, commit_needs, confirm_needs, checkpoint_needs, recorded_slots}
use Rattle.validity.specs.Validity.{state_ok}
use Rattle.validity.proofs.Ranged.{slots-good, ranged}
use Rattle.meters.specs.Meters.{event_needs}
use Rattle.operations.proofs.Taken.{prepare-taken, WriteTaken, write-taken, CommitTaken, commit-taken, ConfirmTaken, confirm-taken, ConsolidateTaken, consolidate-taken, EventTaken, event-taken}
use Rattle.refinement.specs.Frames.{page_slot}
use Rattle.refinement.specs.Commit.{commit_slots}
use Rattle.refinement.specs.Consolidate.{copy_store_count}
use Rattle.refinement.specs.Stores.{left, store_made, stores_made}
use Rattle.refinement.proofs.StateValid.{parts, valid}
use Rattle.refinement.proofs.Pending.{pends}

-- its numbers are in their ranges, its slots have shapes, and its entries are right
module _ (st : State) (e : state_ok st ≡ true) where
  pub ranges-of : Ranged st
  ranges-of = let h = parts st e in ranged st h.slots (ltb-true st.next st.sizes.slots h.next)

  pub shapes-of : slots_shaped st.sizes st.table ≡ true
  shapes-of = (slots-good st.sizes st.head st.tail st.table (own_frame st) (parts st e).slots).shapes

  pub entries-of : Right st.sizes st.wide.keys st.wide.count
  entries-of = (valid st e).entries

pub record Going (st : State) : Type 0 where
  pub ranges : Ranged st
  pub shapes : slots_shaped st.sizes st.table ≡ true
  pub made-low : st.pending.made < needs st st.pending.op
  pub taken : refusal (op_rows st st.pending.op) ≡ 0

pub going : (st : State) → state_ok st ≡ true → is_idle st.pending.op ≡ false → Going st
going st e i =
    let p = pends st st.pending.op e refl i in
    record { ranges = ranges-of st e; shapes = shapes-of st e; made-low = p.made-low; taken = p.taken }

-- ---- what no row tells, by the operation

module _ (st : State) (taken : refusal (op_rows st st.pending.op) ≡ 0) where
  pub write-of : {w p l o n : ℕ} → st.pending.op ≡ Write w p l o n → WriteTaken st w p l o n
  write-of {w} {p} {l} {o} {n} e = write-taken st w p l o n (rw e at taken)

  pub commit-of : {w : ℕ} → st.pending.op ≡ Commit w → CommitTaken st w
  commit-of {w} e = commit-taken st w (rw e at taken)

  pub prepare-of : {w : ℕ} → st.pending.op ≡ Prepare w → CommitTaken st w
  prepare-of {w} e = prepare-taken st w (rw e at taken)

  pub confirm-of : {w : ℕ} → st.pending.op ≡ Confirm w → ConfirmTaken st w
  confirm-of {w} e = confirm-taken st w (rw e at taken)

  pub consolidate-of : {p : ℕ} → st.pending.op ≡ Consolidate p → ConsolidateTaken st p
  consolidate-of {p} e = consolidate-taken st p (rw e at taken)

  pub event-of : {k m a : ℕ} → st.pending.op ≡ Event k m a → EventTaken st k m
  event-of {k} {m} {a} e = event-taken st k m a (rw e at taken)

-- ---- of n stores that are left, the last is the operation's at most

module _ (st : State) (g : Going st) (n : ℕ) (h : n ≤ left st) where
  pub write-left : {w p l o k : ℕ} → st.pending.op ≡ Write w p l o k → st.pending.made + n ≤ 8
  unfolding needs
  write-left e =
      let q : needs st st.pending.op ≡ 8 = rw e in
      omega (arith, g.made-low)

  pub prepare-left : {w : ℕ} → st.pending.op ≡ Prepare w → st.pending.made + n ≤ 4 * length (commit_slots st w)
  unfolding needs
  prepare-left {w} e =
      let q : needs st st.pending.op ≡ 4 * length (commit_slots st w) = rw e in
      omega (arith, g.made-low)

-- ---- the stores of the pending operation, its arguments known

pub stores-of : (st : State) {op : Op} (n : ℕ) (img m : List ℕ) → st.pending.op ≡ op → m ≡ up_to n (λ i x. store_made st x op (st.pending.made + i)) img → m ≡ stores_made st n img
stores-of st n img m e q = q ∙ sym (ap (λ (o : Op). up_to n (λ i x. store_made st x o (st.pending.made + i)) img) e)
