-- A run is its steps one after the other: before the last only the count of stores made changes, and a valid state
-- stays valid.
use Prim.Native.Nat.{ℕ, zero, suc, ◌+◌, ◌-◌, ◌<◌, ◌≤◌}
use mathlib.Core.Bool.{true, false}
use mathlib.Core.List.{List}
use mathlib.Core.Path.{◌≡◌, refl, sym, ap, ◌∙◌, subst}
use native.Mathlib.Omega.{arith}
use lib.Dec.{eqb}
use lib.ListN.{length}
use borrow.Author.Tests.{eqb-true, eqb-false, eq-eqb, ne_eqb}
use Rattle.bounded.specs.Below.{up_to}
use Rattle.bounded.proofs.Tests.{case_on, contradicts}
use Rattle.replay.proofs.Tables.{Sixteen}
use Rattle.state.specs.State.{State}
use Rattle.state.specs.declared.Op.{Op}
use Rattle.state.specs.declared.Op.TheVariants.{Idle, Write, Commit, Consolidate, Checkpoint, Event, Prepare, Confirm, Log, Copy, Format}
use Rattle.operations.specs.Operations.{is_idle, needs}
use Rattle.validity.specs.Validity.{state_ok}
use Rattle.refinement.specs.Write.{write_slot}
use Rattle.refinement.specs.Commit.{commit_record_of, commit_at_of, commit_value_of}
use Rattle.refinement.specs.Consolidate.{freeing_record, consolidate_at, consolidate_value}
use Rattle.refinement.specs.Checkpoint.{checkpoint_at_of, checkpoint_value_of}
use Rattle.refinement.specs.Event.{event_at, event_value, event_done}
use Rattle.refinement.specs.Stores.{World, completed, with_made, store_made, stores_made, state_after, stepped, stepped_by, left}
use Rattle.refinement.proofs.Pending.{pends, needs-made, made-valid}
use Rattle.refinement.proofs.Sized.{Sized, completed-sized, made-sized}
use Rattle.refinement.proofs.Completed.{completed-valid}

-- ---- one step

pub stepped-image : (v : World) → (stepped v).image ≡ store_made v.st v.image v.st.pending.op v.st.pending.made
unfolding stepped
stepped-image v = refl

pub stepped-mid : (v : World) → (v.st.pending.made + 1 ≡ needs v.st v.st.pending.op → ⊥) → (stepped v).st ≡ with_made v.st (v.st.pending.made + 1)
unfolding stepped
stepped-mid v n = rw (ne_eqb (v.st.pending.made + 1) (needs v.st v.st.pending.op) n)

pub stepped-last : (v : World) → v.st.pending.made + 1 ≡ needs v.st v.st.pending.op → (stepped v).st ≡ completed v.st v.st.pending.op
unfolding stepped
stepped-last v e = rw (eq-eqb (v.st.pending.made + 1) (needs v.st v.st.pending.op) e)

-- ---- a run

pub run_none : (v : World) → stepped_by 0 v ≡ v
unfolding stepped_by up_to
run_none v = refl

pub run_step : (n : ℕ) (v : World) → stepped_by (suc n) v ≡ stepped (stepped_by n v)
unfolding stepped_by up_to
run_step n v = refl

pub run_more : (m n : ℕ) (v : World) → stepped_by (m + n) v ≡ stepped_by n (stepped_by m v)
run_more m zero v = let e : m + 0 ≡ m = omega arith in ap (λ (k : ℕ). stepped_by k v) e ∙ sym (run_none (stepped_by m v))
run_more m (suc n) v =
    let e : m + suc n ≡ suc (m + n) = omega arith in
    ap (λ (k : ℕ). stepped_by k v) e ∙ run_step (m + n) v ∙ ap stepped (run_more m n v) ∙ sym (run_step n (stepped_by m v))

made_none : (st : State) → st ≡ with_made st (st.pending.made + 0)
made_none st = let e : st.pending.made ≡ st.pending.made + 0 = omega arith in ap (with_made st) e

-- fewer steps than are left
pub run-kept : (n : ℕ) (v : World) → n < left v.st → (stepped_by n v).st ≡ with_made v.st (v.st.pending.made + n)
run-kept zero v l = ap (λ (u : World). u.st) (run_none v) ∙ made_none v.st
run-kept (suc n) v l =
    let st = v.st in
    let op = st.pending.op in
    let m = st.pending.made in
    let u = stepped_by n v in
    let h : u.st ≡ with_made st (m + n) = run-kept n v (omega arith) in
    let made : u.st.pending.made ≡ m + n = ap (λ (x : State). x.pending.made) h in
    let need : needs u.st u.st.pending.op ≡ needs st op = ap (λ (x : State). needs x x.pending.op) h ∙ needs-made st (m + n) op in
    let k : u.st.pending.made + 1 ≡ m + suc n = omega arith in
    ap (λ (x : World). x.st) (run_step n v)
    ∙ stepped-mid u (λ q. omega arith)
    ∙ ap (with_made u.st) k
    ∙ ap (λ (x : State). with_made x (m + suc n)) h

-- what an operation makes of a state does not depend on the stores made
pub completed-made : (st : State) (m : ℕ) (op : Op) → is_idle op ≡ false → completed (with_made st m) op ≡ completed st op
unfolding write_slot commit_record_of freeing_record event_done
completed-made st m Idle i = contradicts refl i
completed-made st m (Write w p l o n) i = refl
completed-made st m (Commit w) i = refl
completed-made st m (Consolidate p) i = refl
completed-made st m Checkpoint i = refl
completed-made st m (Event k j a) i = refl
completed-made st m (Prepare w) i = refl
completed-made st m (Confirm w) i = refl
completed-made st m (Log p l o n) i = refl
completed-made st m Copy i = refl
completed-made st m Format i = refl

-- all that are left
pub run-all : (v : World) → is_idle v.st.pending.op ≡ false → 0 < left v.st → (stepped_by (left v.st) v).st ≡ completed v.st v.st.pending.op
run-all v i l =
    let st = v.st in
    let op = st.pending.op in
    let m = st.pending.made in
    let n = left st - 1 in
    let u = stepped_by n v in
    let q : left st ≡ suc n = omega arith in
    let h : u.st ≡ with_made st (m + n) = run-kept n v (omega arith) in
    let made : u.st.pending.made ≡ m + n = ap (λ (x : State). x.pending.made) h in
    let need : needs u.st u.st.pending.op ≡ needs st op = ap (λ (x : State). needs x x.pending.op) h ∙ needs-made st (m + n) op in
    ap (λ (k : ℕ). (stepped_by k v).st) q
    ∙ ap (λ (x : World). x.st) (run_step n v)
    ∙ stepped-last u (omega arith)
    ∙ ap (λ (x : State). completed x x.pending.op) h
    ∙ completed-made st (m + n) op i

-- nor do its stores
pub store_of : (st : State) (m : ℕ) (img : List ℕ) (op : Op) (i : ℕ) → store_made (with_made st m) img op i ≡ store_made st img op i
unfolding write_slot commit_at_of commit_value_of commit_record_of consolidate_at consolidate_value freeing_record checkpoint_at_of checkpoint_value_of event_at event_value
store_of st m img Idle i = refl
store_of st m img (Write w p l o n) i = refl
store_of st m img (Commit w) i = refl
store_of st m img (Consolidate p) i = refl
store_of st m img Checkpoint i = refl
store_of st m img (Event k j a) i = refl
store_of st m img (Prepare w) i = refl
store_of st m img (Confirm w) i = refl
store_of st m img (Log p l o n) i = refl
store_of st m img Copy i = refl
store_of st m img Format i = refl

-- so that the image after a run is the one after that many stores
pub run-image : (n : ℕ) (v : World) → n ≤ left v.st → (stepped_by n v).image ≡ stores_made v.st n v.image
unfolding up_to
run-image zero v l = ap (λ (u : World). u.image) (run_none v)
run-image (suc n) v l =
    let st = v.st in
    let op = st.pending.op in
    let k = st.pending.made + n in
    let u = stepped_by n v in
    ap (λ (x : World). x.image) (run_step n v)
    ∙ stepped-image u
    ∙ ap (λ (x : State). store_made x u.image x.pending.op x.pending.made) (run-kept n v (omega arith))
    ∙ store_of st k u.image op k
    ∙ ap (λ (m : List ℕ). store_made st m op k) (run-image n v (omega arith))

-- and so is the state
pub run-after : (n : ℕ) (v : World) → is_idle v.st.pending.op ≡ false → 0 < left v.st → n ≤ left v.st → (stepped_by n v).st ≡ state_after v.st n
run-after n v i l h =
    let st = v.st in
    let m = st.pending.made + n in
    let k = needs st st.pending.op in
    case_on (eqb m k)
    (λ t.
    let a : m ≡ k = eqb-true m k t in
    let b : n ≡ left st = omega arith in
    rw t (ap (λ (x : ℕ). (stepped_by x v).st) b ∙ run-all v i l))
    (λ t.
    let a : m ≡ k → ⊥ = eqb-false m k t in
    rw t (run-kept n v (omega arith)))

-- ---- row 8

module _ (v : World) (e : state_ok v.st ≡ true) (i : is_idle v.st.pending.op ≡ false) where
  -- by whether the last store is made
  after-steps : (P : State → Type 0) → P (completed v.st v.st.pending.op) → ((m : ℕ) → m < needs v.st v.st.pending.op → P (with_made v.st m)) → (n : ℕ) → n ≤ left v.st → P (stepped_by n v).st
  after-steps P last mid n l =
      let st = v.st in
      let p = pends st st.pending.op e refl i in
      case_on (eqb n (left st))
      (λ q.
      let a : n ≡ left st = eqb-true n (left st) q in
      subst P (sym (ap (λ (k : ℕ). (stepped_by k v).st) a ∙ run-all v i (omega arith))) last)
      (λ q.
      let a : n ≡ left st → ⊥ = eqb-false n (left st) q in
      subst P (sym (run-kept n v (omega arith))) (mid (st.pending.made + n) (omega arith)))

  pub run-valid : Sized v.st → (n : ℕ) → n ≤ left v.st → state_ok (stepped_by n v).st ≡ true
  run-valid h =
      let st = v.st in
      let p = pends st st.pending.op e refl i in
      after-steps (λ (x : State). state_ok x ≡ true)
      (completed-valid st st.pending.op e h.table.sixteen h.map h.writers.sixty-four h.writers.four h.keys p.fits p.taken) (λ m l. made-valid st m e i l)

  pub run-sized : Sized v.st → (n : ℕ) → n ≤ left v.st → Sized (stepped_by n v).st
  run-sized h =
      let st = v.st in
      after-steps Sized (completed-sized st h st.pending.op (pends st st.pending.op e refl i).taken) (λ m l. made-sized st h m)

  -- one step is a run of one
  pub step_run : (stepped_by 1 v ≡ stepped v) × (1 ≤ left v.st)
  step_run =
      let p = pends v.st v.st.pending.op e refl i in
      (run_step 0 v ∙ ap stepped (run_none v), omega arith)

  pub step-valid : Sized v.st → state_ok (stepped v).st ≡ true
  step-valid h = subst (λ (u : World). state_ok u.st ≡ true) step_run.0 (run-valid h 1 step_run.1)

  pub step-sized : Sized v.st → Sized (stepped v).st
  step-sized h = subst (λ (u : World). Sized u.st) step_run.0 (run-sized h 1 step_run.1)
