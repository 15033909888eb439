-- Step and run: one step makes a store of whatever operation is pending; a run is steps, the smaller of k and those left.
use Prim.Native.Nat.{ℕ, zero, suc, ◌+◌, ◌-◌, ◌<◌, ◌≤◌, min}
use mathlib.Core.Bool.{Bool, true, false}
use mathlib.Core.List.{List}
use mathlib.Core.Logic.{inr, ⊎_elim}
use mathlib.Core.Path.{◌≡◌, refl, sym, ap, ◌∙◌, subst}
use native.Mathlib.Omega.{arith}
use lib.Dec.{eqb}
use Rattle.bounded.specs.Below.{up_to}
use Rattle.bounded.proofs.Rows.{none-apply}
use Rattle.bounded.proofs.Tests.{case_on, contradicts}
use Rattle.state.specs.State.{State}
use Rattle.state.specs.declared.Op.{Op}
use Rattle.state.specs.declared.Op.TheVariants.{Idle, Write, Commit, Consolidate, Checkpoint, Event, Prepare, Confirm, Log, Copy, Format}
use Rattle.operations.specs.Operations.{needs}
use Rattle.refinement.specs.Stores.{World, completed, stepped, stepped_by, left}
use Rattle.refinement.proofs.Pending.{pends}
use Rattle.refinement.specs.Calls.{step_rows, step_row, step_of, step_bytes, run_of, run_bytes, world_of}
use Rattle.refinement.specs.Run.{step, run, exec}
use Rattle.refinement.specs.Reference.{Reference, Task, Work, idle, under, copying, writing, committing, nothing, with_work, continues, advances}
use Rattle.refinement.proofs.EventRows.{done-sizes}
use Rattle.refinement.proofs.Invariant.{Doing, Busy, Related}
use Rattle.refinement.proofs.Sound.{Sound, is-busy, busy-pending}
use Rattle.refinement.proofs.StepCheckpoint.{step-checkpoint}
use Rattle.refinement.proofs.StepCommit.{step-commit}
use Rattle.refinement.proofs.StepConsolidate.{step-consolidate}
use Rattle.refinement.proofs.StepPrepare.{step-prepare, step-confirm}
use Rattle.refinement.proofs.StepWrite.{step-write}
use Rattle.refinement.proofs.Next.{answered-next}

-- ---- one store of the pending operation

module _ (past : List ℕ) (st : State) (img : List ℕ) (b : Reference) (B : Busy past st img b) where
  step-of : (op : Op) → st.pending.op ≡ op → Related past (stepped (world_of st img)) (advances 1 b.work b)
  step-of Idle e = absurd (subst (Doing st img b) e B.doing)
  step-of (Write w p l o n) e = step-write past st img b B w p l o n e
  step-of (Commit w) e = step-commit past st img b B w e
  step-of (Consolidate p) e = step-consolidate past st img b B p e
  step-of Checkpoint e = step-checkpoint past st img b B e
  step-of (Event k m a) e = absurd (subst (Doing st img b) e B.doing)
  step-of (Prepare w) e = step-prepare past st img b B w e
  step-of (Confirm w) e = step-confirm past st img b B w e
  step-of (Log p l o n) e = absurd (subst (Doing st img b) e B.doing)
  step-of Copy e = absurd (subst (Doing st img b) e B.doing)
  step-of Format e = absurd (subst (Doing st img b) e B.doing)

  pub one_store : Related past (stepped (world_of st img)) (advances 1 b.work b)
  one_store = step-of st.pending.op refl

-- it keeps the sizes
completed-sizes : (st : State) (op : Op) → (completed st op).sizes ≡ st.sizes
completed-sizes st Idle = refl
completed-sizes st (Write w p l o n) = refl
completed-sizes st (Commit w) = refl
completed-sizes st (Consolidate p) = refl
completed-sizes st Checkpoint = refl
completed-sizes st (Event k m a) = done-sizes st k m
completed-sizes st (Prepare w) = refl
completed-sizes st (Confirm w) = refl
completed-sizes st (Log p l o n) = refl
completed-sizes st Copy = refl
completed-sizes st Format = refl

pub stepped-sizes : (v : World) → (stepped v).st.sizes ≡ v.st.sizes
unfolding stepped
stepped-sizes v =
    let op : Op = v.st.pending.op in
    let m : ℕ = v.st.pending.made in
    case_on (eqb (m + 1) (needs v.st op)) (λ t. rw t (completed-sizes v.st op)) (λ t. rw t)

pub stepped_by-sizes : (n : ℕ) (v : World) → (stepped_by n v).st.sizes ≡ v.st.sizes
unfolding stepped_by up_to
stepped_by-sizes zero v = refl
stepped_by-sizes (suc n) v = stepped-sizes (stepped_by n v) ∙ stepped_by-sizes n v

-- ---- what the reference machine has under way has the same stores left

doing-work : (st : State) (img : List ℕ) (b : Reference) (op : Op) → Doing st img b op → (t : Task) × (b.work ≡ under t (needs st op - st.pending.made))
doing-work st img b Idle d = absurd d
doing-work st img b (Write w p l o n) d = (writing w p l o n d.0, d.3)
doing-work st img b (Commit w) d = (committing w, d)
doing-work st img b (Consolidate p) d = (nothing, d)
doing-work st img b Checkpoint d = (nothing, d)
doing-work st img b (Event k m a) d = absurd d
doing-work st img b (Prepare w) d = (nothing, d)
doing-work st img b (Confirm w) d = (committing w, d)
doing-work st img b (Log p l o n) d = absurd d
doing-work st img b Copy d = absurd d
doing-work st img b Format d = absurd d

no-work : Work → Bool
no-work idle = true
no-work (under t k) = false
no-work (copying w k) = false

pub idle-apart : (t : Task) (k : ℕ) (w : Work) → w ≡ under t k → w ≡ idle → ⊥
unfolding no-work
idle-apart t k w e i = contradicts (ap no-work i) (ap no-work e)

-- ---- n stores

-- the reference machine with m stores left, told from any work
pub continues-work : (t : Task) (m : ℕ) (k : Work) (b : Reference) → continues t m (with_work k b) ≡ continues t m b
continues-work t zero k b = refl
continues-work t (suc m) k b = refl

-- while some are left it has them under way
continues-on : (t : Task) (m : ℕ) (b : Reference) → 0 < m → continues t m b ≡ with_work (under t m) b
continues-on t zero b l = absurd (omega arith)
continues-on t (suc m) b l = refl

pub work-same : (b : Reference) (k : Work) → b.work ≡ k → with_work k b ≡ b
work-same b k e = λ i. record { pages = b.pages; writes = b.writes; work = sym e i; wide = b.wide }

one-advance : (t : Task) (m : ℕ) (b : Reference) → 0 < m → advances 1 (under t m) (with_work (under t m) b) ≡ continues t (m - 1) b
one-advance t m b l =
    let e : m - min 1 m ≡ m - 1 = omega arith in
    ap (λ (k : ℕ). continues t k (with_work (under t m) b)) e ∙ continues-work t (m - 1) (under t m) b

-- what holds after one store of an operation that is under way holds after many
module _ (R : World → Reference → Type 0) (one : (v : World) (b : Reference) (t : Task) (m : ℕ) → b.work ≡ under t m → R v b → R (stepped v) (advances 1 b.work b))
    (b : Reference) (t : Task) (m : ℕ) (v : World) (some : 0 < m) (work : b.work ≡ under t m) (h : R v b) where
  -- after n of the m stores that are left
  pub many : (n : ℕ) → n ≤ m → R (stepped_by n v) (continues t (m - n) b)
  unfolding stepped_by up_to
  many zero l =
      let e : m - 0 ≡ m = omega arith in
      subst (R v) (sym (ap (λ (k : ℕ). continues t k b) e ∙ continues-on t m b some ∙ work-same b (under t m) work)) h
  many (suc n) l =
      let u : World = stepped_by n v in
      let left : 0 < m - n = omega arith in
      let e : m - n - 1 ≡ m - suc n = omega arith in
      let now : Reference = with_work (under t (m - n)) b in
      let r : R u now = subst (R u) (continues-on t (m - n) b left) (many n (omega arith)) in
      subst (R (stepped u)) (one-advance t (m - n) b left ∙ ap (λ (k : ℕ). continues t k b) e) (one u now t (m - n) refl r)

-- an operation other than an event
one_more : (past : List ℕ) (v : World) (b : Reference) (t : Task) (m : ℕ) → b.work ≡ under t m → Related past v b → Related past (stepped v) (advances 1 b.work b)
one_more past v b t m work r = one_store past v.st v.image b (⊎_elim (λ q. absurd (idle-apart t m b.work work q.work)) (λ q. q) r)

-- ---- the calls

pub step-sound : {past : List ℕ} (v : World) (b : Reference) → Related past v b → Sound past step v b
unfolding exec step_of step_bytes
step-sound {past = past} v b h =
    let st = v.st in
    let img = v.image in
    let a =
    answered-next (Related _) step v b (step_row st img) _ (stepped (world_of st img)).st (stepped (world_of st img)).image h
    (λ e.
    let rows = none-apply (step_rows st img) (omega arith) e in
    record { sizes = stepped-sizes (world_of st img); related = one_store past st img b (is-busy st img b h rows.1.1.0) }) in
    record { right = tt; sizes = a.sizes; related = a.related }

pub run-related : {past : List ℕ} (k : ℕ) (v : World) (b : Reference) → Busy past v.st v.image b → Related past (stepped_by (min k (left v.st)) v) (advances k b.work b)
run-related {past = past} k v b B =
    let st = v.st in
    let x = doing-work st v.image b st.pending.op B.doing in
    let t : Task = x.0 in
    let m : ℕ = left st in
    let work : b.work ≡ under t m = x.1 in
    let low = (pends st st.pending.op B.valid refl (busy-pending st v.image b B)).made-low in
    let r : Related past (stepped_by (min k m) v) (continues t (m - min k m) b) = many (Related past) (one_more past) b t m v (omega (arith, low)) work (inr B) (min k m) (omega arith) in
    subst (λ (w : Work). Related past (stepped_by (min k m) v) (advances k w b)) (sym work) r

pub run_sound : {past : List ℕ} (k : ℕ) (v : World) (b : Reference) → Related past v b → Sound past (run k) v b
unfolding exec run_of run_bytes
run_sound {past = past} k v b h =
    let st = v.st in
    let img = v.image in
    let n : ℕ = min k (left st) in
    let a =
    answered-next (Related _) (run k) v b (step_row st img) _ (stepped_by n (world_of st img)).st (stepped_by n (world_of st img)).image h
    (λ e.
    let rows = none-apply (step_rows st img) (omega arith) e in
    record { sizes = stepped_by-sizes n (world_of st img); related = run-related k v b (is-busy st img b h rows.1.1.0) }) in
    record { right = tt; sizes = a.sizes; related = a.related }
