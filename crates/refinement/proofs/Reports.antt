-- What a taken call reports: step and run the stores that they made, a call that asks for an operation those that it needs.
use Prim.Native.Nat.{ℕ, ◌+◌, ◌-◌, ◌≤◌, min}
use mathlib.Core.Bool.{true, false, cond}
use mathlib.Core.List.{List}
use mathlib.Core.Path.{◌≡◌, refl, sym, ap, ◌∙◌, subst}
use native.Mathlib.Omega.{arith}
use lib.Dec.{eqb}
use lib.ListN.{replicate}
use borrow.Author.Tests.{eqb-true, eqb-false, not-false}
use Rattle.bounded.specs.Rows.{refusal}
use Rattle.bounded.proofs.Tests.{case_on, contradicts}
use Rattle.state.specs.State.{State}
use Rattle.state.specs.declared.Op.{Op}
use Rattle.state.specs.declared.Op.TheVariants.{Idle, Write, Commit, Consolidate, Checkpoint, Event, Prepare, Confirm, Log, Copy, Format}
use Rattle.state.specs.Wide.{is_wide}
use Rattle.operations.specs.Operations.{is_idle, needs}
use Rattle.refinement.specs.Event.{event_done}
use Rattle.refinement.specs.Settled.{with_lines}
use Rattle.refinement.specs.Stores.{World, completed, stepped_by, stepped, left}
use Rattle.refinement.specs.Calls.{asked, step_row, begin_of, begin_wide_of, abort_of, withdraw_of, write_call_rows, changes_nothing, write_of, commit_of, prepare_of, confirm_of, consolidate_of, free_of, checkpoint_of, event_call_rows, event_of, commit_op, commit_call_rows, prepare_call_rows, confirm_call_rows, consolidate_call_rows, free_call_rows, checkpoint_call_rows, begin_rows, begin_wide_rows, abort_rows, step_of, step_bytes, run_of, run_bytes, world_of}
use Rattle.mount.specs.Mount.{mount_of}
use Rattle.refinement.specs.Freeing.{freed_page}
use Rattle.refinement.specs.Mount.{mount_call}
use Rattle.refinement.specs.Run.{Call, mount, checkpoint, free, step, begin, begin_wide, abort, commit, prepare, confirm, withdraw, consolidate, run, write, read, recall, event, load, exec}
use Rattle.refinement.specs.Reports.{Made, Needs, Reports, StoresReported}
use Rattle.refinement.proofs.LinesAsked.{needs-lines}
use Rattle.refinement.proofs.Pending.{needing, pends, needs-made}
use Rattle.refinement.proofs.PastUntouched.{Goes, goes}
use Rattle.refinement.proofs.WriterCalls.{write-first}
use Rattle.refinement.proofs.Steps.{step_run, run-image, run-kept, run-all}

-- of an operation that is complete none is left, of one just asked for all are
completed-left : (st : State) (op : Op) → is_idle op ≡ false → left (completed st op) ≡ 0
unfolding needs event_done
completed-left st Idle i = contradicts refl i
completed-left st (Write w p l o n) i = refl
completed-left st (Commit w) i = refl
completed-left st (Consolidate p) i = refl
completed-left st Checkpoint i = refl
completed-left st (Event k m a) i = refl
completed-left st (Prepare w) i = refl
completed-left st (Confirm w) i = refl
completed-left st (Log p l o n) i = refl
completed-left st Copy i = refl
completed-left st Format i = refl

idle-left : (st : State) → is_idle st.pending.op ≡ true → left st ≡ 0
idle-left st e =
    let op = st.pending.op in
    case_on (eqb (needs st op) 0)
    (λ t. let none : needs st op ≡ 0 = eqb-true (needs st op) 0 t in omega arith)
    (λ t. let some : needs st op ≡ 0 → ⊥ = eqb-false (needs st op) 0 t in contradicts e (needing st op 0 (omega arith)))

asked-left : (st : State) (op : Op) (line second : List ℕ) (frame : ℕ) → left (with_lines st op line second) ≡ needs st op
asked-left st op line second frame = omega (arith, needs-lines st line second op op)

-- ---- step and run

module _ (v : World) (g : Goes v) where
  pub fewer : (n : ℕ) → n ≤ left v.st → left (stepped_by n v).st + n ≡ left v.st
  fewer n l =
      let st = v.st in
      let op = st.pending.op in
      let some = g.some in
      let low = (pends st op g.ok refl some).made-low in
      case_on (eqb n (left st))
      (λ t.
      let e : n ≡ left st = eqb-true n (left st) t in
      let none : left (stepped_by n v).st ≡ 0 = ap (λ (k : ℕ). left (stepped_by k v).st) e ∙ ap left (run-all v some (omega arith)) ∙ completed-left st op some in
      omega arith)
      (λ t.
      let d : n ≡ left st → ⊥ = eqb-false n (left st) t in
      let rest : left (stepped_by n v).st ≡ needs st op - (st.pending.made + n) =
      ap left (run-kept n v (omega arith)) ∙ ap (λ (k : ℕ). k - (st.pending.made + n)) (needs-made st (st.pending.made + n) op) in
      omega arith)

  made : (n : ℕ) → n ≤ left v.st → Made n v (stepped_by n v)
  made n l = record { image = run-image n v l; fewer = fewer n l }

  made_one : Made 1 v (stepped v)
  made_one = let e = step_run v g.ok g.some in subst (Made 1 v) e.0 (made 1 e.1)

ran : (k : ℕ) (v : World) → (exec (run k) v).number ≡ 0 → Reports (run k) (exec (run k) v) v
unfolding exec run_of run_bytes
ran k v taken =
    let row : step_row v.st v.image ≡ 0 = taken in
    rw row (refl, made v (goes v row) (min k (left v.st)) (omega arith))

went : (v : World) → (exec step v).number ≡ 0 → Reports step (exec step v) v
unfolding exec step_of step_bytes
went v taken =
    let row : step_row v.st v.image ≡ 0 = taken in
    rw row (refl, made_one v (goes v row))

-- ---- operations asked for

asks : (row : ℕ) (v : World) (op : Op) → is_idle op ≡ false → row ≡ 0
    → let o = asked row v.st op (replicate 8 0) in Needs o.stores v (world_of o.state v.image)
asks row v op some e =
    let st = v.st in
    rw e
    (record {
      image = refl;
      all_left =
          case_on (eqb (needs st op) 0)
          (λ t. rw t (completed-left st op some ∙ sym (eqb-true (needs st op) 0 t)))
          (λ t. rw t (asked-left st op (replicate 8 0) (replicate 8 0) 0));
    })

commit-busy : (st : State) (w : ℕ) → is_idle (commit_op st w) ≡ false
commit-busy st w = case_on (is_wide st.wide w) (λ t. rw t) (λ t. rw t)

-- a write that changes nothing leaves the state as it was, with nothing pending
wrote : (w p l o n : ℕ) (bytes : List ℕ) (v : World) → (exec (write w p l o n bytes) v).number ≡ 0 → Reports (write w p l o n bytes) (exec (write w p l o n bytes) v) v
unfolding exec write_of needs
wrote w p l o n bytes v taken =
    let st = v.st in
    let img = v.image in
    let row : refusal (write_call_rows st img w p l o n bytes) ≡ 0 = taken in
    let quiet : is_idle st.pending.op ≡ true = not-false (is_idle st.pending.op) (write-first st img w p l o n bytes row).1.1.0 in
    rw row
    (record {
      image = refl;
      all_left =
          case_on (changes_nothing st img w p l o n bytes)
          (λ t. rw t (idle-left st quiet))
          (λ t. rw t (case_on (is_wide st.wide w) (λ u. rw u) (λ u. rw u)));
    })

event-asked : (ms : List ℕ) (k m a : ℕ) (v : World) → (exec (event ms k m a) v).number ≡ 0 → Reports (event ms k m a) (exec (event ms k m a) v) v
unfolding exec event_of needs
event-asked ms k m a v taken =
    let row : refusal (event_call_rows v.st v.image ms k m a) ≡ 0 = taken in
    rw row (record { image = refl; all_left = omega arith })

-- ---- every call

none : (row : ℕ) → ◌≡◌ {A = ℕ} (cond (eqb row 0) 0 0) 0
none row = case_on (eqb row 0) (λ t. rw t) (λ t. rw t)

pub stores-reported : StoresReported
unfolding exec begin_of begin_wide_of abort_of withdraw_of commit_of prepare_of confirm_of consolidate_of free_of checkpoint_of mount_call
stores-reported step v taken = went v taken
stores-reported (run k) v taken = ran k v taken
stores-reported (write w p l o n bytes) v taken = wrote w p l o n bytes v taken
stores-reported (commit w) v taken = asks (refusal (commit_call_rows v.st v.image w)) v (commit_op v.st w) (commit-busy v.st w) taken
stores-reported (prepare w) v taken = asks (refusal (prepare_call_rows v.st v.image w)) v (Prepare w) refl taken
stores-reported (confirm w) v taken = asks (refusal (confirm_call_rows v.st v.image w)) v (Confirm w) refl taken
stores-reported (consolidate p) v taken = asks (refusal (consolidate_call_rows v.st v.image p)) v (Consolidate p) refl taken
stores-reported free v taken = asks (refusal (free_call_rows v.st v.image)) v (Consolidate (freed_page v.st)) refl taken
stores-reported checkpoint v taken = asks (refusal (checkpoint_call_rows v.st v.image)) v Checkpoint refl taken
stores-reported (event ms k m a) v taken = event-asked ms k m a v taken
stores-reported mount v taken = none (mount_of v.image).row
stores-reported (begin w) v taken = none (refusal (begin_rows v.st w))
stores-reported (begin_wide w) v taken = none (refusal (begin_wide_rows v.st w))
stores-reported (abort w) v taken = none (refusal (abort_rows v.st w))
stores-reported (withdraw w) v taken = none (refusal (confirm_call_rows v.st v.image w))
stores-reported (read w p l target) v taken = refl
stores-reported (recall p l target) v taken = refl
stores-reported (load text) v taken = refl
