-- Right after a completed checkpoint no call is turned back by 19: no record is live, a writer holds lines of at most S ≤ J slots, and the other calls
-- append one record.
use Prim.Native.Nat.{ℕ, ◌+◌, ◌<◌, ◌≤◌, min}
use mathlib.Core.Bool.{Bool, true, false, not}
use mathlib.Core.List.{List, [], ◌∷◌, ◌++◌}
use mathlib.Core.Logic.{⊎_elim}
use mathlib.Core.Path.{◌≡◌, refl, sym, ap, ◌∙◌, subst}
use native.Mathlib.Omega.{arith}
use lib.Dec.{ltb, eqb}
use lib.ListN.{length}
use borrow.Author.Tests.{le-ltb}
use Rattle.bounded.specs.Rows.{refusal}
use Rattle.bounded.proofs.Below.{count-le}
use Rattle.bounded.proofs.Rows.{row-none}
use Rattle.bounded.proofs.Those.{length-those}
use Rattle.bounded.proofs.Tests.{case_on, contradicts}
use Rattle.layout.specs.declared.Sizes.{Sizes}
use Rattle.layout.specs.Layout.{image_length}
use Rattle.journal.proofs.Ring.{live-none}
use Rattle.state.specs.State.{State}
use Rattle.state.specs.declared.Op.TheVariants.{Checkpoint}
use Rattle.state.specs.Held.{held_at, held_slots}
use Rattle.state.specs.Wide.{is_wide}
use Rattle.operations.specs.Operations.{live, is_idle, journal_full, needs, write_rows, log_rows}
use Rattle.validity.specs.Validity.{state_ok}
use Rattle.refinement.specs.Stores.{World, completed, left}
use Rattle.refinement.proofs.Pending.{pends}
use Rattle.refinement.proofs.Steps.{stepped-last, run-all}
use Rattle.refinement.specs.Calls.{quiet_rows, begin_rows, begin_of, begin_wide_rows, begin_wide_of, abort_rows, abort_of, write_call_rows, write_of, commit_call_rows, commit_of, prepare_call_rows, prepare_of, confirm_call_rows, confirm_of, withdraw_of, consolidate_call_rows, consolidate_of, free_call_rows, free_of, checkpoint_call_rows, checkpoint_of, read_rows, read_row, step_row, step_rows, step_of, run_of, event_call_rows, event_of, load_rows, load_of}
use Rattle.refinement.specs.Run.{Call, mount, checkpoint, free, step, begin, begin_wide, abort, commit, prepare, confirm, withdraw, consolidate, run, write, read, recall, exec, event, load}
use Rattle.refinement.specs.Beside.{HasRoom, MakesRoom, CheckpointMakesRoom}
use Rattle.refinement.specs.Reference.{Reference, turn}
use Rattle.refinement.specs.Statement.{Lent}
use Rattle.refinement.proofs.Cases.{standing-of}
use Rattle.refinement.proofs.Lacks.{none-applies}
use Rattle.refinement.proofs.MountReadsBack.{mount-taken}
use Rattle.refinement.proofs.Reached.{Reached, reached-next, always}
use Rattle.refinement.proofs.RecallCall.{recall-answer}
use Rattle.refinement.proofs.Standing.{Standing}
use Rattle.refinement.proofs.Valid.{legal-sizes}
use Rattle.refinement.proofs.Viewed.{viewed-fits}

-- a writer holds lines of at most S slots
held-le : (z : Sizes) (held : List ℕ) (w : ℕ) → length (held_slots z held w) ≤ z.slots
unfolding held_slots
held-le z held w =
    omega (arith, length-those (λ s. not (eqb (held_at held w s) 0)) z.slots, count-le (λ s. not (eqb (held_at held w s) 0)) z.slots)

-- with no live record there is room for a record of each slot
room : (st : State) → state_ok st ≡ true → st.head ≡ st.tail → (n : ℕ) → n ≤ st.sizes.slots → journal_full st n ≡ false
room st valid e n few =
    let z : Sizes = st.sizes in
    let none : live st ≡ 0 = rw e (live-none z st.tail) in
    le-ltb z.places (live st + n) (omega (arith, (legal-sizes st valid).places-low))

-- ---- so row 19 applies to no call

abbrev lacking : ℕ → Bool
lacking n = eqb n 19

module _ {past : List ℕ} (v : World) (b : Reference) (s : Standing past v b) (e : v.st.head ≡ v.st.tail) where
  abbrev st : State
  st = v.st

  abbrev img : List ℕ
  img = v.image

  one : journal_full st 1 ≡ false
  one = room st s.valid e 1 (omega (arith, (legal-sizes st s.valid).slots-low))

  held : (w : ℕ) → journal_full st (length (held_slots st.sizes st.writers.held w)) ≡ false
  held w = room st s.valid e _ (held-le st.sizes st.writers.held w)

  write-fits : (w p l o n : ℕ) (bytes : List ℕ) → lacking (refusal (write_call_rows st img w p l o n bytes)) ≡ false
  write-fits w p l o n bytes =
      let rows = quiet_rows st (length img) ++ ((ltb (length bytes) n, 11) ∷ []) in
      case_on (is_wide st.wide w)
      (λ t. rw t (none-applies lacking (rows ++ log_rows st p l o n) refl))
      (λ t. rw t (none-applies lacking (rows ++ write_rows st w p l o n) refl))

  fits : (c : Call) → lacking (exec c v).number ≡ false
  unfolding exec begin_of begin_wide_of abort_of write_of commit_of prepare_of confirm_of withdraw_of consolidate_of free_of checkpoint_of event_of load_of read_row step_of run_of
  fits (commit w) = none-applies lacking (commit_call_rows st img w) (rw (held w))
  fits (prepare w) = none-applies lacking (prepare_call_rows st img w) (rw (held w))
  fits (event ms k m a) = none-applies lacking (event_call_rows st img ms k m a) (rw one)
  fits (consolidate p) = none-applies lacking (consolidate_call_rows st img p) (rw one)
  fits free = none-applies lacking (free_call_rows st img) (rw one)
  fits mount = ap lacking (mount-taken v b s.viewed)
  fits checkpoint = none-applies lacking (checkpoint_call_rows st img) refl
  fits step = none-applies lacking (step_rows st img) refl
  fits (begin w) = none-applies lacking (begin_rows st w) refl
  fits (begin_wide w) = none-applies lacking (begin_wide_rows st w) refl
  fits (abort w) = none-applies lacking (abort_rows st w) refl
  fits (confirm w) = none-applies lacking (confirm_call_rows st img w) refl
  fits (withdraw w) = none-applies lacking (confirm_call_rows st img w) refl
  fits (run k) = none-applies lacking (step_rows st img) refl
  fits (write w p l o n bytes) = write-fits w p l o n bytes
  fits (read w p l target) = none-applies lacking (read_rows st img w p l target) refl
  fits (recall p l target) = ⊎_elim (λ q. ap lacking q) (λ q. ap lacking q) (recall-answer img b s.viewed p l target)
  fits (load text) = none-applies lacking (load_rows st img text) refl

-- ---- the calls that complete a checkpoint

module _ (v : World) (ok : state_ok v.st ≡ true) (fits : image_length v.st.sizes ≤ length v.image) (e : v.st.pending.op ≡ Checkpoint) where
  -- one is under way, and a step or a run is taken
  some_left : v.st.pending.made < needs v.st v.st.pending.op
  some_left = (pends v.st v.st.pending.op ok refl (ap is_idle e)).made-low

  row : 0 ≡ step_row v.st v.image
  row = row-none (step_rows v.st v.image) (ap not ok, (le-ltb (length v.image) (image_length v.st.sizes) fits, (ap is_idle e, tt)))

  run_ends : (k : ℕ) → left v.st ≤ k → (exec (run k) v).world.st ≡ completed v.st Checkpoint
  unfolding exec run_of
  run_ends k enough =
      let n : min k (left v.st) ≡ left v.st = omega arith in
      rw (← row, n) (run-all v (ap is_idle e) (omega (arith, some_left)) ∙ ap (completed v.st) e)

  step-ends : left v.st ≡ 1 → (exec step v).world.st ≡ completed v.st Checkpoint
  unfolding exec step_of
  step-ends one = rw (← row) (stepped-last v (omega (arith, some_left)) ∙ ap (completed v.st) e)

ask-ends : (v : World) → (exec checkpoint v).number ≡ 0 → (exec checkpoint v).stores ≡ 0 → (exec checkpoint v).world.st ≡ completed v.st Checkpoint
unfolding exec checkpoint_of
ask-ends v taken none =
    let row : refusal (checkpoint_call_rows v.st v.image) ≡ 0 = taken in
    let n : needs v.st Checkpoint ≡ 0 = rw (row) at none in
    rw (row, n)

-- ---- and no call is 19 after it

module _ {past : List ℕ} (z : Sizes) (v : World) (b : Reference) (h : Reached z past v b) where
  has_room : (c : Call) → Lent c → (exec c v).world.st ≡ completed v.st Checkpoint → HasRoom (exec c v).world
  has_room c lent e =
      let d = exec c v in
      let u : World = d.world in
      let a : Reference = turn c d.number d.stores b in
      let s = standing-of u a (reached-next c lent v b h).related in
      λ next n. contradicts (ap lacking n) (fits u a s (subst (λ (s : State). s.head ≡ s.tail) (sym e) refl) next)

  pub makes-room : MakesRoom v
  makes-room =
      let s = standing-of v b h.related in
      let ok = s.valid in
      let fits = viewed-fits v.st v.image b s.viewed in
      record {
        at_once = λ taken none. has_room checkpoint tt (ask-ends v taken none);
        by-step = λ e one. has_room step tt (step-ends v ok fits e one);
        by-run = λ e k enough. has_room (run k) tt (run_ends v ok fits e k enough);
      }

pub checkpoint-makes-room : CheckpointMakesRoom
checkpoint-makes-room = always _ (λ z buffer v b h. makes-room z v b h)
