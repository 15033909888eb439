-- Every call while a wide transaction is open: one clause a call. No other writer is open and none is prepared, so that no begin, event or prepare is taken,
-- nor a confirm or a withdraw.
use Prim.Native.Nat.{ℕ}
use mathlib.Core.Bool.{true}
use mathlib.Core.List.{List}
use mathlib.Core.Path.{◌≡◌, sym}
use native.Mathlib.Omega.{arith}
use borrow.Author.Tests.{lt-ltb}
use Rattle.bounded.specs.Rows.{refusal}
use Rattle.bounded.proofs.Rows.{none-apply, row-none}
use Rattle.bounded.proofs.Tests.{contradicts}
use Rattle.state.specs.State.{State}
use Rattle.state.specs.Wide.{some_wide}
use Rattle.operations.specs.Operations.{prepare_rows, confirm_rows}
use Rattle.operations.proofs.Taken.{prepare-alone, confirm-taken}
use Rattle.refinement.specs.Outcome.{answered}
use Rattle.refinement.specs.Stores.{World}
use Rattle.refinement.specs.Calls.{world_of, begin_rows, begin_wide_rows, prepare_call_rows, confirm_call_rows, event_call_rows, begin_of, begin_wide_of, prepare_of, confirm_of, withdraw_of, event_of}
use Rattle.refinement.specs.Run.{Call, mount, checkpoint, free, step, begin, begin_wide, abort, commit, prepare, confirm, withdraw, consolidate, run, write, read, recall, event, load, exec}
use Rattle.refinement.specs.Reference.{Reference, turn}
use Rattle.refinement.specs.Statement.{Lent}
use Rattle.refinement.proofs.Begun.{begin-taken, begin-wide-taken}
use Rattle.refinement.proofs.Logging.{Logging, fine, unprepared}
use Rattle.refinement.proofs.LoggingStanding.{logging-standing}
use Rattle.refinement.proofs.LogAbort.{log-abort}
use Rattle.refinement.proofs.LogCommit.{log-commit}
use Rattle.refinement.proofs.LogWrite.{log-write}
use Rattle.refinement.proofs.LogReads.{log-read, log-load}
use Rattle.refinement.proofs.LogBeside.{log-consolidate, log-free, log-checkpoint}
use Rattle.refinement.proofs.StandingCalls.{mount-kept, recall-kept}
use Rattle.refinement.proofs.WideRuns.{logged}
use Rattle.refinement.proofs.WideSteps.{wide_step, wide-run}
use Rattle.refinement.proofs.Cases.{logging, Kept, Then, Invariant}
use Rattle.refinement.proofs.Next.{answered-still}

module _ {past : List ℕ} (v : World) (b : Reference) (G : Logging past v.st v.image b) where
  abbrev st : State
  st = v.st

  some-wide : some_wide st.wide.writer ≡ true
  some-wide = lt-ltb st.wide.writer 4 G.low

  -- a call that a row turns back
  refused : (c : Call) (row n : ℕ) (after : State) → (row ≡ 0 → ⊥) → Then past v (world_of (answered row st n after).state v.image) (turn c row (answered row st n after).stores b)
  refused c row n after never = answered-still (Invariant _) c v b row n after (logging G) (λ e. absurd (never e))

  -- 29 where nothing earlier applies
  no-begin : (w : ℕ) → refusal (begin_rows st w) ≡ 0 → ⊥
  no-begin w e = contradicts some-wide (begin-taken st w e).none-wide

  no-begin-wide : (w : ℕ) → refusal (begin_wide_rows st w) ≡ 0 → ⊥
  no-begin-wide w e = contradicts (fine st G.valid G.low).opens ((begin-wide-taken st w e).closed st.wide.writer G.low)

  no-prepare : (w : ℕ) → refusal (prepare_call_rows st v.image w) ≡ 0 → ⊥
  no-prepare w e = contradicts some-wide (prepare-alone st w (sym (row-none (prepare_rows st w) (none-apply (prepare_call_rows st v.image w) (omega arith) e).1.1.1))).0

  no-event : (ms : List ℕ) (k m a : ℕ) → refusal (event_call_rows st v.image ms k m a) ≡ 0 → ⊥
  no-event ms k m a e = contradicts some-wide (none-apply (event_call_rows st v.image ms k m a) (omega arith) e).1.1.1.0

  -- 24
  no-confirm : (w : ℕ) → refusal (confirm_call_rows st v.image w) ≡ 0 → ⊥
  no-confirm w e =
      let T = confirm-taken st w (sym (row-none (confirm_rows st w) (none-apply (confirm_call_rows st v.image w) (omega arith) e).1.1.1)) in
      omega (arith, T.writer-low, T.prepared, unprepared st G.valid G.low)

  pub logging-sound : (c : Call) → Lent c → Kept past c v b
  unfolding exec begin_of begin_wide_of prepare_of confirm_of withdraw_of event_of
  logging-sound mount lent = mount-kept v b (logging-standing v b G)
  logging-sound (recall p l target) lent = recall-kept v b (logging-standing v b G) (logging G) p l target
  logging-sound step lent = wide_step v b (logged G)
  logging-sound (run k) lent = wide-run v b (logged G) G.valid k
  logging-sound checkpoint lent = log-checkpoint v b G
  logging-sound free lent = log-free v b G
  logging-sound (consolidate p) lent = log-consolidate v b G p
  logging-sound (abort w) lent = log-abort w v b G
  logging-sound (commit w) lent = log-commit w v b G
  logging-sound (write w p l o n bytes) lent = log-write w p l o n bytes lent v b G
  logging-sound (read w p l target) lent = log-read v b G w p l target
  logging-sound (load text) lent = log-load v b G text
  logging-sound (begin w) lent = let r = refused (begin w) (refusal (begin_rows st w)) _ _ (no-begin w) in record { right = tt; sizes = r.sizes; related = r.related }
  logging-sound (begin_wide w) lent = let r = refused (begin_wide w) (refusal (begin_wide_rows st w)) _ _ (no-begin-wide w) in record { right = tt; sizes = r.sizes; related = r.related }
  logging-sound (prepare w) lent = let r = refused (prepare w) (refusal (prepare_call_rows st v.image w)) _ _ (no-prepare w) in record { right = tt; sizes = r.sizes; related = r.related }
  logging-sound (confirm w) lent = let r = refused (confirm w) (refusal (confirm_call_rows st v.image w)) _ _ (no-confirm w) in record { right = tt; sizes = r.sizes; related = r.related }
  logging-sound (withdraw w) lent = let r = refused (withdraw w) (refusal (confirm_call_rows st v.image w)) _ _ (no-confirm w) in record { right = tt; sizes = r.sizes; related = r.related }
  logging-sound (event ms k m a) lent = let r = refused (event ms k m a) (refusal (event_call_rows st v.image ms k m a)) _ _ (no-event ms k m a) in record { right = tt; sizes = r.sizes; related = r.related }
