-- Prepare, confirm and withdraw (document 02, L8). A prepare with no lines held needs no store: its writer is prepared at once. A confirm of nothing is an empty
-- commit. A withdraw changes nothing but that no writer is prepared.
use Prim.Native.Nat.{ℕ}
use mathlib.Core.Bool.{true}
use mathlib.Core.List.{List}
use mathlib.Core.Logic.{inl, inr}
use mathlib.Core.Path.{◌≡◌, refl, sym, ap}
use native.Mathlib.Omega.{arith}
use lib.Dec.{eqb}
use lib.ListN.{length, replicate}
use borrow.Author.Tests.{eqb-true}
use Rattle.bounded.specs.Rows.{refusal}
use Rattle.bounded.proofs.Rows.{none-apply, row-none}
use Rattle.bounded.proofs.Tests.{case_on}
use Rattle.state.specs.State.{State, Wide}
use Rattle.state.specs.declared.Op.TheVariants.{Prepare, Confirm}
use Rattle.state.specs.Wide.{some_wide}
use Rattle.operations.specs.Operations.{needs, prepare_rows, confirm_rows}
use Rattle.validity.specs.Validity.{state_ok}
use Rattle.operations.proofs.Taken.{CommitTaken, prepare-taken, confirm-taken}
use Rattle.refinement.specs.Settled.{with_prepared}
use Rattle.refinement.specs.Commit.{commit_slots, prepare_done}
use Rattle.refinement.specs.Stores.{World}
use Rattle.refinement.specs.Calls.{prepare_call_rows, confirm_call_rows, prepare_of, confirm_of, withdraw_of}
use Rattle.refinement.specs.Run.{prepare, confirm, withdraw, exec}
use Rattle.refinement.specs.Reference.{Reference, idle, committing, nothing}
use Rattle.refinement.proofs.AskCommit.{empty-commit, unprepared-quiet}
use Rattle.refinement.proofs.Asked.{all_left, asked-busy}
use Rattle.refinement.proofs.Begun.{unprepared}
use Rattle.refinement.proofs.CommitValid.{prepare-valid, confirm-can}
use Rattle.refinement.proofs.Invariant.{Durable, Writing, Narrow, Never, Quiet, Related}
use Rattle.refinement.proofs.Keeps.{durable-kept}
use Rattle.refinement.proofs.Records.{Stored}
use Rattle.refinement.proofs.Sound.{Sound, is-quiet}
use Rattle.refinement.proofs.Next.{answered-still, asked-next}

-- a writer prepared: its records are in the image, and nothing else has changed
pub now-prepared : {past : List ℕ} (st : State) (img : List ℕ) (b : Reference) (w : ℕ) → state_ok st ≡ true → CommitTaken st w → Durable past st img b → Writing st img b Never
    → Stored st img w → b.work ≡ idle → Narrow st b → Quiet past (prepare_done st w) img b
now-prepared st img b w ok T D W stored work N =
    record {
      valid = prepare-valid st w ok T (ap (λ (d : Wide). some_wide d.writer) N.state);
      pending = refl;
      durable = durable-kept st img b b st.next (with_prepared st.writers w) _ (λ p l h k. refl) D;
      writers = record { four = W.four; sixty-four = W.sixty-four; held_low = W.held_low; own-copy = W.own-copy; no_writes = W.no_writes; ready = λ l. stored };
      work = work;
      narrow = record { state = N.state; book = N.book };
    }

-- no store is needed: no line is held
none-prepared : (st : State) (w : ℕ) → needs st (Prepare w) ≡ 0 → length (commit_slots st w) ≡ 0
unfolding needs
none-prepared st w e = omega (arith, e)

none-confirmed : (st : State) (w : ℕ) → needs st (Confirm w) ≡ 0 → length (commit_slots st w) ≡ 0
unfolding needs
none-confirmed st w e =
    let n : ℕ = length (commit_slots st w) in
    case_on (eqb n 0) (λ t. eqb-true n 0 t) (λ t. absurd (omega (arith, rw t at e)))

prepare-row : (st : State) (img : List ℕ) (w : ℕ) → refusal (prepare_call_rows st img w) ≡ 0 → refusal (prepare_rows st w) ≡ 0
prepare-row st img w e = sym (row-none (prepare_rows st w) (none-apply (prepare_call_rows st img w) (omega arith) e).1.1.1)

pub prepare-sound : {past : List ℕ} (w : ℕ) (v : World) (b : Reference) → Related past v b → Sound past (prepare w) v b
unfolding exec prepare_of
prepare-sound w v b h =
    let st = v.st in
    let img = v.image in
    let rows = none-apply (prepare_call_rows st img w) (omega arith) in
    let a =
    asked-next (Related _) (prepare w) v b (Prepare w) (replicate 8 0) nothing (refusal (prepare_call_rows st img w)) (λ e k. refl) h
    (λ e z.
    let q = is-quiet st img b h (rows e).1.1.0 in
    let T = prepare-taken st w (prepare-row st img w e) in
    record { sizes = refl; related = inl (now-prepared st img b w q.valid T q.durable q.writers (λ i l. absurd (omega (arith, l, none-prepared st w z))) q.work q.narrow) })
    (λ e z.
    let q = is-quiet st img b h (rows e).1.1.0 in
    record { sizes = refl; related = inr (asked-busy st img b (Prepare w) (replicate 8 0) nothing q refl z (prepare-row st img w e) (all_left st (Prepare w) (replicate 8 0) nothing)) }) in
    record { right = tt; sizes = a.sizes; related = a.related }

confirm-row : (st : State) (img : List ℕ) (w : ℕ) → refusal (confirm_call_rows st img w) ≡ 0 → refusal (confirm_rows st w) ≡ 0
confirm-row st img w e = sym (row-none (confirm_rows st w) (none-apply (confirm_call_rows st img w) (omega arith) e).1.1.1)

pub confirm-sound : {past : List ℕ} (w : ℕ) (v : World) (b : Reference) → Related past v b → Sound past (confirm w) v b
unfolding exec confirm_of
confirm-sound w v b h =
    let st = v.st in
    let img = v.image in
    let rows = none-apply (confirm_call_rows st img w) (omega arith) in
    let a =
    asked-next (Related _) (confirm w) v b (Confirm w) (replicate 8 0) (committing w) (refusal (confirm_call_rows st img w)) (λ e k. refl) h
    (λ e z.
    let q = is-quiet st img b h (rows e).1.1.0 in
    let T = confirm-can st w q.valid (confirm-taken st w (confirm-row st img w e)) in
    record { sizes = refl; related = inl (empty-commit st img b w T q (none-confirmed st w z)) })
    (λ e z.
    let q = is-quiet st img b h (rows e).1.1.0 in
    record { sizes = refl; related = inr (asked-busy st img b (Confirm w) (replicate 8 0) (committing w) q refl z (confirm-row st img w e) (all_left st (Confirm w) (replicate 8 0) (committing w))) }) in
    record { right = tt; sizes = a.sizes; related = a.related }

pub withdraw-sound : {past : List ℕ} (w : ℕ) (v : World) (b : Reference) → Related past v b → Sound past (withdraw w) v b
unfolding exec withdraw_of
withdraw-sound w v b h =
    let st = v.st in
    let img = v.image in
    let a =
    answered-still (Related _) (withdraw w) v b (refusal (confirm_call_rows st img w)) 0 (unprepared st) h
    (λ e.
    let q = is-quiet st img b h (none-apply (confirm_call_rows st img w) (omega arith) e).1.1.0 in
    record { sizes = refl; related = inl (unprepared-quiet st img b q) }) in
    record { right = tt; sizes = a.sizes; related = a.related }
