-- One step of a pending prepare: a store of a commit's, before head; with the last of them the writer is prepared. The one step of a pending confirm is a commit's
-- last, that of head: the records are in the image since the prepare.
use Prim.Native.Nat.{ℕ, ◌+◌, ◌-◌, ◌*◌, ◌<◌, ◌≤◌}
use mathlib.Core.List.{List}
use mathlib.Core.Path.{◌≡◌, refl, sym, ap, subst}
use native.Mathlib.Omega.{arith}
use lib.Dec.{ltb, eqb}
use lib.ListN.{length}
use borrow.Author.Tests.{ltb-true, ltb-false}
use Rattle.bounded.proofs.Tests.{case_on, row_keeps}
use Rattle.layout.specs.Layout.{head_word}
use Rattle.words.specs.Words.{word, store}
use Rattle.state.specs.State.{State}
use Rattle.state.specs.declared.Op.{Op}
use Rattle.state.specs.declared.Op.TheVariants.{Prepare, Confirm}
use Rattle.operations.specs.Operations.{needs}
use Rattle.operations.proofs.Taken.{prepare-taken, CommitTaken, commit-taken, confirm-taken}
use Rattle.refinement.specs.Commit.{commit_head}
use Rattle.refinement.specs.Stores.{stepped, completed, store_at, store_value, store_made}
use Rattle.refinement.specs.Calls.{world_of}
use Rattle.refinement.specs.Reference.{Reference, idle, under, nothing, committing, with_work, advances}
use Rattle.refinement.proofs.AskPrepare.{now-prepared}
use Rattle.refinement.proofs.CommitMid.{prepare-mid}
use Rattle.refinement.proofs.CommitValid.{confirm-can}
use Rattle.refinement.proofs.Invariant.{Writing, Never, Changing, Doing, Quiet, Busy, Related}
use Rattle.refinement.proofs.Keeps.{durable-kept}
use Rattle.refinement.proofs.Pending.{pends}
use Rattle.refinement.proofs.Records.{count, Stored}
use Rattle.refinement.proofs.StepCommit.{commit-quiet}
use Rattle.refinement.proofs.StepLast.{step-last}
use Rattle.refinement.proofs.Stepping.{needs-made, step-mid, mid-durable, mid-writing, mid-landed, durable-made, writing-made}

-- ---- prepare

pub prepare-needs : (st : State) (w : ℕ) → needs st (Prepare w) ≡ 4 * count st w
unfolding needs
prepare-needs st w = refl

module _ (past : List ℕ) (st : State) (img : List ℕ) (b : Reference) (B : Busy past st img b) (w : ℕ) (e : st.pending.op ≡ Prepare w) where
  abbrev m : ℕ
  m = st.pending.made

  abbrev after : List ℕ
  after = store_made st img (Prepare w) m

  pub prepare-left : m < 4 * count st w
  prepare-left = subst (λ (n : ℕ). m < n) (prepare-needs st w) (pends st (Prepare w) B.valid e refl).made-low

  doing : b.work ≡ under nothing (needs st (Prepare w) - m)
  doing = subst (Doing st img b) e B.doing

  goes_on : m + 1 < needs st (Prepare w) → Related past (stepped (world_of st img)) (advances 1 b.work b)
  goes_on h =
      step-mid past st img b B nothing (Prepare w) e refl doing h (prepare-mid past st img b B w e m prepare-left)
      (ap (λ (n : ℕ). under nothing (n - (m + 1))) (sym (needs-made st (m + 1) (Prepare w))))

  -- with the last store all records are there
  complete : m + 1 ≡ needs st (Prepare w) → Quiet past (completed st (Prepare w)) after (with_work idle b)
  complete q =
      let M = prepare-mid past st img b B w e m prepare-left in
      let D = mid-durable past st img b B.durable (Prepare w) m M in
      let W : Writing st after b Never = mid-writing past st img b B.durable (Prepare w) m M (subst (λ (o : Op). Writing st img b (Changing o)) e B.writers) in
      let landed = subst (λ (o : Op). (j : ℕ) → j < m → word img (store_at st o j) ≡ store_value st img o j) e B.landed in
      now-prepared st after (with_work idle b) w B.valid (prepare-taken st w (pends st (Prepare w) B.valid e refl).taken)
      (durable-kept st after b (with_work idle b) st.next st.writers st.pending (λ p l h k. refl) D)
      (record { four = W.four; sixty-four = W.sixty-four; held_low = W.held_low; own-copy = W.own-copy; no_writes = W.no_writes; ready = W.ready })
      (λ j l. mid-landed past st img b B.durable (Prepare w) m M landed j (omega (arith, l, q, prepare-needs st w))) refl
      (record { state = B.narrow.state; book = B.narrow.book })

  pub step-prepare : Related past (stepped (world_of st img)) (advances 1 b.work b)
  step-prepare =
      let k : ℕ = needs st (Prepare w) in
      case_on (ltb (m + 1) k)
      (λ t. goes_on (ltb-true (m + 1) k t))
      (λ t.
      let q : m + 1 ≡ k = omega (arith, prepare-left, prepare-needs st w, ltb-false (m + 1) k t) in
      step-last past st img b (Prepare w) nothing after e doing q refl (complete q))

-- ---- confirm

confirm-most : (st : State) (w : ℕ) → needs st (Confirm w) ≤ 1
unfolding needs
confirm-most st w = row_keeps (λ (n : ℕ). n ≤ 1) (eqb (count st w) 0) 0 1 (omega arith) (omega arith)

module _ (past : List ℕ) (st : State) (img : List ℕ) (b : Reference) (B : Busy past st img b) (w : ℕ) (e : st.pending.op ≡ Confirm w) where
  pub confirm-pending : CommitTaken st w
  confirm-pending = confirm-can st w B.valid (confirm-taken st w (pends st (Confirm w) B.valid e refl).taken)

  -- the records are those stored since the prepare
  pub records-ready : Stored st img w
  records-ready =
      let T = confirm-taken st w (pends st (Confirm w) B.valid e refl).taken in
      subst (Stored st img) T.prepared (B.writers.ready (omega (arith, T.prepared, T.writer-low)))

  pub step-confirm : Related past (stepped (world_of st img)) (advances 1 b.work b)
  step-confirm =
      let low = (pends st (Confirm w) B.valid e refl).made-low in
      step-last past st img b (Confirm w) (committing w) (store img head_word (commit_head st w)) e (subst (Doing st img b) e B.doing) (omega (arith, low, confirm-most st w)) refl
      (commit-quiet past st img b B.valid B.durable (subst (λ (o : Op). Writing st img b (Changing o)) e B.writers) w confirm-pending records-ready B.narrow)
