-- One store of a pending operation: what a mount finds before and after it. It is the last one of a commit, a consolidation or a checkpoint
-- that changes the slots found, by the state alone; every other store changes nothing that a mount reads.
use Prim.Native.Nat.{ℕ, ◌+◌, ◌*◌, ◌<◌}
use mathlib.Core.List.{List}
use mathlib.Core.Logic.{⊎_elim}
use mathlib.Core.Path.{◌≡◌, refl, sym, ap, ap₂, ◌∙◌, subst}
use native.Mathlib.Omega.{arith}
use lib.Dec.{ltb}
use borrow.Author.Tests.{ltb-true, ltb-false}
use Rattle.bounded.proofs.Tests.{case_on}
use Rattle.layout.specs.declared.Sizes.{Sizes}
use Rattle.layout.specs.Layout.{head_word, tail_word}
use Rattle.words.specs.Words.{store}
use Rattle.journal.specs.declared.Record.{Record}
use Rattle.journal.specs.Records.{position}
use Rattle.replay.specs.Table.{replay}
use Rattle.mount.proofs.View.{View, Shows}
use Rattle.mount.proofs.Dead.{dead-view}
use Rattle.mount.proofs.Emptied.{unrecorded}
use Rattle.state.specs.State.{State}
use Rattle.state.specs.declared.Op.{Op}
use Rattle.state.specs.declared.Op.TheVariants.{Idle, Write, Commit, Consolidate, Checkpoint, Event, Prepare, Confirm, Log, Copy, Format}
use Rattle.operations.specs.Operations.{needs}
use Rattle.refinement.specs.Frames.{page_slot}
use Rattle.operations.proofs.Taken.{CommitTaken}
use Rattle.refinement.specs.Commit.{commit_record, commit_head}
use Rattle.refinement.specs.Consolidate.{copy_store_count, freeing_record}
use Rattle.refinement.specs.Stores.{stepped, store_at, store_value, store_made}
use Rattle.refinement.specs.Calls.{world_of}
use Rattle.refinement.specs.Reference.{Reference}
use Rattle.refinement.proofs.CheckpointMid.{recorded, checkpoint-mid}
use Rattle.refinement.proofs.CommitMid.{count, commit-pending, commit-needs, commit-mid, prepare-mid}
use Rattle.refinement.proofs.Invariant.{Durable, Writing, Never, Changing, Doing, Busy}
use Rattle.refinement.proofs.Pending.{pends}
use Rattle.refinement.proofs.StoreKept.{store-fits, store-none}
use Rattle.refinement.proofs.Stepping.{Aside, Mid}
use Rattle.refinement.proofs.StepCheckpoint.{few-made, needed, checkpoint-shows, checkpoint-image}
use Rattle.refinement.proofs.StepCommit.{commit-shows, records-there, image-is}
use Rattle.refinement.proofs.StepPrepare.{prepare-left, confirm-pending, records-ready}
use Rattle.refinement.proofs.Records.{Stored}
use Rattle.refinement.proofs.StepConsolidate.{some_left, consolidate-between, consolidate-shows, consolidate-image}
use Rattle.refinement.proofs.Steps.{stepped-image}
use Rattle.refinement.proofs.WriteMid.{write_mid}
use Rattle.leftovers.proofs.Alike.{slots_of, Alike, Leaves, Stays, alike-after, stays}

-- the slots that a mount finds are those of the view shown
pub shown-slots : (img : List ℕ) (v : View) → Shows img v → slots_of img ≡ v.table
shown-slots img v shows = ap (λ (u : View). u.table) shows

-- ---- a store that is not the last, or the last of a write

pub mid-stays : (past : List ℕ) (st : State) (img : List ℕ) (b : Reference) (D : Durable past st img b) (op : Op) (m : ℕ) → Mid past st img b D op m
    → Stays img (store_made st img op m)
mid-stays past st img b D op m M =
    let z : Sizes = st.sizes in
    let a : ℕ = store_at st op m in
    let w : ℕ = store_value st img op m in
    let before = shown-slots img D.view D.shows in
    ⊎_elim
    (λ e. subst (Stays img) (sym (store-none past st img b D a w M.inside e)) (stays img))
    (λ (s : Aside past st img b D op a).
    let after = shown-slots (store img a w) D.view (dead-view img D.view D.shows a w (store-fits past st img b D a w M.inside) s.dead) in
    record { table = after ∙ sym before })
    M.harmless

-- ---- the last store of a commit

abbrev pub Committed : State → ℕ → List ℕ → List ℕ → Type 0
Committed st w x y = Leaves x y (replay st.sizes st.head (count st w) (commit_record st w))

-- head stored, where the records are in the image
head-leaves : (past : List ℕ) (st : State) (img : List ℕ) (b : Reference) (B : Busy past st img b) → Writing st img b Never → (w : ℕ) → CommitTaken st w → Stored st img w
    → Committed st w img (store img head_word (commit_head st w))
head-leaves past st img b B W w T stored =
    let z : Sizes = st.sizes in
    let n : ℕ = count st w in
    let new : ℕ → Record = commit_record st w in
    let D = B.durable in
    let x : ℕ = position z st.head n in
    let before = shown-slots img D.view D.shows in
    let after : slots_of (store img head_word x) ≡ replay z st.head n new D.view.table =
    shown-slots (store img head_word x) _ (commit-shows past st img b B.valid D W w T stored B.narrow) in
    record { table = after ∙ ap (replay z st.head n new) (sym before) }

pub commit-leaves : (past : List ℕ) (st : State) (img : List ℕ) (b : Reference) (B : Busy past st img b) (w : ℕ) → st.pending.op ≡ Commit w → st.pending.made ≡ 4 * count st w
    → Committed st w img (store_made st img (Commit w) st.pending.made)
commit-leaves past st img b B w e last =
    subst (Committed st w img) (sym (image-is past st img b B w e last))
    (head-leaves past st img b B (subst (λ (o : Op). Writing st img b (Changing o)) e B.writers) w (commit-pending st w B.valid e) (records-there past st img b B w e last))

-- the one of a confirm
confirm-leaves : (past : List ℕ) (st : State) (img : List ℕ) (b : Reference) (B : Busy past st img b) (w : ℕ) → st.pending.op ≡ Confirm w
    → Committed st w img (store_made st img (Confirm w) st.pending.made)
confirm-leaves past st img b B w e =
    head-leaves past st img b B (subst (λ (o : Op). Writing st img b (Changing o)) e B.writers) w (confirm-pending past st img b B w e) (records-ready past st img b B w e)

-- ---- of a consolidation

abbrev Consolidated : State → ℕ → List ℕ → List ℕ → Type 0
Consolidated st p x y = Leaves x y (replay st.sizes st.head 1 (freeing_record st p))

consolidate-leaves : (past : List ℕ) (st : State) (img : List ℕ) (b : Reference) (B : Busy past st img b) (p : ℕ) → st.pending.op ≡ Consolidate p → st.pending.made ≡ copy_store_count (page_slot st p) + 5
    → Consolidated st p img (store_made st img (Consolidate p) st.pending.made)
consolidate-leaves past st img b B p e last =
    let z : Sizes = st.sizes in
    let new : ℕ → Record = freeing_record st p in
    let D = B.durable in
    let x : ℕ = position z st.head 1 in
    let before = shown-slots img D.view D.shows in
    let after : slots_of (store img head_word x) ≡ replay z st.head 1 new D.view.table =
    shown-slots (store img head_word x) _ (consolidate-shows past st img b B p e last)
    ∙ ap₂ (λ (y : Sizes) (h : ℕ). replay y h 1 new D.view.table) D.sizes-same D.head-same in
    subst (Consolidated st p img) (sym (consolidate-image past st img b B p e last))
    (record { table = after ∙ ap (replay z st.head 1 new) (sym before) })

-- ---- of a checkpoint

abbrev Checkpointed : State → List ℕ → List ℕ → Type 0
Checkpointed st x y = Leaves x y unrecorded

checkpoint-leaves : (past : List ℕ) (st : State) (img : List ℕ) (b : Reference) (B : Busy past st img b) → st.pending.op ≡ Checkpoint → st.pending.made ≡ 3 * recorded st
    → Checkpointed st img (store_made st img Checkpoint st.pending.made)
checkpoint-leaves past st img b B e last =
    let z : Sizes = st.sizes in
    let D = B.durable in
    let before = shown-slots img D.view D.shows in
    let after = shown-slots (store img tail_word st.head) _ (checkpoint-shows past st img b B e last) in
    subst (Checkpointed st img) (sym (checkpoint-image past st img b B e last))
    (record { table = after ∙ ap unrecorded (sym before) })

-- ---- one store in two images, of the same state

module _ (past past' : List ℕ) (st : State) (x y : List ℕ) (b : Reference) (B : Busy past st x b) (C : Busy past' st y b) (same : Alike x y) where
  abbrev m : ℕ
  m = st.pending.made

  abbrev Next : Op → Type 0
  Next op = Alike (store_made st x op m) (store_made st y op m)

  between : (op : Op) → Mid past st x b B.durable op m → Mid past' st y b C.durable op m → Next op
  between op M N = alike-after (mid-stays past st x b B.durable op m M) (mid-stays past' st y b C.durable op m N) same

  next_of : (op : Op) → st.pending.op ≡ op → Next op
  unfolding needs
  next_of Idle e = absurd (subst (Doing st x b) e B.doing)
  next_of (Write w p l o n) e =
      let low : m < 8 = (pends st (Write w p l o n) B.valid e refl).made-low in
      between (Write w p l o n) (write_mid past st x b B w p l o n e m low) (write_mid past' st y b C w p l o n e m low)
  next_of (Commit w) e =
      let left : m < needs st (Commit w) = (pends st (Commit w) B.valid e refl).made-low in
      case_on (ltb m (4 * count st w))
      (λ t. let low = ltb-true m (4 * count st w) t in between (Commit w) (commit-mid past st x b B w e m low) (commit-mid past' st y b C w e m low))
      (λ t.
      let last : m ≡ 4 * count st w = omega (arith, left, commit-needs st w m left, ltb-false m (4 * count st w) t) in
      alike-after (commit-leaves past st x b B w e last) (commit-leaves past' st y b C w e last) same)
  next_of (Consolidate p) e =
      let c : ℕ = copy_store_count (page_slot st p) + 5 in
      case_on (ltb m c)
      (λ t. let low = ltb-true m c t in between (Consolidate p) (consolidate-between past st x b B p e low) (consolidate-between past' st y b C p e low))
      (λ t.
      let last : m ≡ c = omega (arith, some_left past st x b B p e, ltb-false m c t) in
      alike-after (consolidate-leaves past st x b B p e last) (consolidate-leaves past' st y b C p e last) same)
  next_of (Prepare w) e =
      let low = prepare-left past st x b B w e in
      between (Prepare w) (prepare-mid past st x b B w e m low) (prepare-mid past' st y b C w e m low)
  next_of (Confirm w) e = alike-after (confirm-leaves past st x b B w e) (confirm-leaves past' st y b C w e) same
  next_of (Event k i a) e = absurd (subst (Doing st x b) e B.doing)
  next_of (Log p l o n) e = absurd (subst (Doing st x b) e B.doing)
  next_of Copy e = absurd (subst (Doing st x b) e B.doing)
  next_of Format e = absurd (subst (Doing st x b) e B.doing)
  next_of Checkpoint e =
      case_on (ltb m (3 * recorded st))
      (λ t. let low = ltb-true m (3 * recorded st) t in between Checkpoint (checkpoint-mid past st x b B.durable m low) (checkpoint-mid past' st y b C.durable m low))
      (λ t.
      let last : m ≡ 3 * recorded st = omega (arith, few-made past st x b B e, needed past st x b B e, ltb-false m (3 * recorded st) t) in
      alike-after (checkpoint-leaves past st x b B e last) (checkpoint-leaves past' st y b C e last) same)

  pub one_store : Alike (stepped (world_of st x)).image (stepped (world_of st y)).image
  one_store =
      subst (λ (i : List ℕ). Alike i (stepped (world_of st y)).image) (sym (stepped-image (world_of st x)))
      (subst (Alike (store_made st x st.pending.op m)) (sym (stepped-image (world_of st y))) (next_of st.pending.op refl))
