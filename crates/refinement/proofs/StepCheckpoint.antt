-- One store of a pending checkpoint: with one more store made it is still pending; or the last one, to tail, leaves no live record, and
-- mount finds the same slots in the slot table.
use Prim.Native.Nat.{ℕ, ◌+◌, ◌-◌, ◌*◌, ◌<◌, ◌≤◌}
use mathlib.Core.List.{List}
use mathlib.Core.Logic.{⊎_elim, inl, inr}
use mathlib.Core.Path.{◌≡◌, refl, sym, ap, ap₂, ◌∙◌, subst}
use native.Mathlib.Omega.{arith}
use lib.Dec.{ltb, eqb}
use lib.ListN.{length}
use borrow.Author.Tests.{ltb-true, ltb-false}
use Rattle.bounded.proofs.Tab.{length-filled, get_or-filled}
use Rattle.bounded.proofs.Tests.{case_on}
use Rattle.layout.specs.declared.Sizes.{Sizes}
use Rattle.layout.specs.Layout.{Legal, tail_word, slot_word, record_word, image_length}
use Rattle.words.specs.Words.{word, store}
use Rattle.words.proofs.WordLaws.{length-store, bytes-store, drop-store}
use Rattle.replay.specs.declared.Table.{Table}
use Rattle.replay.specs.Table.{slot_in, last_in, no_position}
use Rattle.replay.specs.Map.{page_frames}
use Rattle.mount.proofs.Emptied.{Copied, unrecorded, emptied, emptied-view, emptied-taken}
use Rattle.mount.proofs.LastRecords.{last-record}
use Rattle.replay.proofs.Tables.{Sixteen, one_value}
use Rattle.mount.proofs.Verdict.{Taken}
use Rattle.mount.proofs.View.{Shows}
use Rattle.state.specs.State.{State}
use Rattle.state.specs.declared.Op.{Op}
use Rattle.state.specs.declared.Op.TheVariants.{Checkpoint}
use Rattle.operations.specs.Operations.{needs}
use Rattle.refinement.specs.Commit.{commit_record_of, commit_value_of}
use Rattle.refinement.specs.Checkpoint.{checkpoint_at, checkpoint_value, without_lasts}
use Rattle.refinement.specs.Stores.{stepped, completed, store_at, store_value, store_made}
use Rattle.refinement.proofs.Pending.{pends}
use Rattle.refinement.proofs.CheckpointValid.{checkpoint-valid}
use Rattle.refinement.specs.Calls.{world_of}
use Rattle.refinement.specs.Reference.{Reference, idle, under, nothing, with_work, advances}
use Rattle.refinement.proofs.Copies.{durable-legal, durable-fits}
use Rattle.refinement.proofs.Invariant.{TakenOnly, Behind, Durable, Writing, Never, Changing, Doing, Quiet, Busy, Related}
use Rattle.refinement.proofs.CheckpointMid.{recorded, slot-stored, at_slot, value-slot, at_tail, value-tail, checkpoint-mid}
use Rattle.refinement.proofs.HeaderStore.{header-fits, header-page, header-line, header-copy, header-home}
use Rattle.refinement.proofs.Records.{stored-kept}
use Rattle.refinement.proofs.Stepping.{needs-made, step-mid}
use Rattle.refinement.proofs.StepLast.{step-last}

-- ---- the last store, with those before it landed

module _ (past : List ℕ) (st : State) (img : List ℕ) (b : Reference) (D : Durable past st img b) (landed : (j : ℕ) → j < 3 * recorded st → word img (checkpoint_at st j) ≡ checkpoint_value st img j) where
  abbrev z : Sizes
  z = st.sizes

  abbrev d : Table
  d = D.view.table

  abbrev after : List ℕ
  after = store img tail_word st.head

  whole : image_length z ≤ length img
  whole = durable-fits past st img b D

  -- the slots with a live record are in the slot table
  copied : Copied (word img) D.view
  copied s k l f h =
      let low : s < z.slots = rw D.sizes-same at l in
      let g : Legal z = durable-legal past st img b D in
      let full : Sixteen st.table = D.behind.sixteen in
      let same : last_in st.table s ≡ last_in d s = D.behind.last-same s low in
      let x = slot-stored st g full s k low (λ e. f (sym same ∙ e)) h in
      let i : ℕ = x.0 in
      let at : checkpoint_at st i ≡ slot_word z s + k = at_slot st g full i x.1 ∙ ap₂ (λ (y n : ℕ). slot_word z y + n) x.2 x.3 in
      let value : checkpoint_value st img i ≡ word img (record_word z (last_in d s) + 1 + k) =
      value-slot st g full img i x.1 ∙ ap₂ (λ (y n : ℕ). word img (record_word z (last_in st.table y) + 1 + n)) x.2 x.3 ∙ ap (λ (q : ℕ). word img (record_word z q + 1 + k)) same in
      ap (λ (y : Sizes). word img (slot_word y s + k)) D.sizes-same
      ∙ ap (word img) (sym at)
      ∙ landed i x.1
      ∙ value
      ∙ ap (λ (y : Sizes). word img (record_word y (last_in d s) + 1 + k)) (sym D.sizes-same)
      ∙ (last-record img D.view D.shows D.mounts.legal s l f).words k h

  behind-after : Behind (page_frames (word after)) z (unrecorded d) (without_lasts z st.table)
  behind-after =
      let full : Sixteen st.table = D.behind.sixteen in
      let g : Legal z = durable-legal past st img b D in
      record {
        sixteen = record { page = full.page; original = full.original; spare = full.spare; bitmap = full.bitmap; last = length-filled z.slots (λ s. no_position) st.table.last ∙ full.last };
        last-same = λ s l. get_or-filled z.slots (λ s. no_position) st.table.last s no_position l (omega (arith, g.slots-high, full.last)) ∙ sym (one_value 16 s no_position);
        slot_same =
            λ s l.
            ⊎_elim inl
            (λ (q : TakenOnly (page_frames (word img)) z d st.table s).
            inr (record { page-low = q.page-low; original = q.original ∙ sym (header-page img z tail_word st.head (omega arith) whole (slot_in st.table s).page); bitmap = q.bitmap; was_free = q.was_free; unslotted = q.unslotted }))
            (D.behind.slot_same s l);
      }

  pub emptied-shows : Shows after (emptied D.view)
  emptied-shows =
      let head-low : D.view.head < 2 * D.view.sizes.places = D.mounts.positions.head-low in
      subst (λ (h : ℕ). Shows (store img tail_word h) (emptied D.view)) D.head-same
      (emptied-view img D.view D.shows D.mounts.legal copied D.mounts.records (omega (arith, whole)) (omega (arith, D.mounts.legal.places-high)))

  checkpointed-durable : Durable past (completed st Checkpoint) after (with_work idle b)
  checkpointed-durable =
      let g : Legal z = durable-legal past st img b D in
      let fits : 8 * tail_word + 8 ≤ length img = header-fits img z tail_word st.head (omega arith) whole in
      record {
        bytes = bytes-store img tail_word st.head D.bytes;
        past-kept = drop-store img tail_word st.head (image_length z) fits (omega arith) ∙ D.past-kept;
        view = emptied D.view;
        shows = emptied-shows;
        mounts = subst (λ (n : ℕ). Taken n (emptied D.view)) (sym (length-store img tail_word st.head fits)) (emptied-taken (length img) D.view D.mounts);
        sizes-same = D.sizes-same;
        head-same = D.head-same;
        tail-same = D.head-same;
        count_same = D.count_same;
        behind = behind-after;
        map-long = D.map-long;
        own = λ p l. D.own p l ∙ sym (header-home img z tail_word st.head (omega arith) whole st.table p);
        committed = λ p l low line. header-copy img z tail_word st.head (omega arith) whole st.table p l ∙ D.committed p l low line;
      }

  checkpointed-writing : Writing st img b Never → Writing (completed st Checkpoint) after (with_work idle b) Never
  unfolding commit_value_of commit_record_of
  checkpointed-writing W =
      record {
        four = W.four;
        sixty-four = W.sixty-four;
        held_low = W.held_low;
        own-copy = λ w p l lw lp ll out h. header-line img z tail_word st.head (omega arith) whole _ l ∙ W.own-copy w p l lw lp ll out h;
        no_writes = W.no_writes;
        ready =
            λ l.
            stored-kept z st.head st.table st.writers.held img st.writers.prepared tail_word st.head (durable-legal past st img b D)
            (header-fits img z tail_word st.head (omega arith) whole) (inl (omega arith)) (W.ready l);
      }

-- ---- a store of it

module _ (past : List ℕ) (st : State) (img : List ℕ) (b : Reference) (B : Busy past st img b) (is : st.pending.op ≡ Checkpoint) where
  abbrev m : ℕ
  m = st.pending.made

  pub few-made : m < needs st Checkpoint
  few-made = (pends st Checkpoint B.valid is refl).made-low

  pub needed : needs st Checkpoint ≡ 3 * recorded st + 1
  unfolding needs
  needed =
      let l : m < needs st Checkpoint = few-made in
      case_on (eqb st.head st.tail)
      (λ e. absurd (omega (arith, rw e at l)))
      (λ e. rw e)

  working : b.work ≡ under nothing (needs st Checkpoint - m)
  working = subst (Doing st img b) is B.doing

  goes_on : m < 3 * recorded st → Related past (stepped (world_of st img)) (advances 1 b.work b)
  goes_on l =
      step-mid past st img b B nothing Checkpoint is refl working (omega (arith, needed))
      (checkpoint-mid past st img b B.durable m l)
      (ap (λ (n : ℕ). under nothing (n - (m + 1))) (sym (needs-made st (m + 1) Checkpoint)))

  abbrev end : List ℕ
  end = store img tail_word st.head

  all-landed : m ≡ 3 * recorded st → (j : ℕ) → j < 3 * recorded st → word img (checkpoint_at st j) ≡ checkpoint_value st img j
  all-landed e j l = subst (λ (o : Op). word img (store_at st o j) ≡ store_value st img o j) is (B.landed j (omega arith))

  -- the image shows no live record, and the slots that it showed
  pub checkpoint-shows : m ≡ 3 * recorded st → Shows end (emptied B.durable.view)
  checkpoint-shows e = emptied-shows past st img b B.durable (all-landed e)

  complete : m ≡ 3 * recorded st → Quiet past (completed st Checkpoint) end (with_work idle b)
  complete e =
      record {
        valid = checkpoint-valid st B.valid B.durable.behind.sixteen;
        pending = refl;
        durable = checkpointed-durable past st img b B.durable (all-landed e);
        writers = checkpointed-writing past st img b B.durable (all-landed e) (subst (λ (o : Op). Writing st img b (Changing o)) is B.writers);
        work = refl;
        narrow = record { state = B.narrow.state; book = B.narrow.book };
      }

  pub checkpoint-image : m ≡ 3 * recorded st → store_made st img Checkpoint m ≡ end
  checkpoint-image e =
      let g : Legal st.sizes = durable-legal past st img b B.durable in
      let full : Sixteen st.table = B.durable.behind.sixteen in
      ap (store_made st img Checkpoint) e ∙ ap₂ (λ (a v : ℕ). store img a v) (at_tail st g full) (value-tail st g full img)

  ends : m ≡ 3 * recorded st → Related past (stepped (world_of st img)) (advances 1 b.work b)
  ends e = step-last past st img b Checkpoint nothing end is working (omega (arith, needed)) (checkpoint-image e) (complete e)

  pub step-checkpoint : Related past (stepped (world_of st img)) (advances 1 b.work b)
  step-checkpoint =
      case_on (ltb m (3 * recorded st))
      (λ e. goes_on (ltb-true m (3 * recorded st) e))
      (λ e.
      let l : 3 * recorded st ≤ m = ltb-false m (3 * recorded st) e in
      ends (omega (arith, few-made, needed)))
