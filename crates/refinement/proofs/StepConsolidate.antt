-- One store of a pending consolidation: with one more store made it is still pending, or it is complete; the reference machine's pages and
-- unfinished writes stay.
use Prim.Native.Nat.{ℕ, ◌+◌, ◌-◌, ◌<◌, ◌≤◌}
use mathlib.Core.Bool.{true, false, ◌&&◌}
use mathlib.Core.List.{List}
use mathlib.Core.Path.{◌≡◌, refl, sym, ap, ap₂, ◌∙◌, subst}
use native.Mathlib.Omega.{arith}
use lib.Dec.{ltb, eqb}
use lib.ListN.{length}
use borrow.Author.Tests.{ltb-true, ltb-false, eqb-true, eqb-false}
use Rattle.bounded.specs.Rows.{refusal}
use Rattle.bounded.proofs.Tests.{case_on, and_left}
use Rattle.layout.specs.Layout.{head_word, image_length}
use Rattle.image.specs.Lines.{line_bytes}
use Rattle.words.specs.Words.{word, store}
use Rattle.journal.specs.declared.Slot.{Slot}
use Rattle.journal.specs.Records.{position}
use Rattle.replay.specs.Table.{slot_in}
use Rattle.replay.proofs.Tables.{Sixteen}
use Rattle.mount.proofs.Append.{appended}
use Rattle.mount.proofs.View.{Shows}
use Rattle.masks.specs.Lines.{in_mask}
use Rattle.state.specs.State.{State}
use Rattle.state.specs.declared.Op.{Op}
use Rattle.state.specs.declared.Op.TheVariants.{Consolidate}
use Rattle.state.specs.Held.{held_at}
use Rattle.operations.specs.Operations.{slot_for, slotted, op_rows, needs}
use Rattle.operations.proofs.Taken.{ConsolidateTaken, consolidate-taken}
use Rattle.refinement.specs.Frames.{page_slot, other_frame}
use Rattle.refinement.specs.Consolidate.{copy_from, copy_store_count, freeing_record, consolidate_at, consolidate_value, consolidate_table}
use Rattle.refinement.specs.Stores.{stepped, completed, store_at, store_value, store_made}
use Rattle.refinement.proofs.Pending.{Pends, pends}
use Rattle.refinement.proofs.ConsolidateValid.{consolidate-valid}
use Rattle.refinement.specs.Calls.{world_of}
use Rattle.refinement.proofs.CallMounted.{view-sixteen}
use Rattle.refinement.specs.Reference.{Reference, idle, under, nothing, with_work, advances}
use Rattle.refinement.proofs.Invariant.{holds, Writing, Never, Changing, Doing, Quiet, Busy, Related}
use Rattle.refinement.proofs.Copies.{durable-fits}
use Rattle.refinement.proofs.ConsolidateStores.{Part, part_of, at_head, value-head}
use Rattle.refinement.proofs.ConsolidateSlot.{Freed, freed}
use Rattle.refinement.proofs.ConsolidateMid.{held-other, consolidate-mid}
use Rattle.refinement.proofs.ConsolidateLast.{frees-state, freed-shows, consolidated-durable}
use Rattle.refinement.proofs.FreeNames.{Frees, slot-gone, slot_kept, slot-in-kept}
use Rattle.refinement.proofs.HeaderStore.{header-line}
use Rattle.refinement.proofs.Stepping.{Mid, needs-made, step-mid}
use Rattle.refinement.proofs.StepLast.{step-last}

-- ---- the writers, when it is complete

module _ (st : State) (img : List ℕ) (b : Reference) (p x : ℕ) (F : Freed st p) (S : Frees st.sizes st.head (freeing_record st p) st.table (slot_for st p) p (copy_from (page_slot st p))) (whole : image_length st.sizes ≤ length img) where
  abbrev st' : State
  st' = completed st (Consolidate p)

  gone : slot_for st' p ≡ st.sizes.slots
  gone = slot-gone S

  -- any other page's slot is as before
  module _ (q : ℕ) (low : q < st.sizes.pages) (other : q ≡ p → ⊥) where
    kept : slot_for st' q ≡ slot_for st q
    kept = slot_kept S q low other

    slot_same : slot_for st q < st.sizes.slots → slot_in (consolidate_table st p) (slot_for st' q) ≡ slot_in st.table (slot_for st q)
    slot_same = slot-in-kept S q low other

    holds_kept : (w l : ℕ) → holds st' w q l ≡ holds st w q l
    holds_kept w l = ap (λ (s : ℕ). ltb s st.sizes.slots && in_mask (held_at st.writers.held w s) l) kept

  -- the freed one is held by none
  gone-holds : (w l : ℕ) → holds st' w p l ≡ true → ⊥
  gone-holds w l h =
      let e : slotted st' p ≡ true = and_left (slotted st' p) (in_mask (held_at st.writers.held w (slot_for st' p)) l) h in
      omega (arith, ltb-true (slot_for st' p) st.sizes.slots e, gone)

  gone_held : (w l : ℕ) → w < 4 → holds st w p l ≡ false
  gone_held w l low =
      case_on (holds st w p l)
      (λ h. absurd (held-other st p F w p l low h refl))
      (λ h. h)

  pub consolidated-writing : {Being : ℕ → ℕ → ℕ → Type 0} → ((w q l : ℕ) → Being w q l → ⊥) → Writing st img b Being → Writing st' (store img head_word x) (with_work idle b) Never
  consolidated-writing none-being W =
      record {
        four = W.four;
        sixty-four = W.sixty-four;
        held_low = W.held_low;
        own-copy =
            λ w q l lw lq ll out h.
            case_on (eqb q p)
            (λ e. absurd (gone-holds w l (subst (λ (y : ℕ). holds st' w y l ≡ true) (eqb-true q p e) h)))
            (λ e.
            let n : q ≡ p → ⊥ = eqb-false q p e in
            let h' : holds st w q l ≡ true = sym (holds_kept q lq n w l) ∙ h in
            let s : slot_for st q < st.sizes.slots = ltb-true (slot_for st q) st.sizes.slots (and_left (slotted st q) (in_mask (held_at st.writers.held w (slot_for st q)) l) h') in
            header-line img st.sizes head_word x (omega arith) whole (other_frame (slot_in (consolidate_table st p) (slot_for st' q)) l) l
            ∙ ap (λ (t : Slot). line_bytes img st.sizes (other_frame t l) l) (slot_same q lq n s)
            ∙ W.own-copy w q l lw lq ll (none-being w q l) h');
        no_writes =
            λ w q l i lw lq ll li h.
            case_on (eqb q p)
            (λ e. W.no_writes w q l i lw lq ll li (subst (λ (y : ℕ). holds st w y l ≡ false) (sym (eqb-true q p e)) (gone_held w l lw)))
            (λ e. W.no_writes w q l i lw lq ll li (sym (holds_kept q lq (eqb-false q p e) w l) ∙ h));
        ready = λ l. absurd (omega (arith, l, F.alone));
      }

-- ---- a store of it

module _ (past : List ℕ) (st : State) (img : List ℕ) (b : Reference) (B : Busy past st img b) (p : ℕ) (is : st.pending.op ≡ Consolidate p) where
  abbrev t : Slot
  t = page_slot st p

  abbrev m : ℕ
  m = st.pending.made

  under-way : Pends st (Consolidate p)
  under-way = pends st (Consolidate p) B.valid is refl

  no_row : refusal (op_rows st (Consolidate p)) ≡ 0
  no_row = under-way.taken

  taken : ConsolidateTaken st p
  taken = consolidate-taken st p no_row

  F : Freed st p
  F = freed st p B.valid B.durable.behind.sixteen taken

  needed : needs st (Consolidate p) ≡ copy_store_count t + 6
  unfolding needs
  needed = refl

  pub some_left : m < copy_store_count t + 6
  some_left = subst (λ (n : ℕ). m < n) needed under-way.made-low

  working : b.work ≡ under nothing (needs st (Consolidate p) - m)
  working = subst (Doing st img b) is B.doing

  part : (i : ℕ) → i < copy_store_count t + 5 → Part t i
  part i l = part_of t i l

  pub consolidate-between : m < copy_store_count t + 5 → Mid past st img b B.durable (Consolidate p) m
  consolidate-between l = consolidate-mid past st img b B.valid B.durable p F m (λ i h. part i (omega arith))

  goes_on : m < copy_store_count t + 5 → Related past (stepped (world_of st img)) (advances 1 b.work b)
  goes_on l =
      step-mid past st img b B nothing (Consolidate p) is refl working (omega (arith, needed))
      (consolidate-between l)
      (ap (λ (n : ℕ). under nothing (n - (m + 1))) (sym (needs-made st (m + 1) (Consolidate p))))

  abbrev after : List ℕ
  after = store img head_word (position st.sizes st.head 1)

  all-landed : m ≡ copy_store_count t + 5 → (j : ℕ) → j < copy_store_count t + 5 → word img (consolidate_at st p j) ≡ consolidate_value st img p j
  all-landed e j l = subst (λ (o : Op). word img (store_at st o j) ≡ store_value st img o j) is (B.landed j (omega arith))

  sixteen : Sixteen B.durable.view.table
  sixteen = view-sixteen img B.durable.view B.durable.shows

  -- the freeing record joins what the image showed, the page's word is stored
  pub consolidate-shows : m ≡ copy_store_count t + 5 → Shows after (appended (word img) B.durable.view 1 (freeing_record st p))
  consolidate-shows e = freed-shows past st img b B.valid B.durable p F (all-landed e) sixteen

  complete : m ≡ copy_store_count t + 5 → Quiet past (completed st (Consolidate p)) after (with_work idle b)
  complete e =
      let full : Sixteen st.table = B.durable.behind.sixteen in
      record {
        valid = consolidate-valid st p B.valid full B.durable.map-long no_row;
        pending = refl;
        durable = consolidated-durable past st img b B.valid B.durable p F (all-landed e) sixteen;
        writers =
            consolidated-writing st img b p (position st.sizes st.head 1) F (frees-state st p B.valid full F) (durable-fits past st img b B.durable)
            (λ w q l c. c) (subst (λ (o : Op). Writing st img b (Changing o)) is B.writers);
        work = refl;
        narrow = record { state = B.narrow.state; book = B.narrow.book };
      }

  pub consolidate-image : m ≡ copy_store_count t + 5 → store_made st img (Consolidate p) m ≡ after
  consolidate-image e = ap (store_made st img (Consolidate p)) e ∙ ap₂ (λ (a v : ℕ). store img a v) (at_head st p) (value-head st p img)

  ends : m ≡ copy_store_count t + 5 → Related past (stepped (world_of st img)) (advances 1 b.work b)
  ends e = step-last past st img b (Consolidate p) nothing after is working (omega (arith, needed)) (consolidate-image e) (complete e)

  pub step-consolidate : Related past (stepped (world_of st img)) (advances 1 b.work b)
  step-consolidate =
      case_on (ltb m (copy_store_count t + 5))
      (λ e. goes_on (ltb-true m (copy_store_count t + 5) e))
      (λ e.
      let l : copy_store_count t + 5 ≤ m = ltb-false m (copy_store_count t + 5) e in
      ends (omega (arith, some_left)))
