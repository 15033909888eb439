-- Where the copies of lines are after a commit: the two copies of each line that the writer held change roles, and no other does.
use Prim.Native.Nat.{ℕ, ◌<◌}
use mathlib.Core.Bool.{Bool, true, false, not, ◌&&◌}
use mathlib.Core.Logic.{⊎_elim}
use mathlib.Core.Path.{◌≡◌, sym, ap, ◌∙◌, subst}
use native.Mathlib.Omega.{arith}
use lib.Dec.{ltb, eqb}
use lib.ListN.{length}
use borrow.Author.Tests.{ltb-true, lt-ltb, eqb-true}
use Rattle.bounded.specs.Below.{count_below}
use Rattle.bounded.proofs.Below.{count-before}
use Rattle.bounded.proofs.Tests.{case_on, and_left, and_right}
use Rattle.bounded.proofs.Those.{length-those, those-at}
use Rattle.layout.specs.declared.Sizes.{Sizes}
use Rattle.layout.specs.Layout.{Legal}
use Rattle.journal.specs.declared.Slot.{Slot}
use Rattle.replay.specs.declared.Table.{Table}
use Rattle.replay.specs.Table.{slot_in}
use Rattle.replay.proofs.Latest.{Latest, NoRecord, latest, replay-latest, replay-kept}
use Rattle.replay.proofs.Tables.{Sixteen}
use Rattle.mount.proofs.View.{slot-none}
use Rattle.masks.specs.Lines.{in_mask, exclusive_or}
use Rattle.masks.proofs.Disjoint.{disjoint-at}
use Rattle.masks.proofs.Members.{in-none, flipped, kept}
use Rattle.state.specs.State.{State}
use Rattle.state.specs.Held.{held_at, held_slots}
use Rattle.operations.specs.Operations.{slot_for, slotted}
use Rattle.validity.specs.Validity.{state_ok}
use Rattle.operations.proofs.Taken.{CommitTaken}
use Rattle.refinement.specs.Commit.{commit_slots, committed_slot, commit_record, commit_table, commit_record_of}
use Rattle.refinement.specs.Frames.{committed_frame, other_frame}
use Rattle.refinement.specs.Stores.{completed}
use Rattle.refinement.proofs.Closed.{closed-holds, others-hold}
use Rattle.refinement.proofs.CommitValid.{SameNames, commit-slot, after}
use Rattle.refinement.proofs.StateValid.{valid}
use Rattle.state.specs.declared.Op.TheVariants.{Commit}
use Rattle.refinement.specs.Recall.{frame_of}
use Rattle.refinement.proofs.Invariant.{holds}
use Rattle.refinement.proofs.CommitNames.{same-slot}
use Rattle.refinement.proofs.WriteTable.{frame-slotted, frame-unslotted}

-- ---- the two copies of a line in slots with the same frames

module _ (u v : Slot) (l : ℕ) (names : SameNames u v) where
  -- the line's bit has flipped
  pub committed-flipped : in_mask v.bitmap l ≡ not (in_mask u.bitmap l) → committed_frame v l ≡ other_frame u l
  committed-flipped h =
      case_on (in_mask u.bitmap l)
      (λ e. rw (h, e) names.original)
      (λ e. rw (h, e) names.spare)

  -- or not
  module _ (h : in_mask v.bitmap l ≡ in_mask u.bitmap l) where
    pub committed-same : committed_frame v l ≡ committed_frame u l
    committed-same = case_on (in_mask u.bitmap l) (λ e. rw (h, e) names.spare) (λ e. rw (h, e) names.original)

    pub other-same : other_frame v l ≡ other_frame u l
    other-same = case_on (in_mask u.bitmap l) (λ e. rw (h, e) names.original) (λ e. rw (h, e) names.spare)

-- ---- after a commit

module _ (st : State) (w : ℕ) (ok : state_ok st ≡ true) (full : Sixteen st.table) (T : CommitTaken st w) where
  abbrev z : Sizes
  z = st.sizes

  abbrev t : Table
  t = st.table

  abbrev held : ℕ → ℕ
  held = held_at st.writers.held w

  abbrev done : State
  done = completed st (Commit w)

  g : Legal z
  g = (valid st ok).legal

  pub names-kept : (s : ℕ) → s < z.slots → SameNames (slot_in t s) (slot_in (commit_table st w) s)
  names-kept s l = (after st w ok full T.writer-low s l).names

  -- a slot without a record is one that the writer holds nothing of
  none-held : (s : ℕ) → s < z.slots → NoRecord (length (commit_slots st w)) (commit_record st w) s → held s ≡ 0
  unfolding commit_record_of held_slots
  none-held s l none =
      let f : ℕ → Bool = λ s. not (eqb (held s) 0) in
      case_on (eqb (held s) 0)
      (λ e. eqb-true (held s) 0 e)
      (λ e.
      let c = count-before f z.slots s l (ap not e) in
      absurd (none (count_below s f) (omega (arith, c, length-those f z.slots)) (those-at f z.slots s 0 l (ap not e))))

  -- bit l of a slot is flipped where the writer held line l
  bit-after : (s l : ℕ) → s < z.slots → in_mask (slot_in (commit_table st w) s).bitmap l ≡ in_mask (exclusive_or (slot_in t s).bitmap (held s)) l
  bit-after s l low =
      let n : ℕ = length (commit_slots st w) in
      ⊎_elim
      (λ (x : (i : ℕ) × Latest n (commit_record st w) s i).
      ap (λ (v : Slot). in_mask v.bitmap l)
      ((replay-latest z st.head (commit_record st w) t full s n x.0 (omega (arith, low, g.slots-high)) x.1).slot
      ∙ (commit-slot st w x.0 x.1.live).now
      ∙ ap (committed_slot st.table st.writers.held w) x.1.slot))
      (λ y.
      ap (λ (v : Slot). in_mask v.bitmap l) (replay-kept z st.head (commit_record st w) t full s n y).slot
      ∙ sym (kept (slot_in t s).bitmap (held s) l (ap (λ (m : ℕ). in_mask m l) (none-held s low y) ∙ in-none l)))
      (latest n (commit_record st w) s)

  pub slot-after : (p : ℕ) → slot_for done p ≡ slot_for st p
  slot-after p = same-slot (λ a. 0) z t (commit_table st w) names-kept p

  -- the committed copy of a line that the writer held is its own, any other is where it was
  module _ (r : ℕ → ℕ) (p l : ℕ) where
    pub frame-held : holds st w p l ≡ true → frame_of r z (commit_table st w) p l ≡ other_frame (slot_in t (slot_for st p)) l
    frame-held h =
        let s : ℕ = slot_for st p in
        let low : s < z.slots = ltb-true s z.slots (and_left (slotted st p) (in_mask (held s) l) h) in
        frame-slotted r z (commit_table st w) p l (subst (λ (k : ℕ). k < z.slots) (sym (slot-after p)) low)
        ∙ ap (λ (k : ℕ). committed_frame (slot_in (commit_table st w) k) l) (slot-after p)
        ∙ committed-flipped (slot_in t s) (slot_in (commit_table st w) s) l (names-kept s low)
        (bit-after s l low ∙ flipped (slot_in t s).bitmap (held s) l (and_right (slotted st p) (in_mask (held s) l) h))

    not-held : slot_for st p < z.slots → holds st w p l ≡ false → in_mask (slot_in (commit_table st w) (slot_for st p)).bitmap l ≡ in_mask (slot_in t (slot_for st p)).bitmap l
    not-held low h =
        let s : ℕ = slot_for st p in
        bit-after s l low ∙ kept (slot_in t s).bitmap (held s) l (rw (lt-ltb s z.slots low) at h)

    pub frame-other : holds st w p l ≡ false → frame_of r z (commit_table st w) p l ≡ frame_of r z t p l
    frame-other h =
        let s : ℕ = slot_for st p in
        case_on (ltb s z.slots)
        (λ e.
        let low : s < z.slots = ltb-true s z.slots e in
        frame-slotted r z (commit_table st w) p l (subst (λ (k : ℕ). k < z.slots) (sym (slot-after p)) low)
        ∙ ap (λ (k : ℕ). committed_frame (slot_in (commit_table st w) k) l) (slot-after p)
        ∙ committed-same (slot_in t s) (slot_in (commit_table st w) s) l (names-kept s low) (not-held low h)
        ∙ sym (frame-slotted r z t p l low))
        (λ e.
        let n : s ≡ z.slots = slot-none z t p e in
        frame-unslotted r z (commit_table st w) p l (slot-after p ∙ n) ∙ sym (frame-unslotted r z t p l n))

    -- another writer's own copy stays its own
    pub other_after : slot_for st p < z.slots → holds st w p l ≡ false → other_frame (slot_in (commit_table st w) (slot_for done p)) l ≡ other_frame (slot_in t (slot_for st p)) l
    other_after low h =
        ap (λ (k : ℕ). other_frame (slot_in (commit_table st w) k) l) (slot-after p)
        ∙ other-same (slot_in t (slot_for st p)) (slot_in (commit_table st w) (slot_for st p)) l (names-kept (slot_for st p) low) (not-held low h)

  -- ---- who holds what

  pub closed_none : (p l : ℕ) → holds done w p l ≡ false
  closed_none p l =
      let s : ℕ = slot_for done p in
      let mask : ℕ = held_at done.writers.held w s in
      case_on (ltb s z.slots)
      (λ e. ap (λ (c : Bool). c && in_mask mask l) e ∙ ap (λ (m : ℕ). in_mask m l) (closed-holds z g st.writers w s (ltb-true s z.slots e)) ∙ in-none l)
      (λ e. ap (λ (c : Bool). c && in_mask mask l) e)

  pub others_keep : (v p l : ℕ) → (v ≡ w → ⊥) → holds done v p l ≡ holds st v p l
  others_keep v p l ne =
      let s : ℕ = slot_for st p in
      let mask : ℕ → ℕ = held_at done.writers.held v in
      ap (λ (k : ℕ). ltb k z.slots && in_mask (mask k) l) (slot-after p)
      ∙ case_on (ltb s z.slots)
      (λ e. ap (λ (m : ℕ). ltb s z.slots && in_mask m l) (others-hold z g st.writers w v s (ltb-true s z.slots e) ne))
      (λ e. ap (λ (c : Bool). c && in_mask (mask s) l) e ∙ sym (ap (λ (c : Bool). c && in_mask (held_at st.writers.held v s) l) e))

  -- no two hold one line
  pub not-both : (v p l : ℕ) → v < 4 → (v ≡ w → ⊥) → holds st v p l ≡ true → holds st w p l ≡ false
  not-both v p l lv ne h =
      let s : ℕ = slot_for st p in
      let mask : ℕ = held_at st.writers.held v s in
      let c : slotted st p ≡ true = and_left (slotted st p) (in_mask mask l) h in
      ap (λ (x : Bool). x && in_mask (held s) l) c
      ∙ disjoint-at mask (held s) ((valid st ok).held.apart s v w (ltb-true s z.slots c) lv T.writer-low ne) l (and_right (slotted st p) (in_mask mask l) h)
