-- A commit keeps the state valid: only bitmaps of owning slots change, the new records' positions are live, and the
-- closed writer holds nothing.
use Prim.Native.Nat.{ℕ, ◌<◌}
use mathlib.Core.Bool.{Bool, true, not, false}
use mathlib.Core.List.{List, ◌++◌}
use mathlib.Core.Logic.{⊎_elim}
use mathlib.Core.Path.{◌≡◌, refl, sym, ap, ◌∙◌, subst}
use native.Mathlib.Omega.{arith}
use lib.Dec.{eqb}
use lib.ListN.{length, get_or}
use borrow.Author.Tests.{eqb-true, eqb-false, not-true, lt-ltb}
use Rattle.bounded.specs.Count.{Once}
use Rattle.bounded.specs.Rows.{refusal}
use Rattle.bounded.specs.Tab.{tab}
use Rattle.bounded.proofs.Tab.{tab-ext}
use Rattle.bounded.proofs.Those.{chosen, length-those}
use Rattle.bounded.proofs.Tests.{case_on, contradicts}
use Rattle.layout.specs.declared.Sizes.{Sizes}
use Rattle.layout.specs.Layout.{frames}
use Rattle.journal.specs.declared.Slot.{Slot}
use Rattle.journal.specs.Slots.{shaped}
use Rattle.replay.specs.Table.{slot_in}
use Rattle.journal.proofs.Ring.{positions-more}
use Rattle.journal.proofs.SlotWords.{Owning, Free, shape, owning-shaped}
use Rattle.replay.proofs.Tables.{Sixteen}
use Rattle.replay.proofs.Latest.{Latest, latest, replay-latest, replay-kept}
use Rattle.state.specs.State.{State, own_frame}
use Rattle.state.specs.declared.Op.TheVariants.{Commit, Prepare}
use Rattle.state.specs.Held.{held_at, held_slots}
use Rattle.state.specs.Wide.{some_wide, is_wide}
use Rattle.operations.specs.Operations.{commit_rows}
use Rattle.validity.specs.Validity.{state_ok}
use Rattle.operations.proofs.Taken.{CommitTaken, ConfirmTaken, commit-taken}
use Rattle.refinement.specs.Stores.{completed}
use Rattle.refinement.specs.Commit.{commit_slots, committed_slot, commit_record, commit_table, commit_record_of}
use Rattle.refinement.proofs.ValidWriters.{HeldFine}
use Rattle.refinement.proofs.StateValid.{narrow, valid, valid-ok}
use Rattle.refinement.proofs.Pending.{idle-ok}
use Rattle.refinement.proofs.Appended.{lasts-more}
use Rattle.refinement.proofs.Closed.{closed-fine}

-- ---- slots that name what they named

pub record SameNames (a b : Slot) : Type 0 where
  pub page : b.page ≡ a.page
  pub original : b.original ≡ a.original
  pub spare : b.spare ≡ a.spare

pub owning-renamed : (z : Sizes) (a b : Slot) → SameNames a b → Owning z a → Owning z b
owning-renamed z a b p o =
    record { page-low = rw p.page o.page-low; original-low = rw p.original o.original-low; spare_low = rw p.spare o.spare_low; apart = λ e. o.apart (sym p.original ∙ e ∙ p.spare) }

-- ---- the records of a commit

module _ (st : State) (w : ℕ) where
  -- record j is that of a slot below S of which the writer holds lines
  pub record CommitSlot (j s : ℕ) : Type 0 where
    pub slot-low : s < st.sizes.slots
    pub holds : held_at st.writers.held w s ≡ 0 → ⊥
    pub slot : (commit_record st w j).slot ≡ s
    pub now : (commit_record st w j).now ≡ committed_slot st.table st.writers.held w s

  pub commit-slot : (j : ℕ) → j < length (commit_slots st w) → CommitSlot j (commit_record st w j).slot
  unfolding commit_record_of held_slots
  commit-slot j l =
      let held = st.writers.held in
      let test : ℕ → Bool = λ s. not (eqb (held_at held w s) 0) in
      let c = chosen test st.sizes.slots j 0 (omega (arith, l, length-those test st.sizes.slots)) in
      let s = get_or (commit_slots st w) j 0 in
      record { slot-low = c.below; holds = eqb-false (held_at held w s) 0 (not-true (eqb (held_at held w s) 0) c.passes); slot = refl; now = refl }

  module _ (e : state_ok st ≡ true) (full : Sixteen st.table) where
    owner : (s : ℕ) → s < st.sizes.slots → w < 4 → (held_at st.writers.held w s ≡ 0 → ⊥) → Owning st.sizes (slot_in st.table s)
    owner s l m n =
        let v = valid st e in
        ⊎_elim (λ o. o)
        (λ (x : Free st.sizes (slot_in st.table s)). absurd (v.held.owned s w l m n x.page-none))
        (shape st.sizes (slot_in st.table s) (v.slots.shapes s l))

    -- slot s after a commit: the names are kept and it has a shape
    pub record After (s : ℕ) : Type 0 where
      pub names : SameNames (slot_in st.table s) (slot_in (commit_table st w) s)
      pub shape : shaped st.sizes (slot_in (commit_table st w) s) ≡ true

    pub after : w < 4 → (s : ℕ) → s < st.sizes.slots → After s
    after m s l =
        let v = valid st e in
        let z = st.sizes in
        let n = length (commit_slots st w) in
        let old = slot_in st.table s in
        let new = slot_in (commit_table st w) s in
        ⊎_elim
        (λ (x : (i : ℕ) × Latest n (commit_record st w) s i).
        let c = commit-slot x.0 x.1.live in
        let q : (commit_record st w x.0).slot ≡ s = x.1.slot in
        let b : new ≡ committed_slot st.table st.writers.held w s =
        (replay-latest z st.head (commit_record st w) st.table full s n x.0 (omega arith) x.1).slot ∙ c.now ∙ ap (committed_slot st.table st.writers.held w) q in
        let a : SameNames old new =
        record { page = ap (λ (u : Slot). u.page) b; original = ap (λ (u : Slot). u.original) b; spare = ap (λ (u : Slot). u.spare) b } in
        record {
          names = a;
          shape = owning-shaped z new (owning-renamed z old new a (owner s l m (subst (λ (k : ℕ). held_at st.writers.held w k ≡ 0 → ⊥) q c.holds)));
        })
        (λ f.
        let b : new ≡ old = (replay-kept z st.head (commit_record st w) st.table full s n f).slot in
        record {
          names = record { page = ap (λ (u : Slot). u.page) b; original = ap (λ (u : Slot). u.original) b; spare = ap (λ (u : Slot). u.spare) b };
          shape = ap (shaped z) b ∙ v.slots.shapes s l;
        })
        (latest n (commit_record st w) s)

    pub committed-valid : CommitTaken st w → is_wide st.wide w ≡ false → state_ok (completed st (Commit w)) ≡ true
    committed-valid h other =
        let v = valid st e in
        let z = st.sizes in
        let n = length (commit_slots st w) in
        let t = commit_table st w in
        let old = slot_in st.table in
        let new = slot_in t in
        let a = after h.writer-low in
        let kept : HeldFine z new st.writers.opened st.writers.held =
        record { opens = v.held.opens; owned = λ s u l m d x. v.held.owned s u l m d (sym (a s l).names.page ∙ x); apart = v.held.apart } in
        valid-ok (completed st (Commit w))
        (record {
          legal = v.legal;
          positions = positions-more z v.legal st.head st.tail v.positions n h.fits;
          slots =
              record {
                shapes = λ s l. (a s l).shape;
                pages = λ s k l m d n q. v.slots.pages s k l m d (λ x. n ((a s l).names.page ∙ x)) (sym (a s l).names.page ∙ q ∙ (a k m).names.page);
                named =
                    subst (λ (y : List ℕ). Once (frames z) (y ++ tab z.pages (own_frame st)))
                    (tab-ext z.slots (λ s. (old s).spare) (λ s. (new s).spare) (λ s l. sym (a s l).names.spare)) v.slots.named;
                kept = λ s l n. ap (own_frame st) (a s l).names.page ∙ v.slots.kept s l (λ x. n ((a s l).names.page ∙ x)) ∙ sym (a s l).names.original;
              };
          held = closed-fine z v.legal st.writers w new kept;
          next_low = v.next_low;
          lasts = lasts-more z v.legal st.head st.tail v.positions n h.fits (commit_record st w) st.table full v.lasts;
          prepared = λ l. absurd (omega arith);
          entries = v.entries;
          wide = λ l. absurd (narrow st w v h.writer-low h.opened other l);
          pending = idle-ok (completed st (Commit w)) refl;
        })

-- a prepare leaves a writer prepared that may be
pub prepare-valid : (st : State) (w : ℕ) → state_ok st ≡ true → CommitTaken st w → some_wide st.wide.writer ≡ false → state_ok (completed st (Prepare w)) ≡ true
prepare-valid st w e h none =
    let v = valid st e in
    valid-ok (completed st (Prepare w))
    (record {
      legal = v.legal;
      positions = v.positions;
      slots = v.slots;
      held = v.held;
      next_low = v.next_low;
      lasts = v.lasts;
      prepared = λ l. record { opens = h.opened; fits = h.fits };
      entries = v.entries;
      wide = λ l. contradicts (lt-ltb st.wide.writer 4 l) none;
      pending = idle-ok (completed st (Prepare w)) refl;
    })

-- and a prepared writer's commit is one that may be
pub confirm-can : (st : State) (w : ℕ) → state_ok st ≡ true → ConfirmTaken st w → CommitTaken st w
confirm-can st w e h =
    subst (CommitTaken st) h.prepared
    (let l : st.writers.prepared < 4 = omega (arith, h.prepared, h.writer-low) in
    let p = (valid st e).prepared l in
    record { writer-low = l; opened = p.opens; fits = p.fits })

-- the wide writer is not prepared
pub confirm-narrow : (st : State) (w : ℕ) → state_ok st ≡ true → ConfirmTaken st w → is_wide st.wide w ≡ false
confirm-narrow st w e h =
    case_on (is_wide st.wide w)
    (λ t.
    let q : st.wide.writer ≡ w = eqb-true st.wide.writer w t in
    absurd (((valid st e).wide (omega (arith, q, h.writer-low))).unprepared (h.prepared ∙ sym q)))
    (λ t. t)

pub commit-valid : (st : State) (w : ℕ) → state_ok st ≡ true → Sixteen st.table → is_wide st.wide w ≡ false → refusal (commit_rows st w) ≡ 0 → state_ok (completed st (Commit w)) ≡ true
commit-valid st w e full other r = committed-valid st w e full (commit-taken st w r) other
