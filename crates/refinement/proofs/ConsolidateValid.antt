-- A consolidation keeps the state valid: the slot that nobody holds lines of becomes free, with one of its two frames
-- for spare and the other for its page's entry in the map, and the record that frees it is live.
use Prim.Native.Nat.{ℕ, ◌<◌}
use mathlib.Core.Bool.{true, not}
use mathlib.Core.Logic.{◌⊎◌, inl, inr, ⊎_elim}
use mathlib.Core.Path.{◌≡◌, refl, sym, ◌∙◌, subst}
use native.Mathlib.Omega.{arith}
use lib.Dec.{eqb}
use lib.ListN.{length}
use lib.Seq.{get_or-set_same, get_or-set_other}
use borrow.Author.Tests.{eqb-true, eqb-false, not-false, ltb-true, ltb-false}
use Rattle.bounded.specs.Rows.{refusal}
use Rattle.bounded.proofs.Below.{first_holds, none-at}
use Rattle.bounded.specs.Count.{Once}
use Rattle.bounded.proofs.Tests.{case_on, row_keeps}
use Rattle.layout.specs.declared.Sizes.{Sizes}
use Rattle.layout.specs.Layout.{frames}
use Rattle.journal.specs.declared.Slot.{Slot}
use Rattle.journal.specs.Slots.{no_page, free_slot, shaped}
use Rattle.replay.specs.Table.{slot_in, home_of, frame_names}
use Rattle.replay.proofs.Maps.{home_same, names_same}
use Rattle.journal.proofs.Ring.{positions-more}
use Rattle.journal.proofs.SlotWords.{Owning, Free, shape, free-shaped}
use Rattle.replay.proofs.Tables.{Sixteen}
use Rattle.replay.proofs.Latest.{replay-latest, replay-kept}
use Rattle.state.specs.State.{State, own_frame}
use Rattle.state.specs.declared.Op.TheVariants.{Consolidate}
use Rattle.state.specs.Held.{held_at, some_hold}
use Rattle.operations.specs.Operations.{slot_for, consolidate_rows}
use Rattle.validity.specs.Validity.{state_ok}
use Rattle.operations.proofs.Taken.{ConsolidateTaken, consolidate-taken}
use Rattle.refinement.specs.Stores.{completed}
use Rattle.refinement.specs.Frames.{page_slot}
use Rattle.refinement.specs.Consolidate.{is_few, copy_to, copy_from, freeing_record, consolidate_table}
use Rattle.refinement.proofs.FreeNames.{Frees, freed-once}
use Rattle.refinement.proofs.PageSlots.{slot_is}
use Rattle.refinement.proofs.Valid.{good, legal-sizes, map-names}
use Rattle.refinement.proofs.ValidSlots.{SlotsFine, kept-made, names-once}
use Rattle.refinement.proofs.StateValid.{valid, valid-ok}
use Rattle.refinement.proofs.Pending.{idle-ok}
use Rattle.refinement.proofs.OneSlot.{by-slot, slots-changed, held-changed}
use Rattle.refinement.proofs.Appended.{lasts-more}

module _ (st : State) (p : ℕ) (e : state_ok st ≡ true) (full : Sixteen st.table) (h : ConsolidateTaken st p) where
  abbrev z : Sizes
  z = st.sizes

  abbrev f : ℕ → Slot
  f = slot_in st.table

  abbrev s : ℕ
  s = slot_for st p

  abbrev freed : Slot
  freed = free_slot (copy_from (page_slot st p))

  pub slot-low : s < z.slots
  slot-low = ltb-true s z.slots h.has-slot

  pub slot-page : (f s).page ≡ p
  slot-page = eqb-true (f s).page p (first_holds (λ s. eqb (f s).page p) z.slots slot-low)

  pub slot_owns : Owning z (f s)
  slot_owns =
      let v = valid st e in
      ⊎_elim (λ o. o)
      (λ (x : Free z (f s)). absurd (omega (arith, slot-page, h.page-low)))
      (shape z (f s) (v.slots.shapes s slot-low))

  -- the table after it
  pub freed-same : slot_in (consolidate_table st p) s ≡ freed
  unfolding freeing_record
  freed-same =
      let v = valid st e in
      (replay-latest z st.head (freeing_record st p) st.table full s 1 0 (omega (arith, slot-low))
      (record { live = omega arith; slot = refl; later = λ j l m q. omega arith })).slot

  pub freed-other : (k : ℕ) → (k ≡ s → ⊥) → slot_in (consolidate_table st p) k ≡ f k
  unfolding freeing_record
  freed-other k n = (replay-kept z st.head (freeing_record st p) st.table full k 1 (λ i l q. n (sym q))).slot

  freed-shaped : shaped z freed ≡ true
  freed-shaped =
      let o = slot_owns in
      free-shaped z freed
      (record { page-none = refl; original-none = refl; bitmap-none = refl; spare_low = row_keeps (λ (x : ℕ). x < frames z) (is_few (f s)) (f s).spare (f s).original o.spare_low o.original-low })

  pub unheld : (w : ℕ) → w < 4 → held_at st.writers.held w s ≡ 0
  unfolding some_hold
  unheld w l =
      eqb-true (held_at st.writers.held w s) 0
      (not-false (eqb (held_at st.writers.held w s) 0) (none-at (λ v. not (eqb (held_at st.writers.held v s) 0)) 4 w l h.none-held))

  module _ (long : length st.map ≡ 1024) where
    -- the page's own frame after it, and any other's
    abbrev own : ℕ → ℕ
    own = own_frame (completed st (Consolidate p))

    pub own-changed : own p ≡ copy_to (f s)
    own-changed = get_or-set_same st.map p (copy_to (f s)) 0 (omega (arith, long, h.page-low, (legal-sizes st e).pages-high))

    pub own-other : (q : ℕ) → (q ≡ p → ⊥) → own q ≡ own_frame st q
    own-other q n = get_or-set_other st.map p q (copy_to (f s)) 0 n

    -- no other slot has the page
    only : (k : ℕ) → k < z.slots → (f k).page ≡ p → k ≡ s
    only k l q = sym (slot_is z st.table (legal-sizes st e) (good st e).pages p k h.page-low l q)

    abbrev frees : Frees z st.head (freeing_record st p) st.table s p (copy_from (f s))
    unfolding freeing_record
    frees =
        record { is-slot = refl; is_free = refl; legal = legal-sizes st e; sixteen = full; slot-low = slot-low; page-low = h.page-low; only = only; no_other = inl slot-page }

    home-before : home_of own z st.table p ≡ (f s).original
    home-before = rw h.has-slot

    once-before : Once (frames z) (frame_names own z st.table)
    once-before =
        subst (Once (frames z))
        (names_same (own_frame st) own z st.table
        (λ q l.
        case_on (eqb q p)
        (λ c. rw (eqb-true q p c, h.has-slot))
        (λ c. home_same (own_frame st) own z st.table q (sym (own-other q (eqb-false q p c))))))
        (map-names st e)

    -- the two frames stay in their roles, or change them
    roles : ((copy_from (f s) ≡ (f s).spare) × (own p ≡ home_of own z st.table p)) ⊎ ((copy_from (f s) ≡ home_of own z st.table p) × (own p ≡ (f s).spare))
    roles =
        case_on (is_few (f s))
        (λ c. let a : copy_to (f s) ≡ (f s).original = rw c in let b : copy_from (f s) ≡ (f s).spare = rw c in inl (b, own-changed ∙ a ∙ sym home-before))
        (λ c. let a : copy_to (f s) ≡ (f s).spare = rw c in let b : copy_from (f s) ≡ (f s).original = rw c in inr (b ∙ sym home-before, own-changed ∙ a))

    freed-kept : (k : ℕ) → k < z.slots → (k ≡ s → ⊥) → ((f k).page ≡ no_page → ⊥) → own (f k).page ≡ own_frame st (f k).page
    freed-kept k l d n = own-other (f k).page (λ q. d (only k l q))

    freed-fine : SlotsFine z own (slot_in (consolidate_table st p))
    freed-fine =
        let g = slot_in (consolidate_table st p) in
        let v = valid st e in
        let kept : (k : ℕ) → k < z.slots → ((g k).page ≡ no_page → ⊥) → own (g k).page ≡ (g k).original =
        λ k l.
        by-slot z f g s freed freed-same freed-other (λ (x : Slot). (x.page ≡ no_page → ⊥) → own x.page ≡ x.original) k (λ n. absurd (n refl))
        (λ d n. freed-kept k l d n ∙ v.slots.kept k l n) in
        slots-changed z f g s freed freed-same freed-other (own_frame st) own v.slots freed-shaped (λ k m d n. absurd (n refl))
        (names-once z own (consolidate_table st p) v.legal (kept-made z own (consolidate_table st p) kept) (freed-once frees own once-before roles))
        (λ n. absurd (n refl)) freed-kept

    pub consolidated-valid : state_ok (completed st (Consolidate p)) ≡ true
    consolidated-valid =
        let v = valid st e in
        let g = slot_in (consolidate_table st p) in
        valid-ok (completed st (Consolidate p))
        (record {
          legal = v.legal;
          positions = positions-more z v.legal st.head st.tail v.positions 1 h.fits;
          slots = freed-fine;
          held = held-changed z f g s freed freed-same freed-other st.writers.opened st.writers.held v.held (λ w l n q. n (unheld w l));
          next_low = v.next_low;
          lasts = lasts-more z v.legal st.head st.tail v.positions 1 h.fits (freeing_record st p) st.table full v.lasts;
          prepared = λ l. absurd (omega (arith, l, ltb-false st.writers.prepared 4 h.none-prepared));
          entries = v.entries;
          wide = v.wide;
          pending = idle-ok (completed st (Consolidate p)) refl;
        })

pub consolidate-valid : (st : State) (p : ℕ) → state_ok st ≡ true → Sixteen st.table → length st.map ≡ 1024 → refusal (consolidate_rows st p) ≡ 0 → state_ok (completed st (Consolidate p)) ≡ true
consolidate-valid st p e full long r = consolidated-valid st p e full (consolidate-taken st p r) long
