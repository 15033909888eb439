-- A write keeps the state valid: a page without a slot takes a free one, with its own frame for original, and the line
-- that becomes held is held by no other writer.
use Prim.Native.Nat.{ℕ, ◌+◌, ◌%◌, ◌<◌}
use mathlib.Core.Bool.{Bool, true, false, ◌&&◌, not}
use mathlib.Core.Logic.{⊎_elim}
use mathlib.Core.List.{List, ◌++◌}
use mathlib.Core.Path.{◌≡◌, refl, sym, ap, ◌∙◌, subst}
use native.Mathlib.Nat.{mod-lt}
use native.Mathlib.Omega.{arith}
use lib.Dec.{leb, eqb}
use lib.ListN.{length}
use borrow.Author.Tests.{eqb-true, eqb-false, ne_eqb, ltb-true, ltb-false, leb-false, le-leb, not-true}
use Rattle.bounded.specs.Count.{Once}
use Rattle.bounded.specs.Tab.{tab}
use Rattle.bounded.proofs.Tab.{tab-ext}
use Rattle.bounded.proofs.Below.{first_holds, first-before, none-at}
use Rattle.bounded.proofs.Tests.{case_on}
use Rattle.layout.specs.declared.Sizes.{Sizes}
use Rattle.layout.specs.Layout.{frames}
use Rattle.journal.specs.declared.Slot.{Slot}
use Rattle.replay.specs.declared.Table.{Table}
use Rattle.journal.specs.Slots.{no_page, shaped}
use Rattle.replay.specs.Table.{slot_in, with_slot}
use Rattle.journal.proofs.SlotWords.{Owning, Free, shape, owning-shaped}
use Rattle.replay.proofs.Tables.{Sixteen, slot_same, slot-other}
use Rattle.mount.proofs.View.{slot-none}
use Rattle.masks.specs.Lines.{in_mask, with_line}
use Rattle.masks.proofs.Members.{in-none}
use Rattle.state.specs.State.{State, own_frame}
use Rattle.state.specs.declared.Op.TheVariants.{Write}
use Rattle.state.specs.Slots.{free_at, round_slot, free_after}
use Rattle.state.specs.Held.{held_at, others_hold}
use Rattle.state.specs.Wide.{is_wide}
use Rattle.operations.specs.Operations.{slot_for, slotted}
use Rattle.validity.specs.Validity.{state_ok}
use Rattle.operations.proofs.Taken.{WriteTaken, write-taken}
use Rattle.refinement.specs.Stores.{completed}
use Rattle.refinement.specs.Write.{write_slot, write_table, write_next, write_writers}
use Rattle.refinement.proofs.NamesOnce.{spare-home}
use Rattle.refinement.proofs.Valid.{map-names, map-home, map-low}
use Rattle.refinement.proofs.ValidSlots.{SlotsFine}
use Rattle.refinement.proofs.ValidWriters.{HeldFine}
use Rattle.refinement.proofs.ValidLasts.{LastsFine, last_at}
use Rattle.refinement.proofs.StateValid.{narrow, valid, valid-ok}
use Rattle.refinement.proofs.Pending.{idle-ok, pends}
use Rattle.refinement.proofs.OneSlot.{slots-changed, held-changed}
use Rattle.refinement.proofs.LinePut.{held-writer, line-put}
use Rattle.refinement.proofs.Records.{slots_same}

-- where a write of line l by writer w goes: slot s of table t, with the next slot to try
pub record Target (st : State) (w l s next : ℕ) (t : Table) : Type 0 where
  pub slot-low : s < st.sizes.slots
  pub next_low : next < st.sizes.slots
  pub slots : SlotsFine st.sizes (own_frame st) (slot_in t)
  pub held : HeldFine st.sizes (slot_in t) st.writers.opened st.writers.held
  pub lasts : LastsFine st.sizes st.head st.tail (last_at t)
  pub owned : (slot_in t s).page ≡ no_page → ⊥
  pub line-free : (v : ℕ) → v < 4 → (v ≡ w → ⊥) → in_mask (held_at st.writers.held v s) l ≡ false

module _ (st : State) (w p l o n : ℕ) (e : state_ok st ≡ true) (full : Sixteen st.table) (h : WriteTaken st w p l o n) where
  abbrev z : Sizes
  z = st.sizes

  abbrev f : ℕ → Slot
  f = slot_in st.table

  -- ---- the page has a slot

  pub slot-own : slotted st p ≡ true → write_slot st p ≡ slot_for st p
  unfolding write_slot
  slot-own y = rw y

  own_line : slotted st p ≡ true → (v : ℕ) → v < 4 → (v ≡ w → ⊥) → in_mask (held_at st.writers.held v (slot_for st p)) l ≡ false
  unfolding others_hold
  own_line y v j d =
      let held = st.writers.held in
      let s = slot_for st p in
      let a : others_hold held w s l ≡ false = ap (λ (b : Bool). b && others_hold held w s l) (sym y) ∙ h.line-free in
      ap (λ (b : Bool). not b && in_mask (held_at held v s) l) (sym (ne_eqb v w d))
      ∙ none-at (λ v. not (eqb v w) && in_mask (held_at held v s) l) 4 v j a

  own-target : slotted st p ≡ true → Target st w l (slot_for st p) st.next st.table
  own-target y =
      let v = valid st e in
      let low : slot_for st p < z.slots = ltb-true (slot_for st p) z.slots y in
      let q : (f (slot_for st p)).page ≡ p = eqb-true (f (slot_for st p)).page p (first_holds (λ s. eqb (f s).page p) z.slots low) in
      record { slot-low = low; next_low = v.next_low; slots = v.slots; held = v.held; lasts = v.lasts; owned = λ x. omega arith; line-free = own_line y }

  -- ---- the page takes a slot

  module _ (y : slotted st p ≡ false) where
    pub slot-taken : write_slot st p ≡ round_slot z st.next (free_after z st.table.page st.next)
    unfolding write_slot
    slot-taken = rw y

    pub taken-low : write_slot st p < z.slots
    taken-low = let v = valid st e in rw slot-taken (mod-lt (st.next + free_after z st.table.page st.next) (omega arith))

    some-free : free_after z st.table.page st.next < z.slots
    some-free =
        leb-false z.slots (free_after z st.table.page st.next)
        (ap (λ (b : Bool). b && leb z.slots (free_after z st.table.page st.next)) (sym (le-leb z.slots (slot_for st p) (ltb-false (slot_for st p) z.slots y)))
        ∙ h.some-free)

    pub taken_free : (f (write_slot st p)).page ≡ no_page
    unfolding free_after
    taken_free =
        eqb-true (f (write_slot st p)).page no_page
        (rw slot-taken (first_holds (λ k. free_at st.table.page (round_slot z st.next k)) z.slots some-free))

    -- no slot has the page
    pub no_slot : (k : ℕ) → k < z.slots → (f k).page ≡ p → ⊥
    no_slot k m =
        eqb-false (f k).page p (first-before (λ s. eqb (f s).page p) z.slots k (omega (arith, slot-none z st.table p y)))

    -- the page's frame is below F and no slot's spare
    pub frame-low : own_frame st p < frames z
    frame-low = map-low st e p h.args.page-low

    pub frame-spare : (k : ℕ) → k < z.slots → own_frame st p ≡ (f k).spare → ⊥
    frame-spare k m q =
        spare-home (own_frame st) z st.table (map-names st e) k p m h.args.page-low (sym (map-home st e p h.args.page-low ∙ q))

    abbrev pub taken_slot : Slot
    taken_slot = record { page = p; original = own_frame st p; spare = (f (write_slot st p)).spare; bitmap = 0 }

    taken-shaped : shaped z taken_slot ≡ true
    taken-shaped =
        let v = valid st e in
        let s = write_slot st p in
        let low : (f s).spare < frames z =
        ⊎_elim (λ (x : Owning z (f s)). x.spare_low) (λ (x : Free z (f s)). x.spare_low) (shape z (f s) (v.slots.shapes s taken-low)) in
        owning-shaped z taken_slot
        (record { page-low = h.args.page-low; original-low = frame-low; spare_low = low; apart = frame-spare s taken-low })

    -- nobody holds lines of a free slot
    pub taken-unheld : (v : ℕ) → v < 4 → held_at st.writers.held v (write_slot st p) ≡ 0
    taken-unheld v j =
        case_on (eqb (held_at st.writers.held v (write_slot st p)) 0)
        (λ x. eqb-true (held_at st.writers.held v (write_slot st p)) 0 x)
        (λ x. absurd ((valid st e).held.owned (write_slot st p) v taken-low j (eqb-false (held_at st.writers.held v (write_slot st p)) 0 x) taken_free))

    taken-target : Target st w l (write_slot st p) ((write_slot st p + 1) % z.slots) (with_slot st.table (write_slot st p) taken_slot)
    taken-target =
        let v = valid st e in
        let s = write_slot st p in
        let t = with_slot st.table s taken_slot in
        let low : s < 16 = omega (arith, taken-low) in
        let same : slot_in t s ≡ taken_slot = slot_same st.table s taken_slot full low in
        let others = slot-other st.table s taken_slot in
        let page : p ≡ no_page → ⊥ = λ x. omega (arith, h.args.page-low) in
        let spare-kept : (k : ℕ) → (slot_in t k).spare ≡ (f k).spare =
        λ k.
        case_on (eqb k s)
        (λ c. ap (λ (i : ℕ). (slot_in t i).spare) (eqb-true k s c) ∙ ap (λ (x : Slot). x.spare) same ∙ ap (λ (i : ℕ). (f i).spare) (sym (eqb-true k s c)))
        (λ c. ap (λ (x : Slot). x.spare) (others k (eqb-false k s c))) in
        record {
          slot-low = taken-low;
          next_low = mod-lt (s + 1) (omega arith);
          slots =
              slots-changed z f (slot_in t) s taken_slot same others (own_frame st) (own_frame st) v.slots taken-shaped (λ k m d n q. no_slot k m (sym q))
              (subst (λ (l : List ℕ). Once (frames z) (l ++ tab z.pages (own_frame st))) (tab-ext z.slots (λ k. (f k).spare) (λ k. (slot_in t k).spare) (λ k m. sym (spare-kept k))) v.slots.named)
              (λ n. refl) (λ k m d n. refl);
          held = held-changed z f (slot_in t) s taken_slot same others st.writers.opened st.writers.held v.held (λ u j x. page);
          lasts = v.lasts;
          owned = λ x. page (sym (ap (λ (u : Slot). u.page) same) ∙ x);
          line-free = λ u j x. ap (λ (m : ℕ). in_mask m l) (taken-unheld u j) ∙ in-none l;
        }

  pub target : Target st w l (write_slot st p) (write_next st p) (write_table st p)
  target =
      case_on (slotted st p)
      (λ y. rw (slot-own y, y) (own-target y))
      (λ y. rw y (taken-target y))

  pub written-valid : is_wide st.wide w ≡ false → length st.writers.held ≡ 64 → state_ok (completed st (Write w p l o n)) ≡ true
  written-valid other lines =
      let v = valid st e in
      let g = target in
      valid-ok (completed st (Write w p l o n))
      (record {
        legal = v.legal;
        positions = v.positions;
        slots = g.slots;
        held = line-put z v.legal (slot_in (write_table st p)) st.writers.opened st.writers.held w (write_slot st p) l lines h.args.writer-low g.slot-low g.held h.opened g.owned g.line-free;
        next_low = g.next_low;
        lasts = g.lasts;
        prepared =
            λ k.
            let b : ℕ = st.writers.prepared in
            let same =
            slots_same z st.writers.held (write_writers st w p l).held b
            (λ s i. held-writer st.writers.held w (write_slot st p) (with_line (held_at st.writers.held w (write_slot st p)) l) lines h.args.writer-low (omega (arith, g.slot-low, v.legal.slots-high)) b s (omega (arith, i, v.legal.slots-high)) h.unprepared) in
            record { opens = (v.prepared k).opens; fits = rw same (v.prepared k).fits };
        entries = v.entries;
        wide = λ j. absurd (narrow st w v h.args.writer-low h.opened other j);
        pending = idle-ok (completed st (Write w p l o n)) refl;
      })

pub write-valid : (st : State) (w p l o n : ℕ) → state_ok st ≡ true → Sixteen st.table → length st.writers.held ≡ 64 → st.pending.op ≡ Write w p l o n → state_ok (completed st (Write w p l o n)) ≡ true
write-valid st w p l o n e full lines q =
    written-valid st w p l o n e full (write-taken st w p l o n (pends st (Write w p l o n) e q refl).taken) (not-true _ (pends st (Write w p l o n) e q refl).fits) lines
