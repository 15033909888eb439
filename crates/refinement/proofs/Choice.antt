-- The slot to free: its page has no other slot, so the rows of its consolidation are those that are left.
use Prim.Native.Nat.{ℕ, ◌<◌}
use mathlib.Core.Bool.{Bool, true, false, not}
use mathlib.Core.List.{List}
use mathlib.Core.Logic.{⊎_elim}
use mathlib.Core.Path.{◌≡◌, refl, sym, ap, ◌∙◌}
use native.Mathlib.Omega.{arith}
use lib.Dec.{eqb, leb, ltb}
use lib.ListN.{get_or}
use borrow.Author.Tests.{eqb-true, eq-eqb, leb-false, lt-leb, lt-ltb, not-true, not-false}
use Rattle.bounded.specs.Rows.{refusal}
use Rattle.bounded.proofs.Below.{none-at, none_made}
use Rattle.bounded.proofs.Least.{Least, least-finds}
use Rattle.bounded.proofs.Rows.{none-apply, row-none}
use Rattle.bounded.proofs.Tests.{and_left, and_right, contradicts}
use Rattle.journal.specs.Slots.{no_page}
use Rattle.journal.proofs.SlotWords.{Owning, Free, shape}
use Rattle.replay.specs.Table.{slot_in}
use Rattle.state.specs.State.{State, own_frame}
use Rattle.state.specs.Slots.{free_at}
use Rattle.state.specs.Held.{held_at, some_hold}
use Rattle.operations.specs.Operations.{slot_for, consolidate_rows}
use Rattle.validity.specs.Validity.{state_ok}
use Rattle.validity.proofs.Ranged.{slots-good}
use Rattle.refinement.specs.Freeing.{may_free, lines_to_copy, slot_to_free, freed_slot, freed_page, Freeable}
use Rattle.refinement.specs.Calls.{free_call_rows}
use Rattle.refinement.proofs.StateValid.{valid, parts}
use Rattle.refinement.proofs.PageSlots.{slot_is}

module _ (st : State) where
  abbrev may : ℕ → Bool
  may s = may_free st.table.page st.writers.held s

  abbrev lines : ℕ → ℕ
  lines s = lines_to_copy st.table.bitmap s

  pub finds : Least may lines st.sizes.slots (freed_slot st)
  unfolding slot_to_free
  finds = least-finds may lines st.sizes.slots

  -- the test and the facts
  pub freeable : (s : ℕ) → s < st.sizes.slots → may s ≡ true → Freeable st s
  unfolding some_hold
  freeable s l e =
      let a = free_at st.table.page s in
      let b = some_hold st.writers.held s in
      record {
        low = l;
        taken = not-true a (and_left (not a) (not b) e);
        unheld =
            λ w m.
            eqb-true (held_at st.writers.held w s) 0
            (not-false (eqb (held_at st.writers.held w s) 0) (none-at (λ v. not (eqb (held_at st.writers.held v s) 0)) 4 w m (not-true b (and_right (not a) (not b) e))));
      }

  pub freeable_may : (s : ℕ) → Freeable st s → may s ≡ true
  unfolding some_hold
  freeable_may s h = rw (h.taken, none_made (λ v. not (eqb (held_at st.writers.held v s) 0)) 4 (λ w m. ap not (eq-eqb (held_at st.writers.held w s) 0 (h.unheld w m))))

  -- ---- in a valid state

  module _ (ok : state_ok st ≡ true) (l : freed_slot st < st.sizes.slots) where
    -- the slot chosen owns its page
    owns : Owning st.sizes (slot_in st.table (freed_slot st))
    owns =
        let a = free_at st.table.page (freed_slot st) in
        let b = some_hold st.writers.held (freed_slot st) in
        let t : a ≡ false = not-true a (and_left (not a) (not b) (finds.passes l)) in
        ⊎_elim
        (λ (o : Owning st.sizes (slot_in st.table (freed_slot st))). o)
        (λ (f : Free st.sizes (slot_in st.table (freed_slot st))). contradicts (eq-eqb (get_or st.table.page (freed_slot st) 0) no_page f.page-none) t)
        (shape st.sizes (slot_in st.table (freed_slot st)) ((valid st ok).slots.shapes (freed_slot st) l))

    -- and is the slot of that page
    pub own-slot : slot_for st (freed_page st) ≡ freed_slot st
    own-slot =
        slot_is st.sizes st.table (valid st ok).legal (slots-good st.sizes st.head st.tail st.table (own_frame st) (parts st ok).slots).pages (freed_page st) (freed_slot st) owns.page-low l refl

    -- rows 11, 17 and 18 of its consolidation
    pub page-fits : leb st.sizes.pages (freed_page st) ≡ false
    page-fits = lt-leb st.sizes.pages (freed_page st) owns.page-low

    pub has-slot : not (ltb (slot_for st (freed_page st)) st.sizes.slots) ≡ false
    has-slot = ap not (lt-ltb (slot_for st (freed_page st)) st.sizes.slots (rw own-slot l))

    pub none-held : some_hold st.writers.held (slot_for st (freed_page st)) ≡ false
    none-held =
        let a = free_at st.table.page (freed_slot st) in
        let b = some_hold st.writers.held (freed_slot st) in
        ap (some_hold st.writers.held) own-slot ∙ not-true b (and_right (not a) (not b) (finds.passes l))

-- where no row of the call applies, none of the consolidation's does
pub free-rows : (st : State) (img : List ℕ) → refusal (free_call_rows st img) ≡ 0 → refusal (consolidate_rows st (freed_page st)) ≡ 0
free-rows st img e =
    let h = none-apply (free_call_rows st img) (omega arith) e in
    let ok : state_ok st ≡ true = not-false (state_ok st) h.0 in
    let l : freed_slot st < st.sizes.slots = leb-false st.sizes.slots (freed_slot st) h.1.1.1.1.0 in
    sym (row-none (consolidate_rows st (freed_page st)) (page-fits st ok l, (h.1.1.1.0, (has-slot st ok l, (none-held st ok l, (h.1.1.1.1.1.0, tt))))))
