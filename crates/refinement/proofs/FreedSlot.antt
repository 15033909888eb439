-- The call that frees a slot keeps its promise: the slot chosen is the one that there is to choose, and the call is its consolidation.
use Prim.Native.Nat.{ℕ, ◌<◌, ◌≤◌}
use mathlib.Core.Bool.{Bool, true, false, not}
use mathlib.Core.List.{List, [], ◌∷◌}
use mathlib.Core.Logic.{inl, inr}
use mathlib.Core.Path.{◌≡◌, refl, sym, ap, ◌∙◌}
use native.Mathlib.Omega.{arith}
use native.Mathlib.Nat.{le_antisymm}
use lib.Dec.{leb, ltb}
use lib.ListN.{length, get_or, replicate}
use borrow.Author.Tests.{leb-true, leb-false, lt-leb, ltb-true, ltb-false}
use Rattle.bounded.specs.Rows.{refusal}
use Rattle.bounded.proofs.Rows.{none-apply, row_at}
use Rattle.bounded.proofs.Tests.{case_on, contradicts}
use Rattle.layout.specs.Layout.{image_length}
use Rattle.state.specs.State.{State}
use Rattle.state.specs.declared.Op.TheVariants.{Consolidate}
use Rattle.state.specs.Held.{some_prepared}
use Rattle.operations.specs.Operations.{is_idle, journal_full}
use Rattle.validity.specs.Validity.{state_ok}
use Rattle.refinement.specs.Freeing.{freed_slot, freed_page, Freeable, Chosen}
use Rattle.refinement.specs.Freed.{FreesSlot}
use Rattle.refinement.specs.Outcome.{Outcome}
use Rattle.refinement.specs.Run.{Call, consolidate, free, result, exec, after}
use Rattle.refinement.specs.Calls.{quiet_rows, world_of, asked, consolidate_call_rows, free_call_rows, consolidate_of, free_of}
use Rattle.refinement.proofs.Choice.{finds, freeable, freeable_may, page-fits, has-slot, none-held}

module _ (st : State) where
  abbrev slots : ℕ
  slots = st.sizes.slots

  -- the slot chosen, where there is one
  chosen : freed_slot st < slots → Chosen st (freed_slot st)
  chosen l =
      record {
        freeable = freeable st (freed_slot st) l ((finds st).passes l);
        fewest = λ k h. (finds st).least l k h.low (freeable_may st k h);
        lowest = λ k m h. (finds st).lowest l k m (freeable_may st k h);
      }

  -- and where there is none
  no_slot : slots ≤ freed_slot st → (s : ℕ) → Freeable st s → ⊥
  no_slot l s h = contradicts (freeable_may st s h) ((finds st).none (le_antisymm (finds st).le l) s h.low)

  -- there is one choice
  one_choice : (s : ℕ) → Chosen st s → (freed_slot st < slots) × (freed_slot st ≡ s)
  one_choice s c =
      case_on (leb slots (freed_slot st))
      (λ t. absurd (no_slot (leb-true slots (freed_slot st) t) s c.freeable))
      (λ t.
      let l : freed_slot st < slots = leb-false slots (freed_slot st) t in
      let d = chosen l in
      let up : freed_slot st ≤ s =
      case_on (ltb s (freed_slot st))
      (λ b. absurd (omega (arith, d.lowest s (ltb-true s (freed_slot st) b) c.freeable, c.fewest (freed_slot st) d.freeable)))
      (λ b. ltb-false s (freed_slot st) b) in
      let down : s ≤ freed_slot st =
      case_on (ltb (freed_slot st) s)
      (λ b. absurd (omega (arith, c.lowest (freed_slot st) (ltb-true (freed_slot st) s b) d.freeable, d.fewest s c.freeable)))
      (λ b. ltb-false (freed_slot st) s b) in (l, le_antisymm up down))

  module _ (img : List ℕ) where
    -- the rows of the call are then those of the consolidation
    same_rows : freed_slot st < slots → refusal (free_call_rows st img) ≡ refusal (consolidate_call_rows st img (freed_page st))
    same_rows l =
        case_on (state_ok st)
        (λ t. rw (lt-leb slots (freed_slot st) l, page-fits st t l, has-slot st t l, none-held st t l))
        (λ t. rw t)

    same : freed_slot st < slots → free_of st img ≡ consolidate_of st img (freed_page st)
    unfolding free_of consolidate_of
    same l = ap (λ (row : ℕ). asked row st (Consolidate (freed_page st)) (replicate 8 0)) (same_rows l)

    as-chosen : (s : ℕ) → Chosen st s → free_of st img ≡ consolidate_of st img (get_or st.table.page s 0)
    as-chosen s c =
        let o = one_choice s c in
        same o.0 ∙ ap (λ (k : ℕ). consolidate_of st img (get_or st.table.page k 0)) o.1

    later : (s : ℕ) → Chosen st s → (calls : List Call) → after (free ∷ calls) (world_of st img) ≡ after (consolidate (get_or st.table.page s 0) ∷ calls) (world_of st img)
    unfolding after exec
    later s c calls = ap (λ (o : Outcome). after calls (result o img).world) (as-chosen s c)

-- the fifth of six rows is the first that applies
fifth : (a b c f d e : Bool) → refusal ((a, 8) ∷ (b, 4) ∷ (c, 9) ∷ (f, 23) ∷ (d, 22) ∷ (e, 19) ∷ []) ≡ 22 → (refusal ((a, 8) ∷ (b, 4) ∷ (c, 9) ∷ []) ≡ 0) × (f ≡ false) × (d ≡ true)
fifth true b c f d e h = absurd (omega arith)
fifth false true c f d e h = absurd (omega arith)
fifth false false true f d e h = absurd (omega arith)
fifth false false false true d e h = absurd (omega arith)
fifth false false false false true e h = (refl, refl, refl)
fifth false false false false false true h = absurd (omega arith)
fifth false false false false false false h = absurd (omega arith)

module _ (st : State) (img : List ℕ) where
  is-22 : (free_of st img).number ≡ 22 → (refusal (quiet_rows st (length img)) ≡ 0) × (some_prepared st.writers.prepared ≡ false) × ((s : ℕ) → Freeable st s → ⊥)
  unfolding free_of
  is-22 e =
      let h = fifth (not (state_ok st)) (ltb (length img) (image_length st.sizes)) (not (is_idle st.pending.op)) (some_prepared st.writers.prepared) (leb (slots st) (freed_slot st)) (journal_full st 1) e in
      (h.0, h.1, no_slot st (leb-true (slots st) (freed_slot st) h.2))

  as-22 : (refusal (quiet_rows st (length img)) ≡ 0) × (some_prepared st.writers.prepared ≡ false) × ((s : ℕ) → Freeable st s → ⊥) → (free_of st img).number ≡ 22
  unfolding free_of
  as-22 h =
      let q = none-apply (quiet_rows st (length img)) (omega arith) h.0 in
      let l : leb (slots st) (freed_slot st) ≡ true =
      case_on (leb (slots st) (freed_slot st))
      (λ t. t)
      (λ t. absurd (h.2 (freed_slot st) (chosen st (leb-false (slots st) (freed_slot st) t)).freeable)) in
      sym (row_at (free_call_rows st img) 4 (omega arith) (q.0, (q.1.0, (q.1.1.0, (h.1, tt)))) l)

pub frees-slot : FreesSlot
frees-slot st img =
    record {
      choice =
          case_on (leb (slots st) (freed_slot st))
          (λ t. inr (no_slot st (leb-true (slots st) (freed_slot st) t)))
          (λ t. inl (freed_slot st, chosen st (leb-false (slots st) (freed_slot st) t)));
      as-consolidate = as-chosen st img;
      later = later st img;
      none = (is-22 st img, as-22 st img);
    }
