-- The slot that a consolidation frees: it owns the page, its two frames differ, no writer holds a line of it; and what that says of the
-- stores: they lie in the image, no two go to one word, none goes to a word that another one's value is read from, and each value fits a word.
use Prim.Native.Nat.{ℕ, ◌+◌, ◌*◌, ◌^◌, ◌<◌, ◌≤◌}
use mathlib.Core.Bool.{true}
use mathlib.Core.List.{List}
use mathlib.Core.Path.{◌≡◌, sym, ap, ◌∙◌}
use native.Mathlib.Omega.{arith}
use lib.ListN.{length}
use borrow.Author.Tests.{ltb-false}
use Rattle.bounded.proofs.Tests.{case_on}
use Rattle.layout.specs.Layout.{Legal, frames, page_word, record_word, line_word, image_length}
use Rattle.words.specs.Words.{store, Bytes}
use Rattle.layout.proofs.LayoutLaws.{place-lt, line-apart}
use Rattle.words.proofs.WordLaws.{word_lt, word-store-other}
use Rattle.journal.specs.declared.Slot.{Slot}
use Rattle.journal.specs.Records.{word_of_record}
use Rattle.replay.proofs.Tables.{Sixteen}
use Rattle.journal.proofs.SlotWords.{Owning, record-word-lt}
use Rattle.state.specs.State.{State}
use Rattle.state.specs.Held.{held_at}
use Rattle.operations.specs.Operations.{Ranged, live, slot_for, copy_count}
use Rattle.validity.specs.Validity.{state_ok}
use Rattle.validity.proofs.Ranged.{ranged}
use Rattle.operations.proofs.Taken.{ConsolidateTaken}
use Rattle.refinement.specs.Frames.{page_slot}
use Rattle.refinement.specs.Consolidate.{is_few, copy_to, copy_from, copy_store_count, freeing_record, consolidate_at, consolidate_value}
use Rattle.refinement.proofs.ConsolidateValid.{slot-low, slot-page, slot_owns, unheld}
use Rattle.refinement.proofs.StateValid.{parts, valid}
use Rattle.refinement.proofs.ConsolidateStores.{line_of, copied-line, copied-apart, Part, line, page, freeing, at-line, at-page, at-freeing, value_line, value-page, value-freeing}

module _ (st : State) (p : ℕ) where
  abbrev t : Slot
  t = page_slot st p

  pub record Freed : Type 0 where
    pub ranges : Ranged st
    pub page-low : p < st.sizes.pages
    pub slot-low : slot_for st p < st.sizes.slots
    pub page-is : (page_slot st p).page ≡ p
    pub to_low : copy_to (page_slot st p) < frames st.sizes
    pub from_low : copy_from (page_slot st p) < frames st.sizes
    pub apart : copy_to (page_slot st p) ≡ copy_from (page_slot st p) → ⊥
    pub none-held : (w : ℕ) → w < 4 → held_at st.writers.held w (slot_for st p) ≡ 0
    pub room : live st + 1 ≤ st.sizes.places
    pub alone : 4 ≤ st.writers.prepared

  pub freed : state_ok st ≡ true → Sixteen st.table → ConsolidateTaken st p → Freed
  freed ok full h =
      let o : Owning st.sizes t = slot_owns st p ok full h in
      let made : copy_to t < frames st.sizes → copy_from t < frames st.sizes → (copy_to t ≡ copy_from t → ⊥) → Freed =
      λ to from apart.
      record {
        ranges = ranged st (parts st ok).slots (valid st ok).next_low;
        page-low = h.page-low;
        slot-low = slot-low st p ok full h;
        page-is = slot-page st p ok full h;
        to_low = to;
        from_low = from;
        apart = apart;
        none-held = unheld st p ok full h;
        room = h.fits;
        alone = ltb-false st.writers.prepared 4 h.none-prepared;
      } in
      case_on (is_few t)
      (λ f. made (rw f o.original-low) (rw f o.spare_low) (rw f o.apart))
      (λ f. made (rw f o.spare_low) (rw f o.original-low) (rw f (λ q. o.apart (sym q))))

  -- ---- the stores before the one to head

  pub at-line' : (i j k : ℕ) → j < copy_count t.bitmap → k < 8 → i ≡ 8 * j + k → consolidate_at st p i ≡ line_word st.sizes (copy_to t) (line_of t j) + k
  at-line' i j k h l e = ap (consolidate_at st p) e ∙ at-line st p j k h l

  pub at-page' : (i : ℕ) → i ≡ copy_store_count t → consolidate_at st p i ≡ page_word p
  at-page' i e = ap (consolidate_at st p) e ∙ at-page st p

  pub at-freeing' : (i k : ℕ) → k < 4 → i ≡ copy_store_count t + 1 + k → consolidate_at st p i ≡ record_word st.sizes st.head + k
  at-freeing' i k l e = ap (consolidate_at st p) e ∙ at-freeing st p k l

  module _ (F : Freed) where
    pub in_image : (i : ℕ) → Part t i → 8 * consolidate_at st p i + 8 ≤ image_length st.sizes
    in_image i (line j k h l e) = omega (arith, at-line' i j k h l e, (copied-line t j h).low, F.to_low)
    in_image i (page e) = omega (arith, at-page' i e, F.page-low)
    in_image i (freeing k l e) = omega (arith, at-freeing' i k l e, place-lt st.sizes F.ranges.legal st.head)

    -- no two go to one word
    pub words-differ : (i n : ℕ) → Part t i → Part t n → consolidate_at st p i ≡ consolidate_at st p n → i ≡ n
    words-differ i n (line j k h l e) (line j' k' h' l' e') q =
        let c = copied-line t j h in
        let c' = copied-line t j' h' in
        let w = line-apart st.sizes (copy_to t) (line_of t j) k (copy_to t) (line_of t j') k' c.low c'.low l l' (sym (at-line' i j k h l e) ∙ q ∙ at-line' n j' k' h' l' e') in
        let x : j ≡ j' = copied-apart t j j' h h' w.1 in
        let y : k ≡ k' = w.2 in
        omega arith
    words-differ i n (line j k h l e) (page e') q = absurd (omega (arith, at-line' i j k h l e, at-page' n e', F.page-low))
    words-differ i n (line j k h l e) (freeing k' l' e') q = absurd (omega (arith, at-line' i j k h l e, at-freeing' n k' l' e', place-lt st.sizes F.ranges.legal st.head))
    words-differ i n (page e) (line j' k' h' l' e') q = absurd (omega (arith, at-page' i e, at-line' n j' k' h' l' e', F.page-low))
    words-differ i n (page e) (page e') q = e ∙ sym e'
    words-differ i n (page e) (freeing k' l' e') q = absurd (omega (arith, at-page' i e, at-freeing' n k' l' e', F.page-low))
    words-differ i n (freeing k l e) (line j' k' h' l' e') q = absurd (omega (arith, at-freeing' i k l e, at-line' n j' k' h' l' e', place-lt st.sizes F.ranges.legal st.head))
    words-differ i n (freeing k l e) (page e') q = absurd (omega (arith, at-freeing' i k l e, at-page' n e', F.page-low))
    words-differ i n (freeing k l e) (freeing k' l' e') q = omega (arith, at-freeing' i k l e, at-freeing' n k' l' e')

    -- none goes to a word that lines are copied from
    pub source-kept : (n j k : ℕ) → Part t n → j < copy_count t.bitmap → k < 8 → consolidate_at st p n ≡ line_word st.sizes (copy_from t) (line_of t j) + k → ⊥
    source-kept n j k (line j' k' h' l' e') h l q =
        let c = copied-line t j h in
        let c' = copied-line t j' h' in
        F.apart (line-apart st.sizes (copy_to t) (line_of t j') k' (copy_from t) (line_of t j) k c'.low c.low l' l (sym (at-line' n j' k' h' l' e') ∙ q)).0
    source-kept n j k (page e') h l q = omega (arith, at-page' n e', F.page-low)
    source-kept n j k (freeing k' l' e') h l q = omega (arith, at-freeing' n k' l' e', place-lt st.sizes F.ranges.legal st.head)

    pub value-kept : (img : List ℕ) (v i n : ℕ) → 8 * consolidate_at st p n + 8 ≤ length img → Part t i → Part t n
        → consolidate_value st (store img (consolidate_at st p n) v) p i ≡ consolidate_value st img p i
    value-kept img v i n fits (line j k h l e) q =
        let x : List ℕ = store img (consolidate_at st p n) v in
        ap (consolidate_value st x p) e
        ∙ value_line st p x j k h l
        ∙ word-store-other img (consolidate_at st p n) v (line_word st.sizes (copy_from t) (line_of t j) + k) fits (source-kept n j k q h l)
        ∙ sym (ap (consolidate_value st img p) e ∙ value_line st p img j k h l)
    value-kept img v i n fits (page e) q =
        let x : List ℕ = store img (consolidate_at st p n) v in
        ap (consolidate_value st x p) e ∙ value-page st p x ∙ sym (ap (consolidate_value st img p) e ∙ value-page st p img)
    value-kept img v i n fits (freeing k l e) q =
        let x : List ℕ = store img (consolidate_at st p n) v in
        ap (consolidate_value st x p) e ∙ value-freeing st p x k l ∙ sym (ap (consolidate_value st img p) e ∙ value-freeing st p img k l)

    freeing-lt : (k : ℕ) → word_of_record (freeing_record st p 0) k < 2 ^ 64
    unfolding freeing_record
    freeing-lt k =
        let g : Legal st.sizes = F.ranges.legal in
        record-word-lt (freeing_record st p 0) k (omega (arith, F.ranges.head-low, g.places-high)) (omega (arith, F.slot-low, g.slots-high))
        (record { page = omega arith; original = omega arith; spare = omega (arith, F.from_low, g.pages-high, g.slots-high) }) (omega arith)

    pub value_low : (img : List ℕ) (i : ℕ) → Bytes img → Part t i → consolidate_value st img p i < 2 ^ 64
    value_low img i b (line j k h l e) =
        rw (e, value_line st p img j k h l) (word_lt img (line_word st.sizes (copy_from t) (line_of t j) + k) b)
    value_low img i b (page e) =
        let g : Legal st.sizes = F.ranges.legal in
        rw (e, value-page st p img) (omega (arith, F.to_low, g.pages-high, g.slots-high))
    value_low img i b (freeing k l e) = rw (e, value-freeing st p img k l) (freeing-lt k)
