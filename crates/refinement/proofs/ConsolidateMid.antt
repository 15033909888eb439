-- A store of a pending consolidation that is not its last. A line goes to the frame that has no committed copy of it, and no writer
-- holds a line of the page; the page word is not read while the page has a slot in the image, and where it has none there the store is of
-- the value that the word has; the record lies behind the live ones.
use Prim.Native.Nat.{ℕ, ◌+◌, ◌<◌, ◌≤◌}
use mathlib.Core.Bool.{true}
use mathlib.Core.List.{List}
use mathlib.Core.Logic.{◌⊎◌, ⊎_elim, inl, inr}
use mathlib.Core.Path.{◌≡◌, refl, sym, ap, ◌∙◌, subst}
use native.Mathlib.Omega.{arith}
use borrow.Author.Tests.{ltb-true}
use Rattle.bounded.proofs.Tests.{and_left, and_right, contradicts}
use Rattle.layout.specs.declared.Sizes.{Sizes}
use Rattle.layout.specs.Layout.{frames, page_word, record_word, line_word}
use Rattle.words.specs.Words.{word}
use Rattle.layout.proofs.LayoutLaws.{line-apart, place-lt}
use Rattle.journal.specs.declared.Slot.{Slot}
use Rattle.replay.specs.declared.Table.{Table}
use Rattle.journal.specs.Records.{position, live_count}
use Rattle.replay.specs.Table.{slot_in, slot_of}
use Rattle.replay.specs.Map.{page_frames}
use Rattle.mount.proofs.Dead.{Dead, dead-line, dead-new, dead-page}
use Rattle.journal.proofs.Ring.{pos-none}
use Rattle.mount.proofs.View.{View}
use Rattle.masks.specs.Lines.{in_mask}
use Rattle.masks.proofs.Members.{in-none}
use Rattle.masks.proofs.Counts.{count-lines-none}
use Rattle.state.specs.State.{State}
use Rattle.state.specs.declared.Op.TheVariants.{Consolidate}
use Rattle.state.specs.Held.{held_at}
use Rattle.operations.specs.Operations.{slot_for, slotted, copy_count}
use Rattle.validity.specs.Validity.{state_ok}
use Rattle.refinement.specs.Frames.{page_slot, other_frame}
use Rattle.refinement.specs.Consolidate.{copy_to, copy_store_count, consolidate_at, consolidate_value}
use Rattle.refinement.specs.Recall.{frame_of}
use Rattle.refinement.specs.Reference.{Reference}
use Rattle.refinement.proofs.Invariant.{TakenOnly, Durable, holds}
use Rattle.refinement.proofs.Copies.{copy_apart, others_apart, other-low}
use Rattle.refinement.proofs.PageSlots.{slotted-of}
use Rattle.refinement.proofs.ConsolidateStores.{line_of, copied-line, Part, line, page, freeing, value-page}
use Rattle.refinement.proofs.ConsolidateSlot.{Freed, at-line', at-page', at-freeing', in_image, words-differ, value-kept, value_low}
use Rattle.refinement.proofs.StoreKept.{store-fits}
use Rattle.refinement.proofs.Stepping.{Aside, Mid, aside-before}

-- a page with a held line is not the one whose slot is freed
pub held-other : (st : State) (p : ℕ) → Freed st p → (w q l : ℕ) → w < 4 → holds st w q l ≡ true → q ≡ p → ⊥
held-other st p F w q l low h e =
    let m : in_mask (held_at st.writers.held w (slot_for st q)) l ≡ true = and_right (slotted st q) (in_mask (held_at st.writers.held w (slot_for st q)) l) h in
    let n : held_at st.writers.held w (slot_for st q) ≡ 0 = ap (λ (x : ℕ). held_at st.writers.held w (slot_for st x)) e ∙ F.none-held w low in
    contradicts m (ap (λ (x : ℕ). in_mask x l) n ∙ in-none l)

module _ (past : List ℕ) (st : State) (img : List ℕ) (b : Reference) (valid : state_ok st ≡ true) (D : Durable past st img b) (p : ℕ) (F : Freed st p) where
  abbrev t : Slot
  t = page_slot st p

  abbrev harmless : ℕ → Type 0
  harmless i = (consolidate_value st img p i ≡ word img (consolidate_at st p i)) ⊎ Aside past st img b D (Consolidate p) (consolidate_at st p i)

  -- the frame that lines go to is one of the page's
  to_low : (m : ℕ) → other_frame t m ≡ copy_to t → copy_to t < frames st.sizes
  to_low m e = subst (λ (f : ℕ). f < frames st.sizes) e (other-low st img valid D p m F.page-low F.slot-low)

  -- a word of a copied line
  line-aside : (j k : ℕ) → j < copy_count t.bitmap → k < 8 → Aside past st img b D (Consolidate p) (line_word st.sizes (copy_to t) (line_of t j) + k)
  line-aside j k h l =
      let z : Sizes = st.sizes in
      let c = copied-line t j h in
      let m : ℕ = line_of t j in
      record {
        dead = subst (λ (y : Sizes). Dead D.view (line_word y (copy_to t) m + k)) D.sizes-same (dead-line D.view D.mounts.legal (copy_to t) m k (rw D.sizes-same (to_low m c.to)) c.low l);
        uncommitted =
            λ q n i lq ln li e.
            let w = line-apart z (frame_of (page_frames (word img)) z st.table q n) n i (copy_to t) m k ln c.low li l e in
            copy_apart st img valid D p m q F.page-low lq F.slot-low
            (c.to ∙ sym w.0 ∙ ap (frame_of (page_frames (word img)) z st.table q) w.1);
        unowned =
            λ v q n i lv lq ln li out g e.
            let w = line-apart z (other_frame (slot_in st.table (slot_for st q)) n) n i (copy_to t) m k ln c.low li l e in
            let s : slot_for st q < z.slots = ltb-true (slot_for st q) z.slots (and_left (slotted st q) (in_mask (held_at st.writers.held v (slot_for st q)) n) g) in
            others_apart st img valid D q n p m lq F.page-low s F.slot-low (held-other st p F v q n lv g) (w.0 ∙ sym c.to);
        off = λ p. inr (omega arith);
      }

  -- the page word
  page-harmless : (consolidate_value st img p (copy_store_count t) ≡ word img (page_word p)) ⊎ Aside past st img b D (Consolidate p) (page_word p)
  page-harmless =
      let z : Sizes = st.sizes in
      let d : Table = D.view.table in
      let s : ℕ = slot_for st p in
      ⊎_elim
      (λ (e : slot_in st.table s ≡ slot_in d s).
      let m : slot_of z d p < z.slots = slotted-of z d p s F.slot-low (sym (ap (λ (v : Slot). v.page) e) ∙ F.page-is) in
      inr (aside-before past st img b D (Consolidate p) (page_word p) (omega (arith, F.page-low)) (λ l. inl (omega (arith, F.page-low)))
      (dead-page D.view p (rw D.sizes-same F.page-low) (rw D.sizes-same m))))
      (λ (e : TakenOnly (page_frames (word img)) z d st.table s).
      let few : copy_to t ≡ t.original = rw (e.bitmap, count-lines-none) in
      inl (value-page st p img ∙ few ∙ e.original ∙ ap (λ (q : ℕ). word img (page_word q)) F.page-is))
      (D.behind.slot_same s F.slot-low)

  -- a word of the record
  record-aside : (k : ℕ) → k < 4 → Aside past st img b D (Consolidate p) (record_word st.sizes st.head + k)
  record-aside k l =
      let z : Sizes = st.sizes in
      let v : View = D.view in
      let q : position v.sizes v.head 0 ≡ st.head = pos-none v.sizes v.head D.mounts.positions.head-low ∙ D.head-same in
      let n : live_count v.sizes v.head v.tail + 0 < v.sizes.places = rw (D.sizes-same, D.head-same, D.tail-same) (omega (arith, F.room)) in
      let dead : Dead v (record_word v.sizes (position v.sizes v.head 0) + k) = dead-new v D.mounts.legal D.mounts.positions 0 k n l in
      aside-before past st img b D (Consolidate p) (record_word z st.head + k) (omega (arith, place-lt z F.ranges.legal st.head)) (λ p. absurd (omega (arith, p, F.alone)))
      (subst (λ (x : ℕ). Dead v (record_word z x + k)) q (subst (λ (y : Sizes). Dead v (record_word y (position v.sizes v.head 0) + k)) D.sizes-same dead))

  store-harmless : (i : ℕ) → Part t i → harmless i
  store-harmless i (line j k h l e) = inr (rw (at-line' st p i j k h l e) (line-aside j k h l))
  store-harmless i (page e) = rw (e, at-page' st p (copy_store_count t) refl) page-harmless
  store-harmless i (freeing k l e) = inr (rw (at-freeing' st p i k l e) (record-aside k l))

  pub consolidate-mid : (m : ℕ) → ((i : ℕ) → i ≤ m → Part t i) → Mid past st img b D (Consolidate p) m
  consolidate-mid m part =
      let q : Part t m = part m (omega arith) in
      let inside = in_image st p F m q in
      record {
        is_in_place = refl;
        inside = inside;
        low = value_low st p F img m D.bytes q;
        apart = λ j l e. let w : m ≡ j = words-differ st p F m j q (part j (omega arith)) e in omega arith;
        stable =
            λ j l.
            value-kept st p F img (consolidate_value st img p m) j m
            (store-fits past st img b D (consolidate_at st p m) (consolidate_value st img p m) inside) (part j l) q;
        harmless = store-harmless m q;
      }
