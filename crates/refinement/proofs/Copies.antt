-- The copies of lines that the image keeps. The state's slots name the same frames as those that a mount finds, so the committed
-- copies and the writers' own lie in frames of their own.
use Prim.Native.Nat.{ℕ, ◌<◌, ◌≤◌}
use mathlib.Core.Bool.{true}
use mathlib.Core.List.{List, ◌++◌}
use mathlib.Core.Logic.{⊎_elim}
use mathlib.Core.Path.{◌≡◌, sym, ap, ap₂, ◌∙◌, subst}
use native.Mathlib.Omega.{arith}
use lib.Dec.{ltb}
use lib.ListN.{length, get_or}
use borrow.Author.Tests.{ltb-true, lt-ltb, le-ltb}
use Rattle.bounded.specs.Count.{Once}
use Rattle.bounded.proofs.Tab.{tab-ext}
use Rattle.bounded.proofs.Tests.{case_on}
use Rattle.layout.specs.declared.Sizes.{Sizes}
use Rattle.layout.specs.Layout.{Legal, frames, image_length}
use Rattle.words.specs.Words.{word}
use Rattle.journal.specs.declared.Slot.{Slot}
use Rattle.replay.specs.declared.Table.{Table}
use Rattle.journal.specs.Slots.{no_page}
use Rattle.replay.specs.Table.{slot_in, slot_of, home_of, frame_names, pages_apart}
use Rattle.replay.specs.Map.{page_frames}
use Rattle.mount.proofs.View.{slot-none}
use Rattle.masks.proofs.Members.{in-none}
use Rattle.state.specs.State.{State, own_frame}
use Rattle.operations.specs.Operations.{slot_for}
use Rattle.validity.specs.Validity.{state_ok}
use Rattle.refinement.specs.Frames.{committed_frame, other_frame}
use Rattle.refinement.specs.Recall.{frame_of}
use Rattle.refinement.proofs.CallMounted.{view-names}
use Rattle.refinement.specs.Reference.{Reference}
use Rattle.refinement.proofs.Invariant.{TakenOnly, Behind, Durable}
use Rattle.refinement.proofs.Valid.{good, legal-sizes}
use Rattle.refinement.proofs.NamesOnce.{spare_low}
use Rattle.refinement.proofs.OwnFrames.{frame_is}
use Rattle.refinement.proofs.PageSlots.{slot-page, slot_is, slotted-of}
use Rattle.refinement.proofs.Names.{Owned, owned-low, owned-apart, spare-unowned, committed-owned, other-owned, copies_apart}
use Rattle.mount.proofs.Verdict.{map_in, entry-shown}

-- ---- the state's table t and the one d that a mount finds name the same frames

-- page p has the same slot in both; or t's slot was only taken; or it has none
pub data Kept (r : ℕ → ℕ) (z : Sizes) (d t : Table) (p : ℕ) : Type 0 where
  same : slot_of z t p < z.slots → slot_of z d p ≡ slot_of z t p → slot_in t (slot_of z t p) ≡ slot_in d (slot_of z t p) → Kept r z d t p
  took : slot_of z t p < z.slots → slot_of z d p ≡ z.slots → (slot_in t (slot_of z t p)).page ≡ p → TakenOnly r z d t (slot_of z t p) → Kept r z d t p
  bare : slot_of z t p ≡ z.slots → slot_of z d p ≡ z.slots → Kept r z d t p

module _ (r : ℕ → ℕ) (z : Sizes) (d t : Table) (legal : Legal z) (d-apart : pages_apart z d.page ≡ true) (t-apart : pages_apart z t.page ≡ true) (behind : Behind r z d t) where
  pub page-kept : (p : ℕ) → p < z.pages → Kept r z d t p
  page-kept p h =
      let s : ℕ = slot_of z t p in
      let k : ℕ = slot_of z d p in
      case_on (ltb s z.slots)
      (λ b.
      let l : s < z.slots = ltb-true s z.slots b in
      let q : (slot_in t s).page ≡ p = slot-page z t p l in
      ⊎_elim
      (λ e. same l (slot_is z d legal d-apart p s h l (sym (ap (λ (v : Slot). v.page) e) ∙ q)) e)
      (λ e. took l (ap (slot_of z d) (sym q) ∙ e.unslotted) q e)
      (behind.slot_same s l))
      (λ b.
      let n : s ≡ z.slots = slot-none z t p b in
      case_on (ltb k z.slots)
      (λ c.
      let l : k < z.slots = ltb-true k z.slots c in
      let q : (slot_in d k).page ≡ p = slot-page z d p l in
      absurd
      (⊎_elim
      (λ e. omega (arith, slotted-of z t p k l (ap (λ (v : Slot). v.page) e ∙ q)))
      (λ e.
      let f : (slot_in d k).page ≡ no_page = ap (λ (v : Slot). v.page) e.was_free in
      omega (arith, legal.pages-high))
      (behind.slot_same k l)))
      (λ c. bare n (slot-none z d p c)))

  -- a slot that was only taken keeps its spare
  pub spare-kept : (s : ℕ) → s < z.slots → (slot_in t s).spare ≡ (slot_in d s).spare
  spare-kept s l = ⊎_elim (λ e. ap (λ (v : Slot). v.spare) e) (λ e. sym (ap (λ (v : Slot). v.spare) e.was_free)) (behind.slot_same s l)

  -- and its page's home stays the page's own frame
  kept-home : (p : ℕ) → Kept r z d t p → home_of r z t p ≡ home_of r z d p
  kept-home p (same l m e) = rw (m, lt-ltb (slot_of z t p) z.slots l) (ap (λ (v : Slot). v.original) e)
  kept-home p (took l m q e) =
      rw (lt-ltb (slot_of z t p) z.slots l, m, le-ltb z.slots z.slots (omega arith)) (e.original ∙ ap r q)
  kept-home p (bare n m) = rw (n, m, le-ltb z.slots z.slots (omega arith))

  -- as does the frame of a committed copy
  kept_frame : (p l : ℕ) → Kept r z d t p → frame_of r z t p l ≡ frame_of r z d p l
  kept_frame p l (same k m e) = rw (m, lt-ltb (slot_of z t p) z.slots k) (ap (λ (v : Slot). committed_frame v l) e)
  kept_frame p l (took k m q e) =
      rw (lt-ltb (slot_of z t p) z.slots k, m, le-ltb z.slots z.slots (omega arith), e.bitmap, in-none l) (e.original ∙ ap r q)
  kept_frame p l (bare n m) = rw (n, m, le-ltb z.slots z.slots (omega arith))

  pub frame-kept : (p l : ℕ) → p < z.pages → frame_of r z t p l ≡ frame_of r z d p l
  frame-kept p l h = kept_frame p l (page-kept p h)

  pub home-kept : (p : ℕ) → p < z.pages → home_of r z t p ≡ home_of r z d p
  home-kept p h = kept-home p (page-kept p h)

  pub table-names : frame_names r z t ≡ frame_names r z d
  unfolding frame_names
  table-names =
      ap₂ (λ (a b : List ℕ). a ++ b)
      (tab-ext z.slots (λ s. (slot_in t s).spare) (λ s. (slot_in d s).spare) spare-kept)
      (tab-ext z.pages (home_of r z t) (home_of r z d) (λ p l. kept-home p (page-kept p l)))

-- ---- of an image that mounts

module _ (past : List ℕ) (st : State) (img : List ℕ) (b : Reference) (D : Durable past st img b) where
  pub durable-legal : Legal st.sizes
  durable-legal = subst Legal D.sizes-same D.mounts.legal

  pub durable-fits : image_length st.sizes ≤ length img
  durable-fits = subst (λ (z : Sizes). image_length z ≤ length img) D.sizes-same D.mounts.fits

-- ---- of a valid state and its image

module _ {past : List ℕ} (st : State) (img : List ℕ) {b : Reference} (valid : state_ok st ≡ true) (D : Durable past st img b) where
  -- what a mount finds, under the state's sizes
  pub mount-apart : pages_apart st.sizes D.view.table.page ≡ true
  mount-apart = subst (λ (y : Sizes). pages_apart y D.view.table.page ≡ true) D.sizes-same D.mounts.apart

  pub mount-once : Once (frames st.sizes) (frame_names (page_frames (word img)) st.sizes D.view.table)
  mount-once =
      subst (λ (y : Sizes). Once (frames y) (frame_names (page_frames (word img)) y D.view.table)) D.sizes-same
      (subst (Once (frames D.view.sizes)) (view-names img D.view D.shows) D.mounts.names)

  pub names_same : frame_names (page_frames (word img)) st.sizes st.table ≡ frame_names (page_frames (word img)) st.sizes D.view.table
  names_same = table-names (page_frames (word img)) st.sizes D.view.table st.table (legal-sizes st valid) mount-apart (good st valid).pages D.behind

  pub names-once : Once (frames st.sizes) (frame_names (page_frames (word img)) st.sizes st.table)
  names-once = subst (Once (frames st.sizes)) (sym names_same) mount-once

  -- by the state's map the committed copies lie where they lie by the page table
  pub own-frame : (p l : ℕ) → p < st.sizes.pages → frame_of (own_frame st) st.sizes st.table p l ≡ frame_of (page_frames (word img)) st.sizes st.table p l
  own-frame = frame_is (own_frame st) (page_frames (word img)) st.sizes st.table D.own

  -- the map that a mount finds is the state's
  pub map_found : (p : ℕ) → p < st.sizes.pages → get_or (map_in D.view) p 0 ≡ own_frame st p
  map_found p l =
      entry-shown img D.view D.shows p (rw D.sizes-same l)
      ∙ ap (λ (y : Sizes). home_of (page_frames (word img)) y D.view.table p) D.sizes-same
      ∙ sym (D.own p l ∙ home-kept (page_frames (word img)) st.sizes D.view.table st.table (legal-sizes st valid) mount-apart (good st valid).pages D.behind p l)

  -- ---- the frames that a page owns

  abbrev owns : ℕ → ℕ → Type 0
  owns = Owned (page_frames (word img)) st.sizes st.table

  committed-in : (p l : ℕ) → owns p (frame_of (page_frames (word img)) st.sizes st.table p l)
  committed-in = committed-owned (page_frames (word img)) st.sizes st.table (legal-sizes st valid) names-once

  other-in : (p l : ℕ) → slot_for st p < st.sizes.slots → owns p (other_frame (slot_in st.table (slot_for st p)) l)
  other-in = other-owned (page_frames (word img)) st.sizes st.table (legal-sizes st valid) names-once

  same-owner : (p q x y : ℕ) → p < st.sizes.pages → q < st.sizes.pages → owns p x → owns q y → x ≡ y → p ≡ q
  same-owner = owned-apart (page_frames (word img)) st.sizes st.table (legal-sizes st valid) names-once

  free-unowned : (s p x : ℕ) → s < st.sizes.slots → p < st.sizes.pages → (slot_in st.table s).page ≡ no_page → owns p x → (slot_in st.table s).spare ≡ x → ⊥
  free-unowned = spare-unowned (page_frames (word img)) st.sizes st.table (legal-sizes st valid) names-once

  in-range : (p x : ℕ) → p < st.sizes.pages → owns p x → x < frames st.sizes
  in-range = owned-low (page_frames (word img)) st.sizes st.table (legal-sizes st valid) names-once

  -- ---- in range

  pub other-low : (p l : ℕ) → p < st.sizes.pages → slot_for st p < st.sizes.slots → other_frame (slot_in st.table (slot_for st p)) l < frames st.sizes
  other-low p l h m = in-range p _ h (other-in p l m)

  pub committed-low : (p l : ℕ) → p < st.sizes.pages → frame_of (page_frames (word img)) st.sizes st.table p l < frames st.sizes
  committed-low p l h = in-range p _ h (committed-in p l)

  pub slot-spare-low : (s : ℕ) → s < st.sizes.slots → (slot_in st.table s).spare < frames st.sizes
  slot-spare-low = spare_low (page_frames (word img)) st.sizes st.table names-once

  -- ---- apart: the frames of line l of page p and line m of page q

  pub others_apart : (p l q m : ℕ) → p < st.sizes.pages → q < st.sizes.pages → slot_for st p < st.sizes.slots → slot_for st q < st.sizes.slots → (p ≡ q → ⊥)
      → other_frame (slot_in st.table (slot_for st p)) l ≡ other_frame (slot_in st.table (slot_for st q)) m → ⊥
  others_apart p l q m h k s u n e = n (same-owner p q _ _ h k (other-in p l s) (other-in q m u) e)

  -- two committed copies in one frame are of one page
  pub committed-apart : (p l q m : ℕ) → p < st.sizes.pages → q < st.sizes.pages
      → frame_of (page_frames (word img)) st.sizes st.table p l ≡ frame_of (page_frames (word img)) st.sizes st.table q m → p ≡ q
  committed-apart p l q m h k e = same-owner p q _ _ h k (committed-in p l) (committed-in q m) e

  -- the two copies of one line, of one page or of two
  pub copy_apart : (p l q : ℕ) → p < st.sizes.pages → q < st.sizes.pages → slot_for st p < st.sizes.slots
      → other_frame (slot_in st.table (slot_for st p)) l ≡ frame_of (page_frames (word img)) st.sizes st.table q l → ⊥
  copy_apart p l q h k s e =
      let w : p ≡ q = same-owner p q _ _ h k (other-in p l s) (committed-in q l) e in
      copies_apart (page_frames (word img)) st.sizes st.table (legal-sizes st valid) names-once p l h s
      (subst (λ (x : ℕ). other_frame (slot_in st.table (slot_for st p)) l ≡ frame_of (page_frames (word img)) st.sizes st.table x l) (sym w) e)

  -- a free slot's spare
  pub free-apart : (s q m : ℕ) → s < st.sizes.slots → (slot_in st.table s).page ≡ no_page → q < st.sizes.pages
      → (slot_in st.table s).spare ≡ frame_of (page_frames (word img)) st.sizes st.table q m → ⊥
  free-apart s q m l f k e = free-unowned s q _ l k f (committed-in q m) e

  pub free-other-apart : (s q m : ℕ) → s < st.sizes.slots → (slot_in st.table s).page ≡ no_page → q < st.sizes.pages → slot_for st q < st.sizes.slots
      → (slot_in st.table s).spare ≡ other_frame (slot_in st.table (slot_for st q)) m → ⊥
  free-other-apart s q m l f k u e = free-unowned s q _ l k f (other-in q m u) e
