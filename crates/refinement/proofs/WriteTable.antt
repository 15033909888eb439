-- The slot that a write goes to: the page's own, or a free one that the page takes. No committed copy of a line moves by it.
use Prim.Native.Nat.{ℕ, ◌+◌, ◌<◌}
use mathlib.Core.Bool.{true, false, cond}
use mathlib.Core.Logic.{◌⊎◌, inl, inr, ⊎_elim}
use mathlib.Core.Path.{◌≡◌, refl, sym, ap, ◌∙◌, subst}
use native.Mathlib.Omega.{arith}
use native.Mathlib.Nat.{mod-lt}
use lib.Dec.{ltb, leb, eqb}
use lib.ListN.{get_or}
use borrow.Author.Tests.{ltb-true, lt-ltb, le-ltb, leb-false, le-leb, eqb-true, eqb-false}
use Rattle.bounded.proofs.Below.{all-at, first_holds}
use Rattle.bounded.proofs.Tests.{case_on}
use Rattle.layout.specs.declared.Sizes.{Sizes}
use Rattle.layout.specs.Layout.{Legal}
use Rattle.journal.specs.declared.Slot.{Slot}
use Rattle.replay.specs.declared.Table.{Table}
use Rattle.journal.specs.Slots.{no_page, free_slot, shaped}
use Rattle.replay.specs.Table.{slot_in, with_slot, last_in, slot_of, home_of, pages_apart}
use Rattle.journal.proofs.SlotWords.{Owning, shape, free-is}
use Rattle.replay.proofs.Tables.{Sixteen, sixteen-slot, slot_same, slot-other}
use Rattle.mount.proofs.View.{slot-none}
use Rattle.masks.proofs.Members.{in-none}
use Rattle.state.specs.State.{State, own_frame}
use Rattle.state.specs.Slots.{free_at, round_slot, free_after}
use Rattle.operations.specs.Operations.{slot_for, slotted, none_free}
use Rattle.validity.specs.Validity.{state_ok}
use Rattle.refinement.specs.Frames.{committed_frame, other_frame}
use Rattle.refinement.specs.Write.{write_slot, write_table}
use Rattle.refinement.specs.Recall.{frame_of}
use Rattle.refinement.proofs.Invariant.{TakenOnly, Behind}
use Rattle.refinement.proofs.PageSlots.{slot-page, slotted-of, unslotted-of, slot_is}
use Rattle.refinement.proofs.Valid.{good, legal-sizes}

-- a slot that was only taken, in other tables that have it as it was
pub taken-only-kept : (r : ℕ → ℕ) (z : Sizes) (d t d' t' : Table) (s : ℕ) → slot_in t' s ≡ slot_in t s → slot_in d' s ≡ slot_in d s
    → (slot_of z d (slot_in t s).page ≡ z.slots → slot_of z d' (slot_in t s).page ≡ z.slots) → TakenOnly r z d t s → TakenOnly r z d' t' s
taken-only-kept r z d t d' t' s e q none h =
    record {
      page-low = subst (λ (v : Slot). v.page < z.pages) (sym e) h.page-low;
      original = subst (λ (v : Slot). v.original ≡ r v.page) (sym e) h.original;
      bitmap = subst (λ (v : Slot). v.bitmap ≡ 0) (sym e) h.bitmap;
      was_free = q ∙ subst (λ (v : Slot). slot_in d s ≡ free_slot v.spare) (sym e) h.was_free;
      unslotted = subst (λ (v : Slot). slot_of z d' v.page ≡ z.slots) (sym e) (none h.unslotted);
    }

-- what a page has, g of its slot, or of its own frame where it has none
abbrev by_slot : (Slot → ℕ) → (ℕ → ℕ) → Sizes → Table → ℕ → ℕ
by_slot g r z t p = cond (ltb (slot_of z t p) z.slots) (g (slot_in t (slot_of z t p))) (r p)

module _ (g : Slot → ℕ) (r : ℕ → ℕ) (z : Sizes) (t : Table) (p : ℕ) where
  slot_has : slot_of z t p < z.slots → by_slot g r z t p ≡ g (slot_in t (slot_of z t p))
  slot_has m = rw (lt-ltb (slot_of z t p) z.slots m)

  slot-lacks : slot_of z t p ≡ z.slots → by_slot g r z t p ≡ r p
  slot-lacks e = rw (le-ltb (slot_of z t p) z.slots (omega arith))

-- where a page's committed line is, by whether the page has a slot
pub frame-slotted : (r : ℕ → ℕ) (z : Sizes) (t : Table) (p l : ℕ) → slot_of z t p < z.slots → frame_of r z t p l ≡ committed_frame (slot_in t (slot_of z t p)) l
frame-slotted r z t p l m = slot_has (λ v. committed_frame v l) r z t p m

pub frame-unslotted : (r : ℕ → ℕ) (z : Sizes) (t : Table) (p l : ℕ) → slot_of z t p ≡ z.slots → frame_of r z t p l ≡ r p
frame-unslotted r z t p l e = slot-lacks (λ v. committed_frame v l) r z t p e

-- the copies of a slot without lines in the spare
module _ (v : Slot) (l : ℕ) (e : v.bitmap ≡ 0) where
  pub committed-none : committed_frame v l ≡ v.original
  committed-none = rw (e, in-none l)

  pub other_none : other_frame v l ≡ v.spare
  other_none = rw (e, in-none l)

-- the slot that the page takes
abbrev pub taken_slot : State → ℕ → Slot
taken_slot st p = record { page = p; original = own_frame st p; spare = (slot_in st.table (write_slot st p)).spare; bitmap = 0 }

-- the page has a slot
pub record Own (st : State) (p : ℕ) : Type 0 where
  pub has : slot_for st p < st.sizes.slots
  pub slot : write_slot st p ≡ slot_for st p
  pub table : write_table st p ≡ st.table

-- it takes a free one
pub record Takes (st : State) (p : ℕ) : Type 0 where
  pub none : slot_for st p ≡ st.sizes.slots
  pub slot-low : write_slot st p < st.sizes.slots
  pub free : slot_in st.table (write_slot st p) ≡ free_slot (slot_in st.table (write_slot st p)).spare
  pub table : write_table st p ≡ with_slot st.table (write_slot st p) (taken_slot st p)

module _ (st : State) (p : ℕ) (valid : state_ok st ≡ true) (some : none_free st.sizes st.table.page st.next (slot_for st p) ≡ false) where
  own : slotted st p ≡ true → Own st p
  unfolding write_slot
  own e = record { has = ltb-true (slot_for st p) st.sizes.slots e; slot = rw e; table = rw e }

  takes : slotted st p ≡ false → Takes st p
  unfolding write_slot free_after
  takes e =
      let z : Sizes = st.sizes in
      let g : Legal z = legal-sizes st valid in
      let n : slot_for st p ≡ z.slots = slot-none z st.table p e in
      let k : ℕ = free_after z st.table.page st.next in
      let f : leb z.slots k ≡ false = rw (n, le-leb z.slots z.slots (omega arith)) at some in
      let s : ℕ = round_slot z st.next k in
      let w : write_slot st p ≡ s = rw e in
      let l : s < z.slots = mod-lt (st.next + k) (omega arith) in
      let none : get_or st.table.page s 0 ≡ no_page =
      eqb-true (get_or st.table.page s 0) no_page (first_holds (λ i. free_at st.table.page (round_slot z st.next i)) z.slots (leb-false z.slots k f)) in
      let is_free : slot_in st.table s ≡ free_slot (slot_in st.table s).spare =
      ⊎_elim
      (λ (o : Owning z (slot_in st.table s)). absurd (omega (arith, o.page-low, none, g.pages-high)))
      (λ h. free-is z (slot_in st.table s) h)
      (shape z (slot_in st.table s) (all-at (λ i. shaped z (slot_in st.table i)) z.slots s l (good st valid).shapes)) in
      record {
        none = n;
        slot-low = subst (λ (x : ℕ). x < z.slots) (sym w) l;
        free = subst (λ (x : ℕ). slot_in st.table x ≡ free_slot (slot_in st.table x).spare) (sym w) is_free;
        table = rw e;
      }

  pub own-or-takes : Own st p ⊎ Takes st p
  own-or-takes = case_on (slotted st p) (λ e. inl (own e)) (λ e. inr (takes e))

  pub write-slot-low : write_slot st p < st.sizes.slots
  write-slot-low = ⊎_elim (λ (o : Own st p). rw o.slot o.has) (λ (t : Takes st p). t.slot-low) own-or-takes

-- ---- the table after it

module _ (st : State) (p : ℕ) (g : Legal st.sizes) (full : Sixteen st.table) (low : p < st.sizes.pages)
    (apart : pages_apart st.sizes (write_table st p).page ≡ true) where
  abbrev z : Sizes
  z = st.sizes

  abbrev t : Table
  t = st.table

  abbrev s : ℕ
  s = write_slot st p

  module _ (T : Takes st p) where
    pub taken-slot : slot_in (write_table st p) s ≡ taken_slot st p
    taken-slot = ap (λ (u : Table). slot_in u s) T.table ∙ slot_same t s (taken_slot st p) full (omega (arith, T.slot-low, g.slots-high))

    pub taken-other : (k : ℕ) → (k ≡ s → ⊥) → slot_in (write_table st p) k ≡ slot_in t k
    taken-other k n = ap (λ (u : Table). slot_in u k) T.table ∙ slot-other t s (taken_slot st p) k n

    taken-page : slot_of z (write_table st p) p ≡ s
    taken-page = slot_is z (write_table st p) g apart p s low T.slot-low (ap (λ (u : Slot). u.page) taken-slot)

    not_taken : (q k : ℕ) → q < z.pages → (slot_in t k).page ≡ q → k ≡ s → ⊥
    not_taken q k l e n =
        let f : (slot_in t k).page ≡ no_page = ap (λ (i : ℕ). (slot_in t i).page) n ∙ ap (λ (u : Slot). u.page) T.free in
        omega (arith, g.pages-high)

    taken-kept : (q : ℕ) → q < z.pages → (q ≡ p → ⊥) → slot_of z (write_table st p) q ≡ slot_of z t q
    taken-kept q l n =
        case_on (ltb (slot_of z t q) z.slots)
        (λ e.
        let m : slot_of z t q < z.slots = ltb-true (slot_of z t q) z.slots e in
        let h : (slot_in t (slot_of z t q)).page ≡ q = slot-page z t q m in
        slot_is z (write_table st p) g apart q (slot_of z t q) l m (ap (λ (u : Slot). u.page) (taken-other (slot_of z t q) (not_taken q (slot_of z t q) l h)) ∙ h))
        (λ e.
        let m : slot_of z t q ≡ z.slots = slot-none z t q e in
        unslotted-of z (write_table st p) q (λ k lk h.
        case_on (eqb k s)
        (λ c. n (sym (sym (ap (λ (u : Slot). u.page) taken-slot) ∙ ap (λ (i : ℕ). (slot_in (write_table st p) i).page) (sym (eqb-true k s c)) ∙ h)))
        (λ c. omega (arith, m, slotted-of z t q k lk (sym (ap (λ (u : Slot). u.page) (taken-other k (eqb-false k s c))) ∙ h))))
        ∙ sym m)

  module _ (C : Own st p ⊎ Takes st p) where
    -- the page's slot is the one written to; other pages keep theirs
    pub page-slot : slot_of z (write_table st p) p ≡ s
    page-slot = ⊎_elim (λ (o : Own st p). rw o.table (sym o.slot)) taken-page C

    pub slot_kept : (q : ℕ) → q < z.pages → (q ≡ p → ⊥) → slot_of z (write_table st p) q ≡ slot_of z t q
    slot_kept q l n = ⊎_elim (λ (o : Own st p). rw o.table) (λ T. taken-kept T q l n) C

    pub slot-in-kept : (q : ℕ) → q < z.pages → (q ≡ p → ⊥) → slot_of z t q < z.slots → slot_in (write_table st p) (slot_of z t q) ≡ slot_in t (slot_of z t q)
    slot-in-kept q l n m =
        ⊎_elim (λ (o : Own st p). rw o.table) (λ T. taken-other T (slot_of z t q) (not_taken T q (slot_of z t q) l (slot-page z t q m))) C

    -- the frame that the line goes to is the other one afterwards too
    pub other-kept : (l : ℕ) → other_frame (slot_in (write_table st p) s) l ≡ other_frame (slot_in t s) l
    other-kept l =
        ⊎_elim
        (λ (o : Own st p). rw o.table)
        (λ (T : Takes st p).
        ap (λ (u : Slot). other_frame u l) (taken-slot T) ∙ other_none (taken_slot st p) l refl
        ∙ sym (other_none (slot_in t s) l (ap (λ (u : Slot). u.bitmap) T.free)))
        C

    -- what a page has of its slot, by g, or of its own frame where it has none, stays: the slot taken has the same
    by-slot-kept : (g : Slot → ℕ) (r : ℕ → ℕ) → g (taken_slot st p) ≡ own_frame st p → (slot_for st p ≡ z.slots → own_frame st p ≡ r p)
        → (q : ℕ) → q < z.pages → by_slot g r z (write_table st p) q ≡ by_slot g r z t q
    by-slot-kept g r new home q lq =
        ⊎_elim
        (λ (o : Own st p). rw o.table)
        (λ (T : Takes st p).
        let u : Table = write_table st p in
        case_on (eqb q p)
        (λ c.
        subst (λ (x : ℕ). by_slot g r z u x ≡ by_slot g r z t x) (sym (eqb-true q p c))
        (slot_has g r z u p (subst (λ (x : ℕ). x < z.slots) (sym (taken-page T)) T.slot-low)
        ∙ ap (λ (k : ℕ). g (slot_in u k)) (taken-page T)
        ∙ ap g (taken-slot T)
        ∙ new
        ∙ home T.none
        ∙ sym (slot-lacks g r z t p T.none)))
        (λ c.
        let n : q ≡ p → ⊥ = eqb-false q p c in
        let k : slot_of z u q ≡ slot_of z t q = slot_kept q lq n in
        case_on (ltb (slot_of z t q) z.slots)
        (λ e.
        let m : slot_of z t q < z.slots = ltb-true (slot_of z t q) z.slots e in
        slot_has g r z u q (subst (λ (x : ℕ). x < z.slots) (sym k) m)
        ∙ ap (λ (i : ℕ). g (slot_in u i)) k
        ∙ ap g (slot-in-kept q lq n m)
        ∙ sym (slot_has g r z t q m))
        (λ e.
        let m : slot_of z t q ≡ z.slots = slot-none z t q e in
        slot-lacks g r z u q (k ∙ m) ∙ sym (slot-lacks g r z t q m))))
        C

    -- committed copies and homes stay where they are
    pub frame-kept : (r : ℕ → ℕ) → (slot_for st p ≡ z.slots → own_frame st p ≡ r p) → (q l : ℕ) → q < z.pages → frame_of r z (write_table st p) q l ≡ frame_of r z t q l
    frame-kept r home q l lq = by-slot-kept (λ v. committed_frame v l) r (committed-none (taken_slot st p) l refl) home q lq

    pub home-kept : (r : ℕ → ℕ) → (slot_for st p ≡ z.slots → own_frame st p ≡ r p) → (q : ℕ) → q < z.pages → home_of r z (write_table st p) q ≡ home_of r z t q
    home-kept r home q lq = by-slot-kept (λ v. v.original) r refl home q lq

    -- a page with a slot keeps it as it is
    pub slot_whole : (q : ℕ) → q < z.pages → slot_of z t q < z.slots → slot_in (write_table st p) (slot_of z (write_table st p) q) ≡ slot_in t (slot_of z t q)
    slot_whole q l m =
        ⊎_elim
        (λ (o : Own st p). ap (λ (u : Table). slot_in u (slot_of z u q)) o.table)
        (λ (T : Takes st p).
        let n : q ≡ p → ⊥ = λ e. omega (arith, m, T.none, ap (slot_of z t) e) in
        ap (slot_in (write_table st p)) (slot_kept q l n) ∙ slot-in-kept q l n m)
        C

    -- another page's slot is not the one written to
    pub slot-differs : s < z.slots → (q : ℕ) → q < z.pages → (q ≡ p → ⊥) → slot_of z t q < z.slots → slot_of z t q ≡ s → ⊥
    slot-differs h q l n m e =
        let u : Table = write_table st p in
        n (sym (slot-page z t q m)
        ∙ ap (λ (v : Slot). v.page) (sym (slot-in-kept q l n m))
        ∙ ap (λ (k : ℕ). (slot_in u k).page) (e ∙ sym page-slot)
        ∙ slot-page z u p (subst (λ (k : ℕ). k < z.slots) (sym page-slot) h))

    -- the image has still the slots that it had
    pub write-behind : (r : ℕ → ℕ) (d : Table) → (slot_for st p ≡ z.slots → own_frame st p ≡ r p) → (slot_for st p ≡ z.slots → slot_of z d p ≡ z.slots)
        → Behind r z d t → Behind r z d (write_table st p)
    write-behind r d home none h =
        ⊎_elim
        (λ (o : Own st p). subst (Behind r z d) (sym o.table) h)
        (λ (T : Takes st p).
        let now : Slot = taken_slot st p in
        record {
          sixteen = subst Sixteen (sym T.table) (sixteen-slot t s now full);
          last-same = λ k l. ap (λ (u : Table). last_in u k) T.table ∙ h.last-same k l;
          slot_same =
              λ k l.
              case_on (eqb k s)
              (λ c.
              subst (λ (i : ℕ). (slot_in (write_table st p) i ≡ slot_in d i) ⊎ TakenOnly r z d (write_table st p) i) (sym (eqb-true k s c))
              (inr (takes-only r d home none h T)))
              (λ c.
              let e : slot_in (write_table st p) k ≡ slot_in t k = taken-other T k (eqb-false k s c) in
              ⊎_elim (λ q. inl (e ∙ q)) (λ q. inr (taken-only-kept r z d t d (write_table st p) k e refl (λ x. x) q)) (h.slot_same k l));
        })
        C
      where
        was_free : (r : ℕ → ℕ) (d : Table) → Behind r z d t → (T : Takes st p) → slot_in d s ≡ free_slot (slot_in t s).spare
        was_free r d h T =
            ⊎_elim
            (λ q. sym q ∙ T.free)
            (λ (q : TakenOnly r z d t s). let f : (slot_in t s).page ≡ no_page = ap (λ (v : Slot). v.page) T.free in absurd (omega (arith, q.page-low, g.pages-high)))
            (h.slot_same s T.slot-low)

        takes-only : (r : ℕ → ℕ) (d : Table) → (slot_for st p ≡ z.slots → own_frame st p ≡ r p) → (slot_for st p ≡ z.slots → slot_of z d p ≡ z.slots)
            → Behind r z d t → (T : Takes st p) → TakenOnly r z d (write_table st p) s
        takes-only r d home none h T =
            let e : slot_in (write_table st p) s ≡ taken_slot st p = taken-slot T in
            record {
              page-low = subst (λ (v : Slot). v.page < z.pages) (sym e) low;
              original = subst (λ (v : Slot). v.original ≡ r v.page) (sym e) (home T.none);
              bitmap = ap (λ (v : Slot). v.bitmap) e;
              was_free = subst (λ (v : Slot). slot_in d s ≡ free_slot v.spare) (sym e) (was_free r d h T);
              unslotted = subst (λ (v : Slot). slot_of z d v.page ≡ z.slots) (sym e) (none T.none);
            }
