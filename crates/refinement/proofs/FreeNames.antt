-- One slot freed by a record, in a table: the page that it may have had has no slot then, all else is as before. The freed slot's spare and
-- the page's home name the two frames that they named before, maybe the other way round, so each frame is still named once.
use Prim.Native.Nat.{ℕ, zero, suc, ◌+◌, ◌-◌, ◌<◌, ◌≤◌}
use mathlib.Core.Bool.{Bool, true, false, cond}
use mathlib.Core.List.{List}
use mathlib.Core.Logic.{◌⊎◌, ⊎_elim}
use mathlib.Core.Path.{◌≡◌, refl, sym, ap, ap₂, ◌∙◌, subst}
use native.Mathlib.Omega.{arith}
use lib.Dec.{ltb, eqb}
use lib.ListN.{length, get_or, set, length-set}
use lib.Seq.{get_or-set_same, get_or-set_other, ext_get_or}
use borrow.Author.Tests.{ltb-true, ltb-false, le-ltb, eqb-true, eqb-false, ne_eqb}
use Rattle.bounded.specs.Below.{first_below, one}
use Rattle.bounded.specs.Count.{count_of, Once}
use Rattle.bounded.proofs.Below.{all_made, all-at}
use Rattle.bounded.proofs.Pigeonhole.{count_set, once-swap}
use Rattle.bounded.proofs.Tests.{case_on}
use Rattle.layout.specs.declared.Sizes.{Sizes}
use Rattle.layout.specs.Layout.{Legal, frames}
use Rattle.journal.specs.declared.Slot.{Slot}
use Rattle.journal.specs.declared.Record.{Record}
use Rattle.replay.specs.declared.Table.{Table}
use Rattle.journal.specs.Slots.{no_page, free_slot, shaped}
use Rattle.journal.specs.Records.{position}
use Rattle.replay.specs.Table.{slot_in, last_in, replay, slots_shaped, pages_apart, slot_of, home_of, frame_names}
use Rattle.names.proofs.Homes.{length-names}
use Rattle.replay.proofs.Latest.{Latest, Holds, sixteen-replay, replay-latest, replay-kept}
use Rattle.journal.proofs.SlotWords.{free-shaped}
use Rattle.replay.proofs.Tables.{Sixteen}
use Rattle.refinement.specs.Frames.{committed_frame}
use Rattle.refinement.specs.Recall.{frame_of}
use Rattle.refinement.proofs.NamesOnce.{name-spare, name-home}
use Rattle.refinement.proofs.PageSlots.{slot-page, unslotted-of, apart-at}
use Rattle.refinement.proofs.PagesApart.{apart-made}

-- the first that passes is found by the test's values alone
first-ext : (f g : ℕ → Bool) (n : ℕ) → ((i : ℕ) → i < n → f i ≡ g i) → first_below n f ≡ first_below n g
unfolding first_below
first-ext f g zero h = refl
first-ext f g (suc n) h =
    ap₂ (λ (x : ℕ) (b : Bool). cond (eqb x n) (cond b n (suc n)) x) (first-ext f g n (λ i l. h i (omega arith))) (h n (omega arith))

-- an entry set to what it is
once-same : (n : ℕ) (l : List ℕ) (i v : ℕ) → i < length l → v ≡ get_or l i 0 → Once n l → Once n (set l i v)
once-same n l i v h e once x m =
    let c : count_of x (set l i v) + one (eqb x (get_or l i 0)) ≡ count_of x l + one (eqb x (get_or l i 0)) = count_set x l i v h ∙ ap (λ (u : ℕ). count_of x l + one (eqb x u)) e in
    omega (arith, once x m)

-- the record at head frees slot s, with spare x, and in table d that slot is free or the only one with page p
pub record Frees (z : Sizes) (head : ℕ) (new : ℕ → Record) (d : Table) (s p x : ℕ) : Type 0 where
  pub is-slot : (new 0).slot ≡ s
  pub is_free : (new 0).now ≡ free_slot x
  pub legal : Legal z
  pub sixteen : Sixteen d
  pub slot-low : s < z.slots
  pub page-low : p < z.pages
  pub only : (k : ℕ) → k < z.slots → (slot_in d k).page ≡ p → k ≡ s
  pub no_other : ((slot_in d s).page ≡ p) ⊎ ((slot_in d s).page ≡ no_page)

module _ {z : Sizes} {head : ℕ} {new : ℕ → Record} {d : Table} {s p x : ℕ} (F : Frees z head new d s p x) where
  abbrev freed_table : Table
  freed_table = replay z head 1 new d

  pub freed-sixteen : Sixteen freed_table
  freed-sixteen = sixteen-replay z head 1 new d F.sixteen

  pub freed-slot : Holds freed_table s (free_slot x) (position z head 0)
  freed-slot =
      let l : Latest 1 new s 0 = record { live = omega arith; slot = F.is-slot; later = λ j a b q. omega arith } in
      subst (λ (v : Slot). Holds freed_table s v (position z head 0)) F.is_free
      (replay-latest z head new d F.sixteen s 1 0 (omega (arith, F.slot-low, F.legal.slots-high)) l)

  pub kept_slot : (k : ℕ) → (k ≡ s → ⊥) → Holds freed_table k (slot_in d k) (last_in d k)
  kept_slot k n =
      replay-kept z head new d F.sixteen k 1 (λ i l q. let e : i ≡ 0 = omega arith in n (sym q ∙ ap (λ (j : ℕ). (new j).slot) e ∙ F.is-slot))

  -- ---- the slots of pages

  page-kept : (q k : ℕ) → q < z.pages → (q ≡ p → ⊥) → eqb (slot_in freed_table k).page q ≡ eqb (slot_in d k).page q
  page-kept q k low n =
      case_on (eqb k s)
      (λ e.
      let w : k ≡ s = eqb-true k s e in
      let a : (slot_in freed_table k).page ≡ no_page = ap (λ (i : ℕ). (slot_in freed_table i).page) w ∙ ap (λ (v : Slot). v.page) freed-slot.slot in
      let g = F.legal.pages-high in
      ne_eqb (slot_in freed_table k).page q (λ h. omega arith)
      ∙ sym (ne_eqb (slot_in d k).page q (λ h.
      ⊎_elim (λ (m : (slot_in d s).page ≡ p). n (sym h ∙ ap (λ (i : ℕ). (slot_in d i).page) w ∙ m))
      (λ (m : (slot_in d s).page ≡ no_page). let o : q ≡ no_page = sym h ∙ ap (λ (i : ℕ). (slot_in d i).page) w ∙ m in omega arith) F.no_other)))
      (λ e. ap (λ (v : Slot). eqb v.page q) (kept_slot k (eqb-false k s e)).slot)

  -- the page has none then
  pub slot-gone : slot_of z freed_table p ≡ z.slots
  slot-gone =
      unslotted-of z freed_table p (λ k l e.
      case_on (eqb k s)
      (λ h.
      let w : k ≡ s = eqb-true k s h in
      let a : no_page ≡ p = sym (ap (λ (v : Slot). v.page) freed-slot.slot) ∙ ap (λ (i : ℕ). (slot_in freed_table i).page) (sym w) ∙ e in
      let g = F.legal.pages-high in
      omega (arith, F.page-low))
      (λ h. eqb-false k s h (F.only k l (sym (ap (λ (v : Slot). v.page) (kept_slot k (eqb-false k s h)).slot) ∙ e))))

  -- any other keeps its own
  pub slot_kept : (q : ℕ) → q < z.pages → (q ≡ p → ⊥) → slot_of z freed_table q ≡ slot_of z d q
  slot_kept q low n = first-ext (λ k. eqb (slot_in freed_table k).page q) (λ k. eqb (slot_in d k).page q) z.slots (λ k l. page-kept q k low n)

  not-freed : (q : ℕ) → q < z.pages → (q ≡ p → ⊥) → slot_of z d q < z.slots → slot_of z d q ≡ s → ⊥
  not-freed q low n l e =
      let a : (slot_in d s).page ≡ q = ap (λ (k : ℕ). (slot_in d k).page) (sym e) ∙ slot-page z d q l in
      let g = F.legal.pages-high in
      ⊎_elim (λ (m : (slot_in d s).page ≡ p). n (sym a ∙ m)) (λ (m : (slot_in d s).page ≡ no_page). omega arith) F.no_other

  pub slot-in-kept : (q : ℕ) → q < z.pages → (q ≡ p → ⊥) → slot_of z d q < z.slots → slot_in freed_table (slot_of z freed_table q) ≡ slot_in d (slot_of z d q)
  slot-in-kept q low n l =
      ap (slot_in freed_table) (slot_kept q low n) ∙ (kept_slot (slot_of z d q) (not-freed q low n l)).slot

  -- ---- homes and committed frames

  module _ (r : ℕ → ℕ) where
    pub home-gone : home_of r z freed_table p ≡ r p
    home-gone = rw (slot-gone, le-ltb z.slots z.slots (omega arith))

    pub frame-gone : (l : ℕ) → frame_of r z freed_table p l ≡ r p
    frame-gone l = rw (slot-gone, le-ltb z.slots z.slots (omega arith))

    pub home-other : (q : ℕ) → q < z.pages → (q ≡ p → ⊥) → home_of r z freed_table q ≡ home_of r z d q
    home-other q low n =
        case_on (ltb (slot_of z d q) z.slots)
        (λ e.
        let f : ltb (slot_of z freed_table q) z.slots ≡ true = rw (slot_kept q low n) e in
        rw (e, f) (ap (λ (v : Slot). v.original) (slot-in-kept q low n (ltb-true (slot_of z d q) z.slots e))))
        (λ e.
        let f : ltb (slot_of z freed_table q) z.slots ≡ false = rw (slot_kept q low n) e in
        rw (e, f))

    pub frame-other : (q l : ℕ) → q < z.pages → (q ≡ p → ⊥) → frame_of r z freed_table q l ≡ frame_of r z d q l
    frame-other q l low n =
        case_on (ltb (slot_of z d q) z.slots)
        (λ e.
        let f : ltb (slot_of z freed_table q) z.slots ≡ true = rw (slot_kept q low n) e in
        rw (e, f) (ap (λ (v : Slot). committed_frame v l) (slot-in-kept q low n (ltb-true (slot_of z d q) z.slots e))))
        (λ e.
        let f : ltb (slot_of z freed_table q) z.slots ≡ false = rw (slot_kept q low n) e in
        rw (e, f))

    -- ---- the names

    abbrev names : List ℕ
    names = frame_names r z d

    abbrev swapped : List ℕ
    swapped = set (set names s x) (z.slots + p) (r p)

    length-swapped : length swapped ≡ frames z
    length-swapped = length-set (set names s x) (z.slots + p) (r p) ∙ length-set names s x ∙ length-names r z d

    swapped-spare : (k : ℕ) → k < z.slots → (slot_in freed_table k).spare ≡ get_or swapped k 0
    swapped-spare k l =
        let a = get_or-set_other (set names s x) (z.slots + p) k (r p) 0 (λ e. omega arith) in
        case_on (eqb k s)
        (λ e.
        let w : k ≡ s = eqb-true k s e in
        let b : get_or (set names s x) k 0 ≡ x =
        ap (λ (i : ℕ). get_or (set names s x) i 0) w ∙ get_or-set_same names s x 0 (omega (arith, F.slot-low, length-names r z d)) in
        ap (λ (i : ℕ). (slot_in freed_table i).spare) w ∙ ap (λ (v : Slot). v.spare) freed-slot.slot ∙ sym (a ∙ b))
        (λ e.
        let n : k ≡ s → ⊥ = eqb-false k s e in
        ap (λ (v : Slot). v.spare) (kept_slot k n).slot ∙ sym (a ∙ get_or-set_other names s k x 0 n ∙ name-spare r z d k l))

    swapped-home : (q : ℕ) → q < z.pages → home_of r z freed_table q ≡ get_or swapped (z.slots + q) 0
    swapped-home q l =
        case_on (eqb q p)
        (λ e.
        let w : q ≡ p = eqb-true q p e in
        rw w
        (home-gone
        ∙ sym (get_or-set_same (set names s x) (z.slots + p) (r p) 0 (omega (arith, F.page-low, length-names r z d, length-set names s x)))))
        (λ e.
        let n : q ≡ p → ⊥ = eqb-false q p e in
        home-other q l n
        ∙ sym (get_or-set_other (set names s x) (z.slots + p) (z.slots + q) (r p) 0 (λ h. n (omega arith))
        ∙ get_or-set_other names s (z.slots + q) x 0 (λ h. omega (arith, F.slot-low))
        ∙ name-home r z d q l))

    pub freed-names : frame_names r z freed_table ≡ swapped
    freed-names =
        ext_get_or 0 (frame_names r z freed_table) swapped (length-names r z freed_table ∙ sym length-swapped)
        (λ i l.
        let m : i < frames z = omega (arith, length-names r z freed_table) in
        case_on (ltb i z.slots)
        (λ e. let h : i < z.slots = ltb-true i z.slots e in name-spare r z freed_table i h ∙ swapped-spare i h)
        (λ e.
        let h : z.slots ≤ i = ltb-false i z.slots e in
        let w : i ≡ z.slots + (i - z.slots) = omega arith in
        rw w (name-home r z freed_table (i - z.slots) (omega arith) ∙ swapped-home (i - z.slots) (omega arith))))

    -- each once: the two names stay where they were, or change places
    pub freed-once : Once (frames z) names
        → ((x ≡ (slot_in d s).spare) × (r p ≡ home_of r z d p)) ⊎ ((x ≡ home_of r z d p) × (r p ≡ (slot_in d s).spare))
        → Once (frames z) (frame_names r z freed_table)
    freed-once once roles =
        let i : s < length names = omega (arith, F.slot-low, length-names r z d) in
        let j : z.slots + p < length names = omega (arith, F.page-low, length-names r z d) in
        let a : get_or names s 0 ≡ (slot_in d s).spare = name-spare r z d s F.slot-low in
        let b : get_or names (z.slots + p) 0 ≡ home_of r z d p = name-home r z d p F.page-low in
        let o : get_or (set names s x) (z.slots + p) 0 ≡ get_or names (z.slots + p) 0 = get_or-set_other names s (z.slots + p) x 0 (λ h. omega (arith, F.slot-low)) in
        subst (Once (frames z)) (sym freed-names)
        (⊎_elim
        (λ (e : (x ≡ (slot_in d s).spare) × (r p ≡ home_of r z d p)).
        once-same (frames z) (set names s x) (z.slots + p) (r p) (omega (arith, length-set names s x)) (e.1 ∙ sym (o ∙ b))
        (once-same (frames z) names s x i (e.0 ∙ sym a) once))
        (λ (e : (x ≡ home_of r z d p) × (r p ≡ (slot_in d s).spare)).
        rw (e.0 ∙ sym b, e.1 ∙ sym a) (once-swap (frames z) names s (z.slots + p) i j once))
        roles)

  -- ---- row 7's other two

  pub freed-shapes : x < frames z → slots_shaped z d ≡ true → slots_shaped z freed_table ≡ true
  freed-shapes low h =
      all_made (λ k. shaped z (slot_in freed_table k)) z.slots (λ k l.
      case_on (eqb k s)
      (λ e.
      ap (λ (i : ℕ). shaped z (slot_in freed_table i)) (eqb-true k s e)
      ∙ ap (shaped z) freed-slot.slot
      ∙ free-shaped z (free_slot x) (record { page-none = refl; original-none = refl; bitmap-none = refl; spare_low = low }))
      (λ e. ap (shaped z) (kept_slot k (eqb-false k s e)).slot ∙ all-at (λ i. shaped z (slot_in d i)) z.slots k l h))

  pub freed-apart : pages_apart z d.page ≡ true → pages_apart z freed_table.page ≡ true
  freed-apart h =
      apart-made z freed_table
      (λ k j l m n q.
      let o : k ≡ s → ⊥ = λ w. n (ap (λ (i : ℕ). (slot_in freed_table i).page) w ∙ ap (λ (v : Slot). v.page) freed-slot.slot) in
      let a : (slot_in freed_table k).page ≡ (slot_in d k).page = ap (λ (v : Slot). v.page) (kept_slot k o).slot in
      case_on (eqb j s)
      (λ f. n (q ∙ ap (λ (i : ℕ). (slot_in freed_table i).page) (eqb-true j s f) ∙ ap (λ (v : Slot). v.page) freed-slot.slot))
      (λ f. apart-at z d h k j l m (λ w. n (a ∙ w)) (sym a ∙ q ∙ ap (λ (v : Slot). v.page) (kept_slot j (eqb-false j s f)).slot)))
