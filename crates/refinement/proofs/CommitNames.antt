-- The slots after a commit name the frames and the pages that they named: its records change bitmaps alone. So the slots that a mount
-- finds then keep row 7, and the state's are again those or taken from them.
use Prim.Native.Nat.{ℕ, ◌<◌}
use mathlib.Core.Bool.{true}
use mathlib.Core.List.{List, ◌++◌}
use mathlib.Core.Logic.{inl, inr, ⊎_elim}
use mathlib.Core.Path.{◌≡◌, refl, sym, ap, ap₂, ◌∙◌, subst}
use native.Mathlib.Omega.{arith}
use native.Mathlib.Nat.{le_antisymm}
use lib.Dec.{ltb}
use borrow.Author.Tests.{ltb-true}
use Rattle.bounded.specs.Count.{Once}
use Rattle.bounded.proofs.Below.{all-at, all_made}
use Rattle.bounded.proofs.Tab.{tab-ext}
use Rattle.bounded.proofs.Tests.{case_on}
use Rattle.layout.specs.declared.Sizes.{Sizes}
use Rattle.layout.specs.Layout.{Legal, frames}
use Rattle.journal.specs.declared.Slot.{Slot}
use Rattle.journal.specs.declared.Record.{Record}
use Rattle.replay.specs.declared.Table.{Table}
use Rattle.journal.specs.Slots.{no_page, free_slot, shaped}
use Rattle.replay.specs.Table.{slot_in, slot_of, home_of, frame_names, slots_shaped, pages_apart, replay}
use Rattle.replay.proofs.Latest.{Latest, NoRecord, latest, sixteen-replay, replay-latest, replay-kept}
use Rattle.journal.proofs.SlotWords.{Owning, Free, shape, free-shaped}
use Rattle.replay.proofs.Tables.{Sixteen}
use Rattle.mount.proofs.View.{slot-none}
use Rattle.refinement.proofs.CommitValid.{SameNames}
use Rattle.refinement.proofs.PagesApart.{apart-made}
use Rattle.refinement.proofs.Invariant.{TakenOnly, Behind}
use Rattle.refinement.proofs.PageSlots.{slot-le, slot-page, slot-first, slotted-of, unslotted-of, apart-at, slot_is}
use Rattle.refinement.proofs.Copies.{table-names}
use Rattle.refinement.proofs.WriteTable.{taken-only-kept}

-- ---- row 7's tests of what a mount finds, by those of the state's slots

module _ (r : ℕ → ℕ) (z : Sizes) (d t : Table) (h : Behind r z d t) where
  pub behind-shapes : slots_shaped z t ≡ true → slots_shaped z d ≡ true
  behind-shapes e =
      all_made (λ s. shaped z (slot_in d s)) z.slots (λ s l.
      let f : shaped z (slot_in t s) ≡ true = all-at (λ s. shaped z (slot_in t s)) z.slots s l e in
      ⊎_elim
      (λ q. ap (shaped z) (sym q) ∙ f)
      (λ (q : TakenOnly r z d t s).
      ap (shaped z) q.was_free
      ∙ free-shaped z (free_slot (slot_in t s).spare)
      (record {
        page-none = refl;
        original-none = refl;
        bitmap-none = refl;
        spare_low = ⊎_elim (λ (o : Owning z (slot_in t s)). o.spare_low) (λ (o : Free z (slot_in t s)). o.spare_low) (shape z (slot_in t s) f);
      }))
      (h.slot_same s l))

  page-same : (s : ℕ) → s < z.slots → ((slot_in d s).page ≡ no_page → ⊥) → (slot_in t s).page ≡ (slot_in d s).page
  page-same s l n =
      ⊎_elim (λ q. ap (λ (v : Slot). v.page) q) (λ (q : TakenOnly r z d t s). absurd (n (ap (λ (v : Slot). v.page) q.was_free))) (h.slot_same s l)

  pub behind-apart : pages_apart z t.page ≡ true → pages_apart z d.page ≡ true
  behind-apart e =
      apart-made z d
      (λ s k l m n q.
      let a = page-same s l n in
      let b = page-same k (omega arith) (λ x. n (q ∙ x)) in
      apart-at z t e s k l m (λ x. n (sym a ∙ x)) (a ∙ q ∙ sym b))

-- ---- tables whose slots have the same names

module _ (r : ℕ → ℕ) (z : Sizes) (t u : Table) (names : (s : ℕ) → s < z.slots → SameNames (slot_in t s) (slot_in u s)) where
  pub same-slot : (p : ℕ) → slot_of z u p ≡ slot_of z t p
  same-slot p =
      le_antisymm
      (case_on (ltb (slot_of z t p) z.slots)
      (λ e. let l = ltb-true (slot_of z t p) z.slots e in slot-first z u p (slot_of z t p) l ((names (slot_of z t p) l).page ∙ slot-page z t p l))
      (λ e. omega (arith, slot-none z t p e, slot-le z u p)))
      (case_on (ltb (slot_of z u p) z.slots)
      (λ e. let l = ltb-true (slot_of z u p) z.slots e in slot-first z t p (slot_of z u p) l (sym (names (slot_of z u p) l).page ∙ slot-page z u p l))
      (λ e. omega (arith, slot-none z u p e, slot-le z t p)))

  pub same_home : (p : ℕ) → home_of r z u p ≡ home_of r z t p
  same_home p =
      case_on (ltb (slot_of z t p) z.slots)
      (λ e. rw (same-slot p, e) (names (slot_of z t p) (ltb-true (slot_of z t p) z.slots e)).original)
      (λ e. rw (same-slot p, e))

  pub same_names : frame_names r z u ≡ frame_names r z t
  unfolding frame_names
  same_names =
      ap₂ (λ (a b : List ℕ). a ++ b)
      (tab-ext z.slots (λ s. (slot_in u s).spare) (λ s. (slot_in t s).spare) (λ s l. (names s l).spare))
      (tab-ext z.pages (home_of r z u) (home_of r z t) (λ p l. same_home p))

-- ---- records that keep the names

module _ (r : ℕ → ℕ) (z : Sizes) (head n : ℕ) (e : ℕ → Record) (d t : Table) (g : Legal z) (full : Sixteen d) (h : Behind r z d t)
    (apart : pages_apart z t.page ≡ true) (keeps : (j : ℕ) → j < n → SameNames (slot_in t (e j).slot) (e j).now) where
  abbrev d' : Table
  d' = replay z head n e d

  abbrev t' : Table
  t' = replay z head n e t

  -- the latest record of slot s, in one table and in the other
  new-names : (s i : ℕ) → Latest n e s i → SameNames (slot_in t s) (e i).now
  new-names s i L = subst (λ (k : ℕ). SameNames (slot_in t k) (e i).now) L.slot (keeps i L.live)

  -- a page that no slot had in the image has none afterwards
  still-none : (s : ℕ) → s < z.slots → NoRecord n e s → (slot_in t s).page < z.pages → slot_of z d (slot_in t s).page ≡ z.slots → slot_of z d' (slot_in t s).page ≡ z.slots
  still-none s l f low none =
      let p : ℕ = (slot_in t s).page in
      unslotted-of z d' p (λ k m q.
      ⊎_elim
      (λ (x : (i : ℕ) × Latest n e k i).
      let a : slot_in d' k ≡ (e x.0).now = (replay-latest z head e d full k n x.0 (omega (arith, m, g.slots-high)) x.1).slot in
      let b : (slot_in t k).page ≡ p = sym (new-names k x.0 x.1).page ∙ sym (ap (λ (v : Slot). v.page) a) ∙ q in
      let c : k ≡ s = sym (slot_is z t g apart p k low m b) ∙ slot_is z t g apart p s low l refl in
      f x.0 x.1.live (x.1.slot ∙ c))
      (λ y. omega (arith, none, slotted-of z d p k m (sym (ap (λ (v : Slot). v.page) (replay-kept z head e d full k n y).slot) ∙ q)))
      (latest n e k))

  pub behind_more : Behind r z d' t'
  behind_more =
      record {
        sixteen = sixteen-replay z head n e t h.sixteen;
        last-same =
            λ s l.
            ⊎_elim
            (λ (x : (i : ℕ) × Latest n e s i).
            let m : s < 16 = omega (arith, l, g.slots-high) in
            (replay-latest z head e t h.sixteen s n x.0 m x.1).last ∙ sym (replay-latest z head e d full s n x.0 m x.1).last)
            (λ y. (replay-kept z head e t h.sixteen s n y).last ∙ h.last-same s l ∙ sym (replay-kept z head e d full s n y).last)
            (latest n e s);
        slot_same =
            λ s l.
            ⊎_elim
            (λ (x : (i : ℕ) × Latest n e s i).
            let m : s < 16 = omega (arith, l, g.slots-high) in
            inl ((replay-latest z head e t h.sixteen s n x.0 m x.1).slot ∙ sym (replay-latest z head e d full s n x.0 m x.1).slot))
            (λ y.
            let a = (replay-kept z head e t h.sixteen s n y).slot in
            let b = (replay-kept z head e d full s n y).slot in
            ⊎_elim
            (λ q. inl (a ∙ q ∙ sym b))
            (λ (q : TakenOnly r z d t s). inr (taken-only-kept r z d t d' t' s a b (still-none s l y q.page-low) q))
            (h.slot_same s l))
            (latest n e s);
      }

  -- the names are those that were
  pub once_more : ((s : ℕ) → s < z.slots → SameNames (slot_in t s) (slot_in t' s)) → pages_apart z t'.page ≡ true → Once (frames z) (frame_names r z t) → Once (frames z) (frame_names r z d')
  once_more names apart' once =
      let b = behind_more in
      subst (Once (frames z)) (sym (same_names r z t t' names) ∙ table-names r z d' t' g (behind-apart r z d' t' b apart') apart' b) once
