-- Row 8 of the slots and the map, as facts: the slots' shapes, that no two have one page, that spares and the pages' own frames, h, name each frame once, and
-- that a slotted page's own frame is its slot's original; from the test and back.
use Prim.Native.Nat.{ℕ, ◌<◌}
use mathlib.Core.Bool.{Bool, true, ◌||◌}
use mathlib.Core.List.{◌++◌}
use mathlib.Core.Logic.{⊎_elim}
use mathlib.Core.Path.{◌≡◌, sym, ap, ◌∙◌, subst}
use native.Mathlib.Omega.{arith}
use lib.Dec.{ltb, eqb}
use borrow.Author.Tests.{eqb-true, eqb-false, eq-eqb, ltb-true, ltb-false}
use Rattle.bounded.specs.Count.{Once, each_once}
use Rattle.bounded.specs.Tab.{tab}
use Rattle.bounded.proofs.Below.{all-at, all_made}
use Rattle.bounded.proofs.Pigeonhole.{once-true, true-once}
use Rattle.bounded.proofs.Tests.{case_on}
use Rattle.layout.specs.declared.Sizes.{Sizes}
use Rattle.layout.specs.Layout.{Legal, frames}
use Rattle.journal.specs.declared.Slot.{Slot}
use Rattle.replay.specs.declared.Table.{Table}
use Rattle.journal.specs.Slots.{no_page, shaped}
use Rattle.replay.specs.Table.{slot_in, slots_shaped, pages_apart, frame_names}
use Rattle.replay.specs.Map.{original_kept, originals_kept, names_kept}
use Rattle.replay.proofs.Maps.{names-kept}
use Rattle.journal.proofs.SlotWords.{or_cases}
use Rattle.refinement.proofs.PageSlots.{apart-at}
use Rattle.refinement.proofs.PagesApart.{apart-made}

-- the spares, then the pages' own frames
abbrev pub Named : Sizes → (ℕ → ℕ) → (ℕ → Slot) → Type 0
Named z h f = Once (frames z) (tab z.slots (λ s. (f s).spare) ++ tab z.pages h)

pub record SlotsFine (z : Sizes) (h : ℕ → ℕ) (f : ℕ → Slot) : Type 0 where
  pub shapes : (s : ℕ) → s < z.slots → shaped z (f s) ≡ true
  pub pages : (s k : ℕ) → s < z.slots → k < z.slots → (s ≡ k → ⊥) → ((f s).page ≡ no_page → ⊥) → (f s).page ≡ (f k).page → ⊥
  pub named : Named z h f
  pub kept : (s : ℕ) → s < z.slots → ((f s).page ≡ no_page → ⊥) → h (f s).page ≡ (f s).original

module _ (z : Sizes) (h : ℕ → ℕ) (t : Table) where
  -- from the tests
  kept_at : originals_kept h z t ≡ true → (s : ℕ) → s < z.slots → ((slot_in t s).page ≡ no_page → ⊥) → h (slot_in t s).page ≡ (slot_in t s).original
  kept_at e s l n =
      ⊎_elim
      (λ q. absurd (n (eqb-true (slot_in t s).page no_page q)))
      (λ q. eqb-true (h (slot_in t s).page) (slot_in t s).original q)
      (or_cases (eqb (slot_in t s).page no_page) (eqb (h (slot_in t s).page) (slot_in t s).original) (all-at (original_kept h t) z.slots s l e))

  pub kept-made : ((s : ℕ) → s < z.slots → ((slot_in t s).page ≡ no_page → ⊥) → h (slot_in t s).page ≡ (slot_in t s).original) → originals_kept h z t ≡ true
  kept-made kept =
      all_made (original_kept h t) z.slots
      (λ s l.
      case_on (eqb (slot_in t s).page no_page)
      (λ e. ap (λ (b : Bool). b || eqb (h (slot_in t s).page) (slot_in t s).original) e)
      (λ e. rw e (eq-eqb (h (slot_in t s).page) (slot_in t s).original (kept s l (eqb-false (slot_in t s).page no_page e)))))

  pages-at : pages_apart z t.page ≡ true → (s k : ℕ) → s < z.slots → k < z.slots → (s ≡ k → ⊥) → ((slot_in t s).page ≡ no_page → ⊥) → (slot_in t s).page ≡ (slot_in t k).page → ⊥
  pages-at e s k l m d n q =
      case_on (ltb k s)
      (λ b. apart-at z t e s k l (ltb-true k s b) n q)
      (λ b. apart-at z t e k s m (omega (arith, d, ltb-false k s b)) (λ x. n (q ∙ x)) (sym q))

  pub names-once : Legal z → originals_kept h z t ≡ true → Once (frames z) (frame_names h z t) → Named z h (slot_in t)
  unfolding names_kept
  names-once legal e once = subst (Once (frames z)) (sym (names-kept h z t legal e)) once

  pub slots-fine : Legal z → slots_shaped z t ≡ true → pages_apart z t.page ≡ true → each_once (frames z) (frame_names h z t) ≡ true → originals_kept h z t ≡ true → SlotsFine z h (slot_in t)
  slots-fine legal shapes pages once kept =
      record {
        shapes = λ s l. all-at (λ s. shaped z (slot_in t s)) z.slots s l shapes;
        pages = pages-at pages;
        named = names-once legal kept (once-true (frames z) (frame_names h z t) once);
        kept = kept_at kept;
      }

  -- and back
  module _ (legal : Legal z) (fine : SlotsFine z h (slot_in t)) where
    pub shapes-ok : slots_shaped z t ≡ true
    shapes-ok = all_made (λ s. shaped z (slot_in t s)) z.slots fine.shapes

    pub pages-ok : pages_apart z t.page ≡ true
    pages-ok = apart-made z t (λ s k l m n. fine.pages s k l (omega arith) (λ q. omega arith) n)

    pub kept-ok : originals_kept h z t ≡ true
    kept-ok = kept-made fine.kept

    pub once-names : Once (frames z) (frame_names h z t)
    unfolding names_kept
    once-names = subst (Once (frames z)) (names-kept h z t legal kept-ok) fine.named

    pub names-ok : each_once (frames z) (frame_names h z t) ≡ true
    names-ok = true-once (frames z) (frame_names h z t) once-names
