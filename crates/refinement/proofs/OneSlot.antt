-- One slot changes and the others stay: what of row 8 is kept.
use Prim.Native.Nat.{ℕ, ◌<◌}
use mathlib.Core.Bool.{Bool, true}
use mathlib.Core.List.{List}
use mathlib.Core.Path.{◌≡◌, sym, ap, ◌∙◌, subst}
use lib.Dec.{eqb}
use borrow.Author.Tests.{eqb-true, eqb-false}
use Rattle.bounded.proofs.Tests.{case_on}
use Rattle.layout.specs.declared.Sizes.{Sizes}
use Rattle.journal.specs.declared.Slot.{Slot}
use Rattle.journal.specs.Slots.{no_page, shaped}
use Rattle.state.specs.Held.{held_at}
use Rattle.refinement.proofs.ValidSlots.{Named, SlotsFine}
use Rattle.refinement.proofs.ValidWriters.{HeldFine}

-- g is f with slot s replaced by v
module _ (z : Sizes) (f g : ℕ → Slot) (s : ℕ) (v : Slot) (same : g s ≡ v) (others : (k : ℕ) → (k ≡ s → ⊥) → g k ≡ f k) where
  -- by whether a slot is the one that changed
  pub by-slot : (P : Slot → Type 0) (k : ℕ) → P v → ((k ≡ s → ⊥) → P (f k)) → P (g k)
  by-slot P k a b =
      case_on (eqb k s)
      (λ e. subst P (sym (ap g (eqb-true k s e) ∙ same)) a)
      (λ e. subst P (sym (others k (eqb-false k s e))) (b (eqb-false k s e)))

  -- h' are the pages' own frames then
  pub slots-changed : (h h' : ℕ → ℕ) → SlotsFine z h f → shaped z v ≡ true
      → ((k : ℕ) → k < z.slots → (k ≡ s → ⊥) → (v.page ≡ no_page → ⊥) → v.page ≡ (f k).page → ⊥)
      → Named z h' g → ((v.page ≡ no_page → ⊥) → h' v.page ≡ v.original)
      → ((k : ℕ) → k < z.slots → (k ≡ s → ⊥) → ((f k).page ≡ no_page → ⊥) → h' (f k).page ≡ h (f k).page) → SlotsFine z h' g
  slots-changed h h' fine shape new named own same-own =
      record {
        shapes = λ k l. by-slot (λ (x : Slot). shaped z x ≡ true) k shape (λ n. fine.shapes k l);
        pages =
            λ j k l m d.
            case_on (eqb j s)
            (λ e.
            let q : j ≡ s = eqb-true j s e in
            let n : k ≡ s → ⊥ = λ r. d (q ∙ sym r) in
            subst (λ (x : Slot). (x.page ≡ no_page → ⊥) → x.page ≡ (g k).page → ⊥) (sym (ap g q ∙ same))
            (subst (λ (x : Slot). (v.page ≡ no_page → ⊥) → v.page ≡ x.page → ⊥) (sym (others k n)) (new k m n)))
            (λ e.
            let n : j ≡ s → ⊥ = eqb-false j s e in
            subst (λ (x : Slot). (x.page ≡ no_page → ⊥) → x.page ≡ (g k).page → ⊥) (sym (others j n))
            (by-slot (λ (x : Slot). ((f j).page ≡ no_page → ⊥) → (f j).page ≡ x.page → ⊥) k (λ a q. new j l n (λ x. a (q ∙ x)) (sym q)) (λ r. fine.pages j k l m d)));
        named = named;
        kept = λ k l. by-slot (λ (x : Slot). (x.page ≡ no_page → ⊥) → h' x.page ≡ x.original) k own (λ n a. same-own k l n a ∙ fine.kept k l a);
      }

  -- held lines stay as they are; of a slot that becomes free there must be none
  pub held-changed : (opened : List Bool) (held : List ℕ) → HeldFine z f opened held → ((w : ℕ) → w < 4 → (held_at held w s ≡ 0 → ⊥) → v.page ≡ no_page → ⊥) → HeldFine z g opened held
  held-changed opened held h new =
      record {
        opens = h.opens;
        owned =
            λ k w l m n.
            case_on (eqb k s)
            (λ e.
            let q : k ≡ s = eqb-true k s e in
            subst (λ (x : Slot). x.page ≡ no_page → ⊥) (sym (ap g q ∙ same)) (new w m (subst (λ (x : ℕ). held_at held w x ≡ 0 → ⊥) q n)))
            (λ e. subst (λ (x : Slot). x.page ≡ no_page → ⊥) (sym (others k (eqb-false k s e))) (h.owned k w l m n));
        apart = h.apart;
      }
