-- The names of frames, each once: spares and homes lie below F, no two of them are alike, and so the copies of lines of
-- different pages lie in different frames.
use Prim.Native.Nat.{ℕ, ◌<◌}
use mathlib.Core.Bool.{true}
use mathlib.Core.Logic.{◌⊎◌, inl, inr, ⊎_elim}
use mathlib.Core.Path.{◌≡◌, sym, ap, ◌∙◌}
use native.Mathlib.Omega.{arith}
use lib.Dec.{ltb}
use borrow.Author.Tests.{ltb-true, lt-ltb}
use Rattle.bounded.specs.Count.{Once}
use Rattle.bounded.proofs.Tests.{case_on}
use Rattle.layout.specs.declared.Sizes.{Sizes}
use Rattle.layout.specs.Layout.{Legal, frames}
use Rattle.replay.specs.declared.Table.{Table}
use Rattle.journal.specs.Slots.{no_page}
use Rattle.replay.specs.Table.{slot_in, slot_of, home_of, frame_names}
use Rattle.masks.specs.Lines.{in_mask}
use Rattle.refinement.specs.Frames.{other_frame}
use Rattle.refinement.specs.Recall.{frame_of}
use Rattle.refinement.proofs.NamesOnce.{spare_low, home-low, spares-apart, homes-apart, spare-home}
use Rattle.refinement.proofs.PageSlots.{slot-page}

-- the frames that page p owns: its home, and its slot's spare
abbrev pub Owned : (ℕ → ℕ) → Sizes → Table → ℕ → ℕ → Type 0
Owned r z t p x = (x ≡ home_of r z t p) ⊎ ((slot_of z t p < z.slots) × (x ≡ (slot_in t (slot_of z t p)).spare))

module _ (r : ℕ → ℕ) (z : Sizes) (t : Table) (legal : Legal z) (once : Once (frames z) (frame_names r z t)) where
  pub owned-low : (p x : ℕ) → p < z.pages → Owned r z t p x → x < frames z
  owned-low p x l o =
      ⊎_elim (λ e. omega (arith, home-low r z t once p l)) (λ e. omega (arith, e.1, spare_low r z t once (slot_of z t p) e.0)) o

  -- pages that own one frame are the same
  pub owned-apart : (p q x y : ℕ) → p < z.pages → q < z.pages → Owned r z t p x → Owned r z t q y → x ≡ y → p ≡ q
  owned-apart p q x y l m a b e =
      ⊎_elim
      (λ u. ⊎_elim (λ v. homes-apart r z t once p q l m (sym u ∙ e ∙ v)) (λ v. absurd (spare-home r z t once (slot_of z t q) p v.0 l (sym v.1 ∙ sym e ∙ u))) b)
      (λ u.
      ⊎_elim
      (λ v. absurd (spare-home r z t once (slot_of z t p) q u.0 m (sym u.1 ∙ e ∙ v)))
      (λ v.
      let k : slot_of z t p ≡ slot_of z t q = spares-apart r z t once (slot_of z t p) (slot_of z t q) u.0 v.0 (sym u.1 ∙ e ∙ v.1) in
      sym (slot-page z t p u.0) ∙ ap (λ (s : ℕ). (slot_in t s).page) k ∙ slot-page z t q v.0)
      b)
      a

  -- no page owns a free slot's spare
  pub spare-unowned : (s p x : ℕ) → s < z.slots → p < z.pages → (slot_in t s).page ≡ no_page → Owned r z t p x → (slot_in t s).spare ≡ x → ⊥
  spare-unowned s p x l m f o e =
      ⊎_elim
      (λ u. spare-home r z t once s p l m (e ∙ u))
      (λ u.
      let k : s ≡ slot_of z t p = spares-apart r z t once s (slot_of z t p) l u.0 (e ∙ u.1) in
      let n : no_page ≡ p = sym f ∙ ap (λ (i : ℕ). (slot_in t i).page) k ∙ slot-page z t p u.0 in
      omega (arith, legal.pages-high))
      o

  -- the home of a slotted page is its slot's original
  pub home-slotted : (p : ℕ) → slot_of z t p < z.slots → home_of r z t p ≡ (slot_in t (slot_of z t p)).original
  home-slotted p l = rw (lt-ltb (slot_of z t p) z.slots l)

  -- both copies of a line of a page lie in frames that it owns
  pub committed-owned : (p l : ℕ) → Owned r z t p (frame_of r z t p l)
  committed-owned p l =
      case_on (ltb (slot_of z t p) z.slots)
      (λ b.
      let m : slot_of z t p < z.slots = ltb-true (slot_of z t p) z.slots b in
      case_on (in_mask (slot_in t (slot_of z t p)).bitmap l)
      (λ c. inr (m, rw (b, c)))
      (λ c. inl (rw (b, c))))
      (λ b. inl (rw b))

  pub other-owned : (p l : ℕ) → slot_of z t p < z.slots → Owned r z t p (other_frame (slot_in t (slot_of z t p)) l)
  other-owned p l m =
      case_on (in_mask (slot_in t (slot_of z t p)).bitmap l)
      (λ c. inl (rw c (sym (home-slotted p m))))
      (λ c. inr (m, rw c))

  -- and they differ
  pub copies_apart : (p l : ℕ) → p < z.pages → slot_of z t p < z.slots → other_frame (slot_in t (slot_of z t p)) l ≡ frame_of r z t p l → ⊥
  copies_apart p l h m e =
      let b : ltb (slot_of z t p) z.slots ≡ true = lt-ltb (slot_of z t p) z.slots m in
      let d : (slot_in t (slot_of z t p)).spare ≡ (slot_in t (slot_of z t p)).original → ⊥ =
      λ q. spare-home r z t once (slot_of z t p) p m h (q ∙ sym (home-slotted p m)) in
      case_on (in_mask (slot_in t (slot_of z t p)).bitmap l)
      (λ c. d (sym (rw (b, c) at e)))
      (λ c. d (rw (b, c) at e))
