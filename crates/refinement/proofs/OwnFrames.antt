-- The pages' own frames by a map h that has each page's home by r, r being the page table: homes, committed copies and names are the same by either.
use Prim.Native.Nat.{ℕ, ◌<◌}
use mathlib.Core.Bool.{true}
use mathlib.Core.Logic.{⊎_elim}
use mathlib.Core.Path.{◌≡◌, refl, sym, ◌∙◌, subst}
use lib.Dec.{ltb}
use borrow.Author.Tests.{lt-ltb}
use Rattle.bounded.specs.Count.{Once}
use Rattle.bounded.proofs.Below.{all-at}
use Rattle.bounded.proofs.Pigeonhole.{true-once}
use Rattle.bounded.proofs.Tests.{case_on}
use Rattle.layout.specs.declared.Sizes.{Sizes}
use Rattle.layout.specs.Layout.{Legal, frames}
use Rattle.journal.specs.Slots.{shaped}
use Rattle.replay.specs.declared.Table.{Table}
use Rattle.replay.specs.Table.{slot_in, slots_shaped, pages_apart, slot_of, home_of, frame_names}
use Rattle.replay.specs.Map.{originals_kept}
use Rattle.replay.proofs.Maps.{names_same}
use Rattle.journal.proofs.SlotWords.{Owning, Free, shape}
use Rattle.refinement.specs.Frames.{frame_of}
use Rattle.refinement.proofs.PageSlots.{slot_is}
use Rattle.refinement.proofs.ValidSlots.{SlotsFine, slots-fine, kept-made}

module _ (h r : ℕ → ℕ) (z : Sizes) (t : Table) (own : (p : ℕ) → p < z.pages → h p ≡ home_of r z t p) where
  pub home-is : (p : ℕ) → p < z.pages → home_of h z t p ≡ home_of r z t p
  home-is p l = case_on (ltb (slot_of z t p) z.slots) (λ e. rw e) (λ e. let o = own p l in rw e (rw e at o))

  pub frame_is : (p l : ℕ) → p < z.pages → frame_of h z t p l ≡ frame_of r z t p l
  frame_is p l m = case_on (ltb (slot_of z t p) z.slots) (λ e. rw e) (λ e. let o = own p m in rw e (rw e at o))

  pub names-is : frame_names h z t ≡ frame_names r z t
  names-is = names_same h r z t home-is

  -- row 8's rules
  module _ (legal : Legal z) (shapes : slots_shaped z t ≡ true) (apart : pages_apart z t.page ≡ true) where
    kept-is : originals_kept h z t ≡ true
    kept-is =
        kept-made z h t
        (λ s l n.
        let p = (slot_in t s).page in
        let low : p < z.pages =
        ⊎_elim (λ (o : Owning z (slot_in t s)). o.page-low) (λ (f : Free z (slot_in t s)). absurd (n f.page-none))
        (shape z (slot_in t s) (all-at (λ k. shaped z (slot_in t k)) z.slots s l shapes)) in
        let e : slot_of z t p ≡ s = slot_is z t legal apart p s low l refl in
        own p low ∙ rw (e, lt-ltb s z.slots l))

    pub fine-is : Once (frames z) (frame_names r z t) → SlotsFine z h (slot_in t)
    fine-is once = slots-fine z h t legal shapes apart (true-once (frames z) (frame_names h z t) (subst (Once (frames z)) (sym names-is) once)) kept-is
