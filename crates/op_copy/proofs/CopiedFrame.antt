-- The frame that an entry's line is copied to: s, u and f are what the code found: slot, slot's contents, frame. h is the map.
use Prim.Native.Nat.{ℕ, ◌<◌, ◌≤◌}
use mathlib.Core.Path.{◌≡◌, ap, ◌∙◌}
use borrow.Author.Tests.{lt-ltb, le-ltb}
use Rattle.layout.specs.declared.Sizes.{Sizes}
use Rattle.entries.specs.Entries.{key_page, key_line}
use Rattle.journal.specs.declared.Slot.{Slot}
use Rattle.replay.specs.declared.Table.{Table}
use Rattle.replay.specs.Table.{slot_in, slot_of}
use Rattle.refinement.specs.Frames.{committed_frame}
use Rattle.refinement.specs.Wide.{copied_frame}

module _ (h : ℕ → ℕ) (z : Sizes) (t : Table) (key s f : ℕ) (e : s ≡ slot_of z t (key_page key)) where
  pub copied-slotted : (u : Slot) → s < z.slots → u ≡ slot_in t s → f ≡ committed_frame u (key_line key) → f ≡ copied_frame h z t key
  copied-slotted u l a b = rw (← e, lt-ltb s z.slots l) (b ∙ ap (λ (x : Slot). committed_frame x (key_line key)) a)

  pub copied-plain : z.slots ≤ s → f ≡ h (key_page key) → f ≡ copied_frame h z t key
  copied-plain l a = rw (← e, le-ltb s z.slots l) a
