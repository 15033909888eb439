-- The frame with the committed copy of line l, f being the page's own frame, s its slot, S where it has none, and t that slot.
use Rattle.std.specs.Prelude.{ℕ, cond, ltb}
use Rattle.layout.specs.declared.Sizes.{Sizes}
use Rattle.journal.specs.declared.Slot.{Slot}
use Rattle.refinement.specs.Frames.{committed_frame}

abbrev pub committed_at : Sizes → Slot → ℕ → ℕ → ℕ → ℕ
committed_at z t s f l = cond (ltb s z.slots) (committed_frame t l) f
