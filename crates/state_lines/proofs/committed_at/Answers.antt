use mathlib.Core.Path.{ap, ◌∙◌}
use borrow.Author.Tests.{lt-ltb, le-ltb}
use Rattle.journal.specs.declared.Slot.{Slot}
use Rattle.refinement.specs.Frames.{committed_frame}
use Rattle.state_lines.proofs.committed_at.Goals as goal

pub returns-then-z-s : goal.returns-then-z-s
returns-then-z-s c = rw (le-ltb _ _ c.if-z-s.true) c.entry_at.ensures

pub returns : goal.returns
returns c =
    rw (lt-ltb _ _ c.if-z-s.false) (c.committed_frame.ensures ∙ ap (λ (x : Slot). committed_frame x c.args.l) c.slot_at-t.ensures)
