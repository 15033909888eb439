use Prim.Native.Nat.{ℕ}
use mathlib.Core.Path.{◌≡◌, sym, ap, ◌∙◌}
use borrow.Author.Tests.{lt-ltb, le-ltb}
use Rattle.masks.specs.Lines.{in_mask}
use Rattle.journal.specs.declared.Slot.{Slot}
use Rattle.state.specs.Held.{held_at}
use Rattle.refinement.specs.Frames.{committed_frame, other_frame}
use Rattle.state_words.specs.Decoded.{decoded}
use Rattle.state_lines.proofs.seen_frame.Lts
use Rattle.state_lines.proofs.seen_frame.Tie
use Rattle.state_lines.proofs.seen_frame.Reads
use Rattle.state_lines.proofs.seen_frame.Goals as goal

abbrev At-After-has : Type 0
At-After-has = Lts.After-has Tie.the-claims Reads.Pre Reads.Post

-- whether the writer holds the line
holds : (c : At-After-has) → let a = c.before.before.before.before.before.args in c.has.result ≡ in_mask (held_at (decoded a.words.now).writers.held a.writer a.s) a.l
holds c = c.has.ensures ∙ ap (λ (m : ℕ). in_mask m c.before.before.before.before.before.args.l) c.before.held_at-m.ensures

pub returns-then-z-s : goal.returns-then-z-s
returns-then-z-s c = rw (le-ltb _ _ c.if-z-s.true) c.entry_at.ensures

pub returns-then-has : goal.returns-then-has
returns-then-has c =
    let h = c.before.before in
    rw (lt-ltb _ _ c.if-z-s.false, sym (holds h) ∙ c.if-has.true) (c.other_frame.ensures ∙ ap (λ (x : Slot). other_frame x c.args.l) c.slot_at-t.ensures)

pub returns : goal.returns
returns c =
    let h = c.before.before in
    rw (lt-ltb _ _ c.if-z-s.false, sym (holds h) ∙ c.if-has.false) (c.committed_frame.ensures ∙ ap (λ (x : Slot). committed_frame x c.args.l) c.slot_at-t.ensures)
