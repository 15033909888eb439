use mathlib.Core.Path.{◌≡◌}
use Rattle.bounded.specs.Below.{least_below}
use Rattle.refinement.specs.Freeing.{may_free, lines_to_copy}
use Rattle.state_words.specs.Decoded.{decoded}
use Rattle.call_consolidate.proofs.choosing.slot_to_free.Given as goal

-- The best of the slots below s, which is s while none of them may be freed.
abbrev pub invariant-loop-s : goal.invariant-loop-s
invariant-loop-s l =
    l.best ≡ least_below l.s (may_free (decoded l.words).table.page (decoded l.words).writers.held) (lines_to_copy (decoded l.words).table.bitmap)
