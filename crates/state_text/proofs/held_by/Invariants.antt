use lib.ListN.{replicate}
use mathlib.Core.Path.{◌≡◌}
use Rattle.bounded.specs.Tab.{filled}
use Rattle.state.specs.Held.{held_at}
use Rattle.state_words.specs.Decoded.{decoded}
use Rattle.state_text.proofs.held_by.Given as goal

abbrev pub invariant-loop-s : goal.invariant-loop-s
invariant-loop-s l = l.row ≡ filled l.s (held_at (decoded l.words).writers.held l.w) (replicate 16 0)
