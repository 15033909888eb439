use mathlib.Core.Path.{◌≡◌}
use lib.ListN.{get_or}
use lib.Dec.{eqb}
use Rattle.bounded.specs.Below.{first_below}
use Rattle.state_words.specs.Decoded.{decoded}
use Rattle.state_held.proofs.slots.slot_of.Given as goal

abbrev pub invariant-loop-s : goal.invariant-loop-s
invariant-loop-s l = first_below l.s (λ k. eqb (get_or (decoded l.words).table.page k 0) l.p) ≡ l.s
