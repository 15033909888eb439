use mathlib.Core.Path.{◌≡◌}
use lib.ListN.{get_or}
use lib.Dec.{eqb}
use Rattle.bounded.specs.Below.{first_below}
use Rattle.state_words.specs.Decoded.{decoded}
use Rattle.state_held.proofs.held.find_entry.Given as goal

abbrev pub invariant-loop-e : goal.invariant-loop-e
invariant-loop-e l = first_below l.e (λ k. eqb (get_or (decoded l.words).wide.keys k 0) l.key) ≡ l.e
