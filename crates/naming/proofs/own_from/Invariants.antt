use Rattle.bounded.specs.Below.{all_below}
use lib.ListN.{get_or}
use lib.Dec.{eqb, ltb}
use mathlib.Core.Bool.{◌||◌}
use mathlib.Core.Path.{◌≡◌}
use Rattle.naming.proofs.own_from.Given as goal

abbrev pub invariant-loop-i : goal.invariant-loop-i
invariant-loop-i l = eqb l.differ 0 ≡ all_below l.i (λ k. ltb k l.from || eqb (get_or l.names k 0) k)
