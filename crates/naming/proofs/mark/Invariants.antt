use Rattle.bounded.specs.Below.{up_to}
use lib.ListN.{get_or, set}
use mathlib.Core.Path.{◌≡◌}
use mathlib.Core.Bool.{true}
use Prim.Native.Nat.{min}
use Rattle.naming.proofs.mark.Given as goal

abbrev pub invariant-loop-name : goal.invariant-loop-name
invariant-loop-name l = l.seen ≡ up_to l.name-index (λ k s. set s (min (get_or l.names k 0) 1040) true) l.initial.seen
