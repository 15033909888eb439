use Rattle.naming.specs.Marks.{told}
use Rattle.bounded.specs.Below.{all_below}
use Prim.Native.Nat.{◌*◌, min}
use mathlib.Core.Path.{◌≡◌}
use Rattle.naming.proofs.all_told.Given as goal

abbrev pub invariant-loop-k : goal.invariant-loop-k
invariant-loop-k l = l.all ≡ all_below (min (64 * l.k) l.p) (told l.p l.own l.seen)
